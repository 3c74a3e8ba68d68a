-- What types name at each position, and what callbacks and methods name.
use Rattle.std.specs.Prelude.{ℕ, List, [], ◌++◌, Some}
use Rattle.std.specs.List.{flat_map}
use Rattle.hir_ids.specs.Owners.{lent}
use Rattle.hir_ids.specs.declared.owners.Borrow.{Borrow as Loan}
use Rattle.hir_types.specs.Named.{ReturnedType}
use Rattle.hir_types.specs.SelfTypes.{FieldType}
use Rattle.hir_types.specs.declared.callbacks.Callback.{Callback}
use Rattle.hir_types.specs.declared.callbacks.NoCallback.{NoCallback}
use Rattle.hir_types.specs.declared.paths.StructPath.{StructPath}
use Rattle.hir_types.specs.declared.paths.TraitPath.{TraitPath}
use Rattle.hir_types.specs.declared.positions.CallbackReturn.{CallbackReturn}
use Rattle.hir_types.specs.declared.positions.InputOnly.{InputOnly}
use Rattle.hir_types.specs.declared.types.HirType.{HirType}
use Rattle.hir_definitions.specs.declared.methods.Method.{Method}
use Rattle.hir_mentions.specs.Mentions.{Mentioned, where_any}
use Rattle.hir_mentions.specs.Types.{type_mentions, return_mentions, struct_path_mentions, returnable_mentions, trait_path_mentions, receiver_mentions}

-- the types of what methods take
abbrev pub InputType : Type 0
InputType = HirType InputOnly Callback Loan ℕ StructPath TraitPath

-- the types of what callbacks return
abbrev pub CallbackReturnType : Type 0
CallbackReturnType = HirType CallbackReturn NoCallback Loan ℕ StructPath TraitPath

-- the type of a field
abbrev pub field_mentions : FieldType → List Mentioned
field_mentions = type_mentions Some struct_path_mentions (λ _. []) (λ _. [])

-- a type of what methods return, of what callbacks take, and of the fields of structs that are only returned
abbrev pub output_mentions : ReturnedType → List Mentioned
output_mentions = type_mentions lent returnable_mentions (λ _. []) (λ _. [])

-- a type of what callbacks return
abbrev pub callback_return_mentions : CallbackReturnType → List Mentioned
callback_return_mentions = type_mentions Some struct_path_mentions trait_path_mentions (λ _. [])

-- a callback, or a method of a trait: the trait that it takes where it takes one, what it takes besides, and what it returns
abbrev pub callback_mentions : Callback → List Mentioned
callback_mentions c =
    where_any (λ r. trait_path_mentions r.trait_path) c.param_self ++ flat_map (λ p. output_mentions p.ty) c.params
    ++ return_mentions callback_return_mentions c.output

-- a type of what methods take
abbrev pub input_mentions : InputType → List Mentioned
input_mentions = type_mentions Some struct_path_mentions trait_path_mentions callback_mentions

-- a method or function: its receiver where it has one, what it takes besides, and what it returns
abbrev pub method_mentions : Method → List Mentioned
method_mentions m =
    where_any (λ r. receiver_mentions r.ty) m.param_self ++ flat_map (λ p. input_mentions p.ty) m.params
    ++ return_mentions output_mentions m.output
