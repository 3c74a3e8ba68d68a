-- What is told of lifetimes that a method of a type returns: none is that of a reference to a struct, nor one of a slice of opaques.
use Rattle.std.specs.Prelude.{ℕ, List, [], ◌∷◌, ◌++◌, Bool, false, ◌&&◌, ◌||◌, cond, Option, Some, nat_lt}
use Rattle.std.specs.List.{flat_map}
use Rattle.bridge_telling.specs.Telling.{one_if}
use Rattle.hir_attrs.specs.Reading.{about}
use Rattle.hir_definitions.specs.declared.methods.Method.{Method}
use Rattle.hir_definitions.specs.declared.methods.Param.{Param}
use Rattle.hir_definitions.specs.declared.methods.ParamSelf.{ParamSelf}
use Rattle.hir_ids.specs.declared.ids.TypeId.{TypeId}
use Rattle.hir_ids.specs.declared.ids.TypeId.TheVariants as type
use Rattle.hir_ids.specs.declared.owners.MaybeOwn.{MaybeOwn}
use Rattle.hir_ids.specs.declared.owners.MaybeOwn.TheVariants as owner
use Rattle.hir_life.specs.Environment.{Environment}
use Rattle.hir_life.specs.Naming.{printed_name}
use Rattle.hir_life.specs.declared.maybe_static.MaybeStatic.{MaybeStatic}
use Rattle.hir_mentions.specs.Mentions.{where_any}
use Rattle.hir_reports.specs.declared.report.LoweringError.{LoweringError}
use Rattle.hir_reports.specs.declared.rule.Rule.TheVariants as rule
use Rattle.hir_types.specs.Named.{lifetimes_named}
use Rattle.hir_types.specs.Types.{lifetimes_within}
use Rattle.hir_types.specs.declared.self_types.SelfType.{SelfType}
use Rattle.hir_types.specs.declared.self_types.SelfType.TheVariants as receiver
use Rattle.hir_validation.specs.Lifetimes.{is_numbered, is_returned, where_number}
use Rattle.hir_validation.specs.WholeTypes.{Whole, Primitive, Enum, Opaque, Struct, Slice, Callback, Other, TakenType, param_whole}

-- all lifetimes of a parameter
abbrev pub param_lifetimes : TakenType → List (MaybeStatic ℕ)
param_lifetimes = lifetimes_within Some (λ path. path.lifetimes) (λ path. path.owner)

-- over the lifetimes of the method, and those that it returns
module _ (env : Environment) (returned : List (MaybeStatic ℕ)) where
  -- it is one of the method's, and is returned
  abbrev pub comes_back : ℕ → Bool
  comes_back l = is_returned returned l && nat_lt l env.count

  -- ---- references to structs

  abbrev pub returned_lifetime_errors : ℕ → List LoweringError
  returned_lifetime_errors l = one_if (comes_back l) (about rule.StructRefReturned (printed_name env l))

  abbrev pub returned_reference_errors : MaybeOwn → List LoweringError
  returned_reference_errors owner.Own = []
  returned_reference_errors (owner.Borrow b) = where_number returned_lifetime_errors b.lifetime

  abbrev pub returned_self_errors : SelfType → List LoweringError
  returned_self_errors (receiver.Struct path) = returned_reference_errors path.owner
  returned_self_errors (receiver.Opaque path) = []
  returned_self_errors (receiver.Enum path) = []

  -- ---- slices of opaques

  abbrev pub element_error : List ℕ → ℕ → LoweringError
  element_error name l = record { rule = rule.OpaqueSliceBorrowed; args = name ∷ printed_name env l ∷ [] }

  abbrev pub numbered_element_errors : List ℕ → ℕ → List LoweringError
  numbered_element_errors name l = one_if (comes_back l) (element_error name l)

  -- unless it is known
  abbrev pub unknown_element_errors : (ℕ → Bool) → List ℕ → ℕ → List LoweringError
  unknown_element_errors known name l = cond (known l) [] (numbered_element_errors name l)

  -- of each of these that isn't, once
  abbrev pub element_lifetime_errors : (ℕ → Bool) → List ℕ → List (MaybeStatic ℕ) → List LoweringError
  element_lifetime_errors known name [] = []
  element_lifetime_errors known name (x ∷ xs) =
      where_number (unknown_element_errors known name) x ++ element_lifetime_errors (λ l. known l || is_numbered l x) name xs

  abbrev pub opaque_element_errors : List ℕ → List (MaybeStatic ℕ) → TypeId → List LoweringError
  opaque_element_errors name lifetimes (type.Opaque number) = element_lifetime_errors (λ l. false) name lifetimes
  opaque_element_errors name lifetimes (type.Struct number) = []
  opaque_element_errors name lifetimes (type.OutStruct number) = []
  opaque_element_errors name lifetimes (type.Enum number) = []

  -- ---- parameters

  abbrev pub returned_whole_errors : List ℕ → List (MaybeStatic ℕ) → Whole → List LoweringError
  returned_whole_errors name lifetimes (Struct id held given) = returned_reference_errors held
  returned_whole_errors name lifetimes (Slice element) = where_any (opaque_element_errors name lifetimes) element
  returned_whole_errors name lifetimes Primitive = []
  returned_whole_errors name lifetimes (Enum number) = []
  returned_whole_errors name lifetimes (Opaque number borrow given) = []
  returned_whole_errors name lifetimes (Callback output) = []
  returned_whole_errors name lifetimes Other = []

  abbrev pub returned_param_errors : Param → List LoweringError
  returned_param_errors param = returned_whole_errors param.name (param_lifetimes param.ty) (param_whole param.ty)

  abbrev pub returned_receiver_errors : Option ParamSelf → List LoweringError
  returned_receiver_errors self = where_any (λ it. returned_self_errors it.ty) self

  abbrev pub returned_input_errors : Option ParamSelf → List Param → List LoweringError
  returned_input_errors self params = returned_receiver_errors self ++ flat_map returned_param_errors params

-- ---- of a method

unfoldable pub method_returned_errors : Method → List LoweringError
method_returned_errors method = returned_input_errors method.lifetime_env (lifetimes_named method.output) method.param_self method.params
