-- Which numbered signature a declaration is, where its uses of lifetimes have these numbers: its types without lifetimes, with the numbers
-- filled in.
use Rattle.std.specs.Prelude.{ℕ, List, map, Option, None, option_map}
use Rattle.bridge_decl.specs.declared.functions.Function.{Function}
use Rattle.bridge_decl.specs.declared.lifetimes.LifetimeEnv.{LifetimeEnv}
use Rattle.bridge_decl.specs.declared.methods.Method.{Method}
use Rattle.bridge_decl.specs.declared.methods.Param.{Param}
use Rattle.bridge_decl.specs.declared.methods.SelfParam.{SelfParam}
use Rattle.bridge_decl.specs.declared.structs.Struct.{Struct}
use Rattle.bridge_decl.specs.declared.traits.TraitMethod.{TraitMethod}
use Rattle.bridge_decl.specs.declared.types.Mutability.{Mutability}
use Rattle.bridge_decl.specs.declared.types.TypeName.{TypeName}
use Rattle.hir_elide.specs.Signature.{environment_of}
use Rattle.hir_life.specs.declared.maybe_static.MaybeStatic.{MaybeStatic}
use Rattle.hir_number.specs.declared.numbered.NumberedType.{NumberedType}
use Rattle.hir_number.specs.declared.signature.NumberedSignature.{NumberedSignature}
use Rattle.hir_number.specs.declared.trait_methods.NumberedTraitMethod.{NumberedTraitMethod}
use Rattle.hir_number.specs.Naming.{Naming}
use Rattle.hir_number.specs.Numbered.{receiver_shape, trait_receiver_shape}
use Rattle.hir_number.specs.Occurrences.{signature_with}
use Rattle.hir_number.specs.Shapes.{NumberLists, borrow_shape, shape}
use Rattle.hir_number.specs.Signatures.{Placed, function_uses, method_uses, receiver_borrow, trait_borrow, trait_method_uses, without_writer}
use Rattle.hir_stages.specs.Filling.{Fill, fill_borrow, fill_each, fill_output, fill_own, fill_trait_own, fill_type}

-- over what a receiver is, and what is made of all parts
module _ {B O R : Type 0} (fill : B → Fill O) (make : Option (MaybeStatic ℕ × Mutability) → O → List NumberedType → Option NumberedType → R) where
  abbrev pub with_output : Option (MaybeStatic ℕ × Mutability) → O → List NumberedType → Option NumberedType × NumberLists → R
  with_output b o ps output = make b o ps output.0

  abbrev pub with_params : Option (MaybeStatic ℕ × Mutability) → O → Option NumberedType → List NumberedType × NumberLists → R
  with_params b o output ps = with_output b o ps.0 (fill_output output ps.1)

  abbrev pub with_receiver : Option (MaybeStatic ℕ × Mutability) → List NumberedType → Option NumberedType → O × NumberLists → R
  with_receiver b params output o = with_params b o.0 output (fill_each (map fill_type params) o.1)

  abbrev pub with_borrow : B → List NumberedType → Option NumberedType → Option (MaybeStatic ℕ × Mutability) × NumberLists → R
  with_borrow own params output b = with_receiver b.0 params output (fill own b.1)

  -- the borrow of the receiver, its type, the parameters and the return, one after another
  abbrev pub filled_parts : Option (MaybeStatic ℕ × Mutability) → B → List NumberedType → Option NumberedType → NumberLists → R
  filled_parts borrow own params output ns = with_borrow own params output (fill_borrow borrow ns)

-- a signature that declares these lifetimes, and uses these
abbrev pub filled_signature : Naming → LifetimeEnv → Option SelfParam → List Param → Option TypeName → List Placed → NumberLists → NumberedSignature
filled_signature names declared receiver inputs returned us =
    filled_parts fill_own (λ b o ps out. record { borrow = b; own = o; params = ps; output = out; lifetimes = environment_of (signature_with declared us) })
    (borrow_shape (receiver_borrow receiver)) (receiver_shape names receiver) (map (λ param. shape names param.ty) inputs) (option_map (shape names) returned)

abbrev pub filled_method : Naming → Method → NumberLists → NumberedSignature
filled_method names method =
    filled_signature names method.lifetime_env method.self_param (without_writer method.params) method.return_type (method_uses names method)

abbrev pub filled_function : Naming → Function → NumberLists → NumberedSignature
filled_function names function =
    filled_signature names function.lifetimes None (without_writer function.params) function.output_type (function_uses names function)

abbrev pub filled_trait_method : Naming → TraitMethod → NumberLists → NumberedTraitMethod
filled_trait_method names method =
    filled_parts fill_trait_own (λ b o ps out. record { borrow = b; own = o; params = ps; output = out; lifetimes = environment_of (signature_with method.lifetimes (trait_method_uses names method)) })
    (borrow_shape (trait_borrow method.self_param)) (trait_receiver_shape names method.self_param) (map (λ param. shape names param.ty) method.params)
    (option_map (shape names) method.output_type)

-- the fields of a struct
abbrev pub filled_fields : Naming → Struct → NumberLists → List NumberedType
filled_fields names item ns = (fill_each (map fill_type (map (λ field. shape names field.ty) item.fields)) ns).0
