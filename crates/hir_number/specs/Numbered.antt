-- A signature or a definition whose lifetimes have numbers: it is as it is declared, but for the lifetimes, and the numbers in it
-- are those of its uses, in order.
use Rattle.std.specs.Prelude.{◌≡◌, ℕ, List, [], ◌∷◌, ◌++◌, map, option_map, Option, Some, None, Ok}
use Rattle.std.specs.List.{All}
use Rattle.bridge_decl.specs.declared.functions.Function.{Function}
use Rattle.bridge_decl.specs.declared.lifetimes.LifetimeEnv.{LifetimeEnv}
use Rattle.bridge_decl.specs.declared.methods.Method.{Method}
use Rattle.bridge_decl.specs.declared.methods.Param.{Param}
use Rattle.bridge_decl.specs.declared.methods.SelfParam.{SelfParam}
use Rattle.bridge_decl.specs.declared.structs.Struct.{Struct}
use Rattle.bridge_decl.specs.declared.traits.TraitMethod.{TraitMethod}
use Rattle.bridge_decl.specs.declared.traits.TraitSelfParam.{TraitSelfParam}
use Rattle.bridge_decl.specs.declared.types.TypeName.{TypeName}
use Rattle.hir_elide.specs.Signature.{environment_of}
use Rattle.hir_life.specs.Substitution.{AreBelow}
use Rattle.hir_number.specs.declared.numbered.Kind.{Kind}
use Rattle.hir_number.specs.declared.numbered.NumberedType.{NumberedType}
use Rattle.hir_number.specs.declared.numbered.Target.{Target}
use Rattle.hir_number.specs.declared.numbered.TraitTarget.{TraitTarget}
use Rattle.hir_number.specs.declared.signature.NumberedSignature.{NumberedSignature}
use Rattle.hir_number.specs.declared.trait_methods.NumberedTraitMethod.{NumberedTraitMethod}
use Rattle.hir_number.specs.Naming.{Definition, Naming, trait_found, type_found}
use Rattle.hir_number.specs.Numbers.{signature_numbers}
use Rattle.hir_number.specs.Occurrences.{signature_with}
use Rattle.hir_number.specs.Shapes.{NumberLists, bare, bare_borrow, bare_target, bare_trait, borrow_numbers, borrow_shape, numbers_in, shape}
use Rattle.hir_number.specs.Signatures.{Placed, field_uses, function_uses, method_uses, receiver_borrow, trait_borrow, trait_method_uses, without_writer}
use Rattle.hir_number.specs.Uses.{concatenated}

-- ---- numbers

-- those of a receiver's type
abbrev pub receiver_numbers : Option Target → NumberLists
receiver_numbers None = []
receiver_numbers (Some t) = t.lifetimes ∷ []

abbrev pub trait_receiver_numbers : Option TraitTarget → NumberLists
trait_receiver_numbers None = []
trait_receiver_numbers (Some t) = t.lifetimes ∷ []

-- those of types, one after another
abbrev pub numbers_of_each : List NumberedType → NumberLists
numbers_of_each types = concatenated (map numbers_in types)

-- those of a return
abbrev pub output_numbers : Option NumberedType → NumberLists
output_numbers None = []
output_numbers (Some ty) = numbers_in ty

-- those of a signature
abbrev pub numbers_of : NumberedSignature → NumberLists
numbers_of n = (borrow_numbers n.borrow ++ (receiver_numbers n.own ++ numbers_of_each n.params)) ++ output_numbers n.output

abbrev pub trait_numbers_of : NumberedTraitMethod → NumberLists
trait_numbers_of n = (borrow_numbers n.borrow ++ (trait_receiver_numbers n.own ++ numbers_of_each n.params)) ++ output_numbers n.output

-- ---- receivers without lifetimes

abbrev pub target_of : Definition × Kind → Target
target_of found = record { place = found.0.place; kind = found.1; lifetimes = [] }

-- the receiver's type
abbrev pub receiver_shape : Naming → Option SelfParam → Option Target
receiver_shape names None = None
receiver_shape names (Some receiver) = option_map target_of (type_found (names.type_at receiver.path_type.segments))

abbrev pub trait_target_of : Definition → TraitTarget
trait_target_of found = record { place = found.place; lifetimes = [] }

abbrev pub trait_receiver_shape : Naming → Option TraitSelfParam → Option TraitTarget
trait_receiver_shape names None = None
trait_receiver_shape names (Some receiver) = option_map trait_target_of (trait_found (names.trait_at receiver.path_trait.segments))

-- ---- signatures and definitions

-- a signature that declares these lifetimes, and uses these, is numbered so
pub record IsNumbered (names : Naming) (declared : LifetimeEnv) (receiver : Option SelfParam) (inputs : List Param)
    (returned : Option TypeName) (us : List Placed) (n : NumberedSignature) : Type 0 where
  pub numbers : signature_numbers declared us ≡ Ok (numbers_of n)
  pub borrow : bare_borrow n.borrow ≡ borrow_shape (receiver_borrow receiver)
  pub own : option_map bare_target n.own ≡ receiver_shape names receiver
  pub params : map bare n.params ≡ map (λ param. shape names param.ty) inputs
  pub output : option_map bare n.output ≡ option_map (shape names) returned
  pub lifetimes : n.lifetimes ≡ environment_of (signature_with declared us)

-- a method
abbrev pub IsNumberedMethod : Naming → Method → NumberedSignature → Type 0
IsNumberedMethod names method n =
    IsNumbered names method.lifetime_env method.self_param (without_writer method.params) method.return_type (method_uses names method) n

-- a function
abbrev pub IsNumberedFunction : Naming → Function → NumberedSignature → Type 0
IsNumberedFunction names function n =
    IsNumbered names function.lifetimes None (without_writer function.params) function.output_type (function_uses names function) n

-- a trait's method
pub record IsNumberedTraitMethod (names : Naming) (method : TraitMethod) (n : NumberedTraitMethod) : Type 0 where
  pub numbers : signature_numbers method.lifetimes (trait_method_uses names method) ≡ Ok (trait_numbers_of n)
  pub borrow : bare_borrow n.borrow ≡ borrow_shape (trait_borrow method.self_param)
  pub own : option_map bare_trait n.own ≡ trait_receiver_shape names method.self_param
  pub params : map bare n.params ≡ map (λ param. shape names param.ty) method.params
  pub output : option_map bare n.output ≡ option_map (shape names) method.output_type
  pub lifetimes : n.lifetimes ≡ environment_of (signature_with method.lifetimes (trait_method_uses names method))

-- the fields of a struct
pub record AreNumberedFields (names : Naming) (item : Struct) (types : List NumberedType) : Type 0 where
  pub numbers : signature_numbers item.lifetimes (field_uses names item.fields) ≡ Ok (numbers_of_each types)
  pub shapes : map bare types ≡ map (λ field. shape names field.ty) item.fields

-- ---- each number is one of the lifetimes

-- each is `'static`, or below their count
abbrev pub AreWithin : ℕ → NumberLists → Type 0
AreWithin count numbers = All (AreBelow count) numbers
