-- A lowered method is read as its declaration is: the same leaves, and the same edges but for how structs are known. What the fields of
-- lowered structs are is given.
use Rattle.std.specs.Prelude.{◌≡◌, ℕ, List, [], map, Bool, true, false, Option, Some, slice_get}
use Rattle.std.specs.List.{AllZip}
use Rattle.bridge_ast.specs.declared.place.ItemPlace.{ItemPlace}
use Rattle.hir_context.specs.Lookups.{InputStruct}
use Rattle.hir_definitions.specs.declared.methods.Method.{Method}
use Rattle.hir_ids.specs.declared.ids.TypeId.{TypeId}
use Rattle.hir_ids.specs.declared.ids.TypeId.TheVariants as type
use Rattle.hir_lowering.specs.Interface.{Interface}
use Rattle.hir_mentions.specs.Mentions.{where_any}
use Rattle.hir_number.specs.declared.signature.NumberedSignature.{NumberedSignature}
use Rattle.hir_skeleton.specs.Inputs.{method_inputs}
use Rattle.hir_skeleton.specs.Leaves.{DeepLeaf, from_fields, in_field, input_leaves}
use Rattle.hir_skeleton.specs.Lowered.{input_fields}
use Rattle.hir_skeleton.specs.Skeletons.{Skeleton}
use Rattle.hir_types.specs.Named.{lifetimes_named}
use Rattle.hir_readings.specs.Declared.{declared_fields, declared_function, declared_methods, method_signature}
use Rattle.hir_readings.specs.Inputs.{edges_of_inputs, input_known_as, leaves_of_inputs, lowered_inputs, numbered_inputs}
use Rattle.hir_readings.specs.Knowing.{edge_known_as, id_there}
use Rattle.hir_readings.specs.NamedLifetimes.{returned_lifetimes}

-- ---- structs

-- which fields a struct has among these
abbrev pub fields_among : List InputStruct → TypeId → List (Skeleton TypeId)
fields_among structs (type.Struct n) = where_any input_fields (slice_get structs n)
fields_among structs _ = []

-- ---- methods and functions

-- all leaves of the inputs of a method, where it is known which fields a struct has
abbrev pub leaves_among : (TypeId → List (Skeleton TypeId)) → Method → List DeepLeaf
leaves_among fields_of m = from_fields in_field (input_leaves fields_of m.lifetime_env.count) (method_inputs m)

-- those of a declaration with that numbered signature
abbrev pub declared_leaves : Interface → NumberedSignature → List DeepLeaf
declared_leaves it n = leaves_of_inputs (declared_fields it) n.lifetimes.count (numbered_inputs it.catalog n)

-- a lowered method has the lifetimes of the numbered signature, and its return names the same; its inputs are those of the signature with
-- the ids of structs in place of their places, with the same leaves, and by any test of lifetimes with the same edges but for these ids
pub record IsReadLike (it : Interface) (fields_of : TypeId → List (Skeleton TypeId)) (m : Method) (n : NumberedSignature) : Type 0 where
  pub lifetimes : m.lifetime_env ≡ n.lifetimes
  pub named : lifetimes_named m.output ≡ returned_lifetimes it.catalog n.output
  pub inputs : lowered_inputs m ≡ map (input_known_as (id_there it.catalog)) (numbered_inputs it.catalog n)
  pub leaves : leaves_among fields_of m ≡ declared_leaves it n
  pub edges : (test : ℕ → Bool)
      → edges_of_inputs test (lowered_inputs m) ≡ map (map (edge_known_as (id_there it.catalog))) (edges_of_inputs test (numbered_inputs it.catalog n))

-- the declaration has a numbered signature, and the method is read as that is
pub record IsReadAsDeclared (it : Interface) (fields_of : TypeId → List (Skeleton TypeId)) (m : Method) (declared : Option NumberedSignature) : Type 0 where
  pub signature : NumberedSignature
  pub has : declared ≡ Some signature
  pub reads : IsReadLike it fields_of m signature

-- lowered methods are those of the type at a place, in order, each read as it is declared
abbrev pub AreReadAsDeclared : Interface → (TypeId → List (Skeleton TypeId)) → List Method → ItemPlace → Type 0
AreReadAsDeclared it fields_of methods place =
    AllZip (λ m declared. IsReadAsDeclared it fields_of m (method_signature (it.names place.«module») declared)) methods (declared_methods it place)

-- an enabled function is read as the one at the place is declared, and a disabled one takes nothing
pub record IsFunctionRead (it : Interface) (fields_of : TypeId → List (Skeleton TypeId)) (m : Method) (place : ItemPlace) : Type 0 where
  pub enabled : m.attrs.disable ≡ false → IsReadAsDeclared it fields_of m (declared_function it place)
  pub disabled : m.attrs.disable ≡ true → lowered_inputs m ≡ []
