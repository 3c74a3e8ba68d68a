-- The names along a path among the definitions of a context are those that declarations have.
use Rattle.std.proofs.Common.{◌≡◌, ℕ, zero, suc, List, [], ◌∷◌, ◌++◌, map, Option, Some, None, refl, ap, ◌∙◌}
use Rattle.std.specs.Prelude.{slice_get}
use Rattle.bridge_ast.specs.declared.place.ItemPlace.{ItemPlace}
use Rattle.hir_context.specs.Lookups.{InputStruct}
use Rattle.hir_context.specs.declared.parts.Definitions.{Definitions}
use Rattle.hir_definitions.specs.declared.methods.Method.{Method}
use Rattle.hir_ids.specs.declared.ids.TypeId.{TypeId}
use Rattle.hir_lowering.specs.Interface.{Interface}
use Rattle.hir_mentions.specs.Mentions.{where_any}
use Rattle.hir_skeleton.specs.Inputs.{field_names, fields_in, input_names, input_struct, method_inputs, path_names}
use Rattle.hir_skeleton.specs.Skeletons.{Skeleton, Nothing, Carrier, Struct}
use Rattle.hir_readings.specs.Declared.{declared_fields}
use Rattle.hir_readings.specs.Knowing.{id_there, known_as}
use Rattle.bridge_callables.specs.Names.{declared_field_names, declared_names_inside, declared_path_names, name_of_number}
use Rattle.bridge_callables.proofs.FieldNames.{names_in}

-- the name of a field by its number
one_name : {F : Type 0} (name : F → List ℕ) (fields : List F) (i : ℕ) → where_any (λ field. name field ∷ []) (slice_get fields i) ≡ name_of_number (map name fields) i
one_name name [] i = refl
one_name name (field ∷ fields) zero = refl
one_name name (field ∷ fields) (suc i) = one_name name fields i

field_name : (o : Option InputStruct) (i : ℕ) → where_any (λ def. where_any (λ field. field.name ∷ []) (slice_get def.fields i)) o ≡ name_of_number (where_any names_in o) i
field_name None i = refl
field_name (Some def) i = one_name (λ field. field.name) def.fields i

-- what is read of the one of a number is the same where each is known otherwise
known_at : {A B C : Type 0} (f : A → B) (here : B → List C) (there : A → List C) → ((a : A) → here (f a) ≡ there a)
    → (xs : List A) (i : ℕ) → where_any here (slice_get (map f xs) i) ≡ where_any there (slice_get xs i)
known_at f here there same [] i = refl
known_at f here there same (x ∷ xs) zero = same x
known_at f here there same (x ∷ xs) (suc i) = known_at f here there same xs i

module _ (it : Interface) (defs : Definitions)
    (fields_agree : (place : ItemPlace) → fields_in defs (id_there it.catalog place) ≡ map (known_as (id_there it.catalog)) (declared_fields it place))
    (names_agree : (place : ItemPlace) → where_any names_in (input_struct defs (id_there it.catalog place)) ≡ declared_field_names it place)
  where
    abbrev known : Skeleton ItemPlace → Skeleton TypeId
    known = known_as (id_there it.catalog)

    pub inside_same : (path : List ℕ) (s : Skeleton ItemPlace) → field_names defs path (known s) ≡ declared_names_inside it path s
    inside_same [] s = refl
    inside_same (i ∷ rest) Nothing = refl
    inside_same (i ∷ rest) (Carrier lifetimes) = refl
    inside_same (i ∷ rest) (Struct place args) =
        let inner = where_any (field_names defs rest) (slice_get (fields_in defs (id_there it.catalog place)) i) in
        ap (λ name. name ++ inner) (field_name (input_struct defs (id_there it.catalog place)) i ∙ ap (λ names. name_of_number names i) (names_agree place))
        ∙ ap (λ more. name_of_number (declared_field_names it place) i ++ more)
        (ap (λ fields. where_any (field_names defs rest) (slice_get fields i)) (fields_agree place) ∙ known_at known (field_names defs rest) (declared_names_inside it rest) (inside_same rest) (declared_fields it place) i)

    -- where the inputs of a method are these, with these names
    pub path_same : (self_name : List ℕ) (m : Method) (names : List (List ℕ)) (inputs : List (Skeleton ItemPlace)) → input_names self_name m ≡ names → method_inputs m ≡ map known inputs
        → (path : List ℕ) → path_names defs self_name m path ≡ declared_path_names it names inputs path
    path_same self_name m names inputs names_are inputs_are [] = refl
    path_same self_name m names inputs names_are inputs_are (i ∷ rest) =
        ap (λ all. name_of_number all i ++ where_any (field_names defs rest) (slice_get (method_inputs m) i)) names_are
        ∙ ap (λ all. name_of_number names i ++ where_any (field_names defs rest) (slice_get all i)) inputs_are
        ∙ ap (λ more. name_of_number names i ++ more) (known_at known (field_names defs rest) (declared_names_inside it rest) (inside_same rest) inputs i)
