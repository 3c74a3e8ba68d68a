-- The way along a path: from struct to struct it has the names of the fields.
use Rattle.std.proofs.Common.{◌≡◌, ℕ, ◌+◌, ◌<◌, ◌≤◌, false, List, [], ◌∷◌, ◌++◌, length, map, drop, get_or, cond, Option, Some, None, refl, sym, ap, ◌∙◌, append_assoc}
use Rattle.std.specs.Prelude.{slice_get, option_and_then, option_map, codes}
use Rattle.std.proofs.lemmas.List.{append-nil, drop_more, drop_all}
use Rattle.std.proofs.lemmas.List.Concat.{flat_map-append}
use Rattle.std.proofs.lemmas.Option.{slice_get-map}
use Rattle.bridge_outside.specs.Outside.{SinkState}
use Rattle.bridge_outside.specs.Printing.{Printing, Prints}
use Rattle.bridge_outside.proofs.PrintingLaws.{◌⨟◌, prints_nothing, prints_same}
use Rattle.bridge_page.specs.inside.Printed.{dotted}
use Rattle.bridge_page.specs.inside.Walked.{field_struct_id, name_of_field, names_from, struct_at, number_of_struct}
use Rattle.hir_context.specs.Lookups.{InputStruct}
use Rattle.hir_context.specs.declared.parts.Definitions.{Definitions}
use Rattle.hir_definitions.specs.declared.definitions.StructField.{StructField}
use Rattle.hir_ids.specs.declared.ids.TypeId.{TypeId}
use Rattle.hir_ids.specs.declared.owners.Borrow.{Borrow}
use Rattle.hir_types.specs.declared.callbacks.NoCallback.{NoCallback}
use Rattle.hir_types.specs.declared.paths.NoTraitPath.{NoTraitPath}
use Rattle.hir_types.specs.declared.paths.StructPath.{StructPath}
use Rattle.hir_types.specs.declared.positions.Everywhere.{Everywhere}
use Rattle.hir_ids.specs.declared.ids.TypeId.TheVariants as type
use Rattle.hir_mentions.specs.Mentions.{where_any}
use Rattle.hir_skeleton.specs.Inputs.{field_names}
use Rattle.hir_skeleton.specs.Lowered.{field_skeleton, input_fields}
use Rattle.hir_skeleton.specs.Skeletons.{Skeleton, Nothing, Carrier, Struct}

-- ---- fields

abbrev pub FieldOf : Type 0
FieldOf = StructField Everywhere NoCallback Borrow ℕ StructPath NoTraitPath

-- the name of a field that there is
pub field_text : (def : InputStruct) (i : ℕ) (name : List ℕ) → name ∷ [] ≡ name_of_field i def → codes "." ++ name ≡ dotted (name_of_field i def)
field_text def i name is = sym (append-nil (codes "." ++ name)) ∙ ap dotted is

-- the fields of a struct that isn't disabled, as skeletons
fields_on : (def : InputStruct) (i : ℕ) → def.attrs.disable ≡ false
    → field_struct_id i def ≡ option_and_then number_of_struct (option_map (λ field. field_skeleton field.ty) (slice_get def.fields i))
fields_on def i on =
    ap (λ b. option_and_then number_of_struct (slice_get (cond b [] (map (λ field. field_skeleton field.ty) def.fields)) i)) on
    ∙ ap (option_and_then number_of_struct) (slice_get-map (λ field. field_skeleton field.ty) def.fields i)

-- ---- names

module _ (defs : Definitions) where
  nowhere : (fields : List ℕ) → names_from defs fields None ≡ []
  nowhere [] = refl
  nowhere (i ∷ rest) = nowhere rest

  -- a path goes on from a field, if that is a struct
  goes_on : (rest : List ℕ) → ((s : Skeleton TypeId) → field_names defs rest s ≡ names_from defs rest (number_of_struct s))
      → (field : Option (Skeleton TypeId)) → where_any (field_names defs rest) field ≡ names_from defs rest (option_and_then number_of_struct field)
  goes_on rest each None = sym (nowhere rest)
  goes_on rest each (Some s) = each s

  in_struct : (i : ℕ) (rest : List ℕ) → ((s : Skeleton TypeId) → field_names defs rest s ≡ names_from defs rest (number_of_struct s)) → (def : Option InputStruct)
      → where_any (name_of_field i) def ++ where_any (field_names defs rest) (slice_get (where_any input_fields def) i)
      ≡ where_any (name_of_field i) def ++ names_from defs rest (option_and_then (field_struct_id i) def)
  in_struct i rest each None = sym (nowhere rest)
  in_struct i rest each (Some def) = ap (λ names. name_of_field i def ++ names) (goes_on rest each (slice_get (input_fields def) i))

  -- only the struct counts from which a path begins
  names_walked : (fields : List ℕ) (s : Skeleton TypeId) → field_names defs fields s ≡ names_from defs fields (number_of_struct s)
  names_walked [] s = refl
  names_walked (i ∷ rest) Nothing = sym (nowhere rest)
  names_walked (i ∷ rest) (Carrier lifetimes) = sym (nowhere rest)
  names_walked (i ∷ rest) (Struct (type.Struct id) args) = in_struct i rest (names_walked rest) (slice_get defs.structs.defs id)
  names_walked (i ∷ rest) (Struct (type.OutStruct id) args) = sym (nowhere rest)
  names_walked (i ∷ rest) (Struct (type.Opaque id) args) = sym (nowhere rest)
  names_walked (i ∷ rest) (Struct (type.Enum id) args) = sym (nowhere rest)

  -- the names of fields from an input on
  pub fields_walked : (fields : List ℕ) (inside : Option (Skeleton TypeId))
      → dotted (names_from defs fields (option_and_then number_of_struct inside)) ≡ dotted (where_any (field_names defs fields) inside)
  fields_walked fields inside = ap dotted (sym (goes_on fields (names_walked fields) inside))

-- ---- the walk

-- so many fields were printed, and the walk is inside this struct
pub record WalkedSoFar (old : SinkState) (out : Printing) (new : SinkState) (out' : Printing) (defs : Definitions) (start inside : Option ℕ)
    (fields : List ℕ) (i : ℕ) : Type 0 where
  pub done : List ℕ
  pub printed : Prints old out new out' done
  pub left : done ++ dotted (names_from defs (drop i fields) inside) ≡ dotted (names_from defs fields start)

module _ {old : SinkState} {out : Printing} (defs : Definitions) (start : Option ℕ) (fields : List ℕ) where
  pub walk_begins : WalkedSoFar old out old out defs start start fields 0
  walk_begins = record { done = []; printed = prints_nothing; left = refl }

  pub walk_goes_on : {new next : SinkState} {out' out'' : Printing} (inside after : Option ℕ) (def : Option InputStruct) (i : ℕ) → i < length fields
      → WalkedSoFar old out new out' defs start inside fields i → def ≡ struct_at defs inside
      → Prints new out' next out'' (dotted (where_any (name_of_field (get_or fields i 0)) def)) → after ≡ option_and_then (field_struct_id (get_or fields i 0)) def
      → WalkedSoFar old out next out'' defs start after fields (i + 1)
  walk_goes_on inside after def i within w is printed next =
      let x = get_or fields i 0 in
      let rest = drop (i + 1) fields in
      let name = where_any (name_of_field x) def in
      let step : name ++ names_from defs rest after ≡ names_from defs (drop i fields) inside =
      ap (λ o. name ++ names_from defs rest o) next
      ∙ ap (λ d. where_any (name_of_field x) d ++ names_from defs rest (option_and_then (field_struct_id x) d)) is
      ∙ sym (ap (λ path. names_from defs path inside) (drop_more fields i 0 within)) in
      record {
        done = w.done ++ dotted name;
        printed = w.printed ⨟ printed;
        left = append_assoc w.done (dotted name) (dotted (names_from defs rest after))
            ∙ ap (λ text. w.done ++ text) (sym (flat_map-append (λ n. codes "." ++ n) name (names_from defs rest after)) ∙ ap dotted step)
            ∙ w.left;
      }

  pub walk_ends : {new : SinkState} {out' : Printing} (inside : Option ℕ) (i : ℕ) → length fields ≤ i → WalkedSoFar old out new out' defs start inside fields i
      → Prints old out new out' (dotted (names_from defs fields start))
  walk_ends inside i all w =
      prints_same (sym (append-nil w.done) ∙ ap (λ path. w.done ++ dotted (names_from defs path inside)) (sym (drop_all i fields all)) ∙ w.left) w.printed

-- the struct that a field is
pub field_leads : (def : InputStruct) (i : ℕ) (field : Option (Skeleton TypeId)) (found : Option ℕ) → def.attrs.disable ≡ false
    → field ≡ option_map (λ f. field_skeleton f.ty) (slice_get def.fields i) → found ≡ option_and_then number_of_struct field → found ≡ field_struct_id i def
field_leads def i field found on at is = is ∙ ap (option_and_then number_of_struct) at ∙ sym (fields_on def i on)
