-- A struct that a reading of fields leads to is contained in the struct of the field: an edge of the nesting leads there.
use Rattle.std.proofs.Common.{◌≡◌, ◌<◌, ◌+◌, ℕ, suc, zero-add, Bool, cond, List, [], ◌∷◌, ◌++◌, length, map, Some, None, option_map, slice_get, refl, sym, ap, subst, ◌∙◌, arith}
use Rattle.std.specs.Prelude.{if◌then◌else◌}
use Rattle.std.specs.List.{Contains}
use Rattle.std.proofs.Math.Logic.{∥∥₁_elim}
use Rattle.std.proofs.lemmas.Bool.{lt-ltb}
use Rattle.std.proofs.lemmas.List.{length-map}
use Rattle.std.proofs.lemmas.Option.{get_or_from_slice_get, slice_get-map}
use Rattle.std.specs.Coded.{le_prop}
use Rattle.definition_graph.specs.Reaching.{Edge, successors}
use Rattle.hir_life.specs.declared.maybe_static.MaybeStatic.{MaybeStatic}
use Rattle.hir_ids.specs.declared.ids.TypeId.{TypeId}
use Rattle.hir_ids.specs.declared.ids.TypeId.TheVariants as type
use Rattle.hir_ids.specs.declared.owners.Borrow.{Borrow}
use Rattle.hir_types.specs.Paths.{returnable_id}
use Rattle.hir_types.specs.SelfTypes.{FieldType}
use Rattle.hir_types.specs.declared.callbacks.NoCallback.{NoCallback}
use Rattle.hir_types.specs.declared.paths.NoTraitPath.{NoTraitPath}
use Rattle.hir_types.specs.declared.paths.StructPath.{StructPath}
use Rattle.hir_types.specs.declared.positions.Everywhere.{Everywhere}
use Rattle.hir_types.specs.declared.types.HirType.{fold-HirType, map-HirType}
use Rattle.hir_types.specs.declared.types.HirType.TheOpen.{HirType-F}
use Rattle.hir_types.specs.declared.types.HirType.TheFolds.{fold-roll-HirType, ind-HirType}
use Rattle.hir_definitions.specs.declared.definitions.StructField.{StructField}
use Rattle.hir_mentions.specs.Containing.{contained_in, contained_in_type, contained_step}
use Rattle.hir_nesting.specs.Faults.{AllNestWell}
use Rattle.hir_nesting.specs.Structs.{each_contained, struct_number, struct_numbers}
use Rattle.hir_context.specs.Fitness.{AllFit, nesting_of}
use Rattle.hir_context.specs.Lookups.{InputStruct}
use Rattle.hir_context.specs.declared.context.TypeContext.{TypeContext}
use Rattle.hir_context.specs.declared.parts.Definitions.{Definitions}
use Rattle.hir_skeleton.specs.Skeletons.{Skeleton, Nothing, Carrier, Struct}
use Rattle.hir_skeleton.specs.Lowered.{carrier_of}
use Rattle.hir_skeleton.proofs.Members.{found_there, gives_there, mapped_from, none_or_all}

-- the struct that one is
abbrev pub ids_inside : Skeleton TypeId → List TypeId
ids_inside Nothing = []
ids_inside (Carrier lifetimes) = []
ids_inside (Struct id args) = id ∷ []

abbrev pub place_of : StructPath → TypeId
place_of path = type.Struct path.tcx_id

abbrev pub Layer : Type 0 → Type 0
Layer = HirType-F Everywhere NoCallback Borrow ℕ StructPath NoTraitPath

pub none_carried : (ls : List (MaybeStatic ℕ)) → [] ≡ ids_inside (carrier_of ls)
none_carried [] = refl
none_carried (l ∷ ls) = refl

abbrev pub contained_layer : Layer (List TypeId) → List TypeId
contained_layer = contained_step place_of

abbrev contained_of : FieldType → List TypeId
contained_of = contained_in_type place_of

module _ (defs : Definitions) where
  abbrev out_rows : List (List TypeId)
  out_rows = each_contained returnable_id defs.out_structs.defs

  abbrev rows : List (List TypeId)
  rows = each_contained place_of defs.structs.defs

  -- the number of a struct among all
  abbrev pub node : ℕ → ℕ
  node place = length out_rows + place

  abbrev numbers_of : List TypeId → List ℕ
  numbers_of = struct_numbers (length out_rows) (length rows)

  as_many : length rows ≡ length defs.structs.defs
  as_many = length-map defs.structs.defs (λ (d : InputStruct). contained_in place_of d.fields)

  numbered : (place : ℕ) → place < length defs.structs.defs → struct_number (length out_rows) (length rows) (type.Struct place) ≡ Some (node place)
  numbered place within =
      let many = as_many in
      ap (λ (b : Bool). if b then Some (node place) else None) (lt-ltb place (length rows) (omega (arith, within, many)))

  get_behind : {X : Type 0} (xs ys : List X) (k : ℕ) → slice_get (xs ++ ys) (length xs + k) ≡ slice_get ys k
  get_behind [] ys k = ap (slice_get ys) (zero-add k)
  get_behind (x ∷ xs) ys k =
      let next : suc (length xs) + k ≡ suc (length xs + k) = omega arith in
      ap (slice_get (x ∷ (xs ++ ys))) next ∙ get_behind xs ys k

  row_of : (place : ℕ) (def : InputStruct) → slice_get defs.structs.defs place ≡ Some def → successors (nesting_of defs) (node place) ≡ numbers_of (contained_in place_of def.fields)
  row_of place def is =
      get_or_from_slice_get (nesting_of defs) (node place) (numbers_of (contained_in place_of def.fields)) []
      (slice_get-map numbers_of (out_rows ++ rows) (node place)
      ∙ ap (option_map numbers_of) (get_behind out_rows rows place ∙ slice_get-map (λ (d : InputStruct). contained_in place_of d.fields) defs.structs.defs place ∙ ap (option_map (λ (d : InputStruct). contained_in place_of d.fields)) is))

  length_both : (xs ys : List (List TypeId)) → length (xs ++ ys) ≡ length xs + length ys
  length_both [] ys = sym (zero-add (length ys))
  length_both (x ∷ xs) ys = let rest = length_both xs ys in omega (arith, rest)

  pub node_within : (place : ℕ) → place < length defs.structs.defs → node place < length (nesting_of defs)
  node_within place within =
      let all = length-map (out_rows ++ rows) numbers_of in
      let both = length_both out_rows rows in
      let many = as_many in
      omega (arith, within, all, both, many)

-- what a field reads as, by what each part of its type does
module _ (step : Layer (Skeleton TypeId) → Skeleton TypeId) where
  abbrev reading : FieldType → Skeleton TypeId
  reading t = fold-HirType _ _ _ _ _ _ (Skeleton TypeId) step t

  abbrev readings : InputStruct → List (Skeleton TypeId)
  readings def = cond def.attrs.disable [] (map (λ field. reading field.ty) def.fields)

  abbrev Agrees : FieldType → Type 0
  Agrees t = contained_of t ≡ ids_inside (reading t)

  abbrev LayerAgrees : Layer FieldType → Type 0
  LayerAgrees x = contained_layer (map-HirType _ _ _ _ _ _ _ _ contained_of x) ≡ ids_inside (step (map-HirType _ _ _ _ _ _ _ _ reading x))

  abbrev pub AgreesBelow : Layer ((t : FieldType) × Agrees t) → Type 0
  AgreesBelow y = LayerAgrees (map-HirType _ _ _ _ _ _ _ _ (λ e. e.0) y)

  -- where each part keeps the struct that is inside
  module _ (keeps : (y : Layer ((t : FieldType) × Agrees t)) → AgreesBelow y) where
    type_agrees : (t : FieldType) → Agrees t
    type_agrees = ind-HirType _ _ _ _ _ _ Agrees (λ x y is.
        fold-roll-HirType _ _ _ _ _ _ (List TypeId) contained_layer x
        ∙ subst LayerAgrees is (keeps y)
        ∙ ap ids_inside (sym (fold-roll-HirType _ _ _ _ _ _ (Skeleton TypeId) step x)))

    struct_contained : (def : InputStruct) (s : Skeleton TypeId) (id : TypeId) → Contains (readings def) s → Contains (ids_inside s) id
        → Contains (contained_in place_of def.fields) id
    struct_contained def s id h inside =
        let field = mapped_from (λ (f : StructField Everywhere NoCallback Borrow ℕ StructPath NoTraitPath). reading f.ty) def.fields s (none_or_all def.attrs.disable _ s h) in
        gives_there (λ f. contained_of f.ty) def.fields field.0 id field.2
        (subst (λ ids. Contains ids id) (sym (type_agrees field.0.ty ∙ ap ids_inside field.1)) inside)

    module _ (defs : Definitions) where
      -- what the field of a struct that is there reads as is the front of an edge
      pub edge_to : (a b : ℕ) (def : InputStruct) (s : Skeleton TypeId) → slice_get defs.structs.defs a ≡ Some def → b < length defs.structs.defs
          → Contains (readings def) s → Contains (ids_inside s) (type.Struct b) → Edge (nesting_of defs) (node defs a) (node defs b)
      edge_to a b def s is within h inside =
          subst (λ row. Contains row (node defs b)) (sym (row_of defs a def is))
          (found_there (struct_number (length (out_rows defs)) (length (rows defs))) (contained_in place_of def.fields) (type.Struct b) (node defs b)
          (struct_contained def s (type.Struct b) h inside) (numbered defs b within))

-- structs of a context nest well
pub context_well : (tcx : TypeContext) → AllNestWell (nesting_of tcx.definitions)
context_well tcx = ∥∥₁_elim tcx.fits (hlevel le_prop) (λ (fit : AllFit tcx.definitions). fit.nested)
