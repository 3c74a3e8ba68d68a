-- No chain of the structs in which slices are looked for has more than 256 of them: it is one of the structs of the context.
use Rattle.std.proofs.Common.{◌≡◌, ◌<◌, ◌≤◌, ◌+◌, inl, inr, ℕ, zero, suc, zero-add, Bool, true, false, cond, List, [], ◌∷◌, ◌++◌, length, Option, Some, None, option_map, slice_get, refl, sym, ap, subst, ◌∙◌, arith}
use Rattle.std.specs.Prelude.{if◌then◌else◌}
use Rattle.std.specs.List.{All, Contains, cons_option, filter_map, flat_map}
use Rattle.std.proofs.Math.Logic.{∥∥₁_elim}
use Rattle.std.proofs.lemmas.Bool.{lt-ltb}
use Rattle.std.proofs.lemmas.List.{length-map}
use Rattle.std.proofs.lemmas.List.Elements.{All-contains_itself, All-weaker, Contains-append_left, Contains-append_right}
use Rattle.std.proofs.lemmas.Option.{get_or_from_slice_get, slice_get-map, slice_get_within}
use Rattle.std.specs.Coded.{le_prop}
use Rattle.hir_life.specs.declared.maybe_static.MaybeStatic.{MaybeStatic}
use Rattle.hir_ids.specs.declared.ids.TypeId.{TypeId}
use Rattle.hir_ids.specs.declared.ids.TypeId.TheVariants as type
use Rattle.hir_ids.specs.declared.owners.Borrow.{Borrow}
use Rattle.hir_types.specs.Paths.{returnable_id}
use Rattle.hir_types.specs.SelfTypes.{FieldType}
use Rattle.hir_types.specs.declared.callbacks.NoCallback.{NoCallback}
use Rattle.hir_types.specs.declared.paths.NoTraitPath.{NoTraitPath}
use Rattle.hir_types.specs.declared.paths.StructPath.{StructPath}
use Rattle.hir_types.specs.declared.positions.Everywhere.{Everywhere}
use Rattle.hir_types.specs.declared.types.HirType.{map-HirType}
use Rattle.hir_types.specs.declared.types.HirType.TheOpen.{HirType-F}
use Rattle.hir_types.specs.declared.types.HirType.TheFolds.{fold-roll-HirType, ind-HirType}
use Rattle.hir_definitions.specs.declared.definitions.StructField.{StructField}
use Rattle.hir_mentions.specs.Containing.{contained_in, contained_in_type, contained_step}
use Rattle.definition_graph.specs.Reaching.{Edge, successors}
use Rattle.definition_graph.specs.Surveying.{IsChain}
use Rattle.hir_nesting.specs.Faults.{AllNestWell}
use Rattle.hir_nesting.specs.Structs.{each_contained, struct_number, struct_numbers}
use Rattle.hir_context.specs.Fitness.{AllFit, nesting_of}
use Rattle.hir_context.specs.Lookups.{InputStruct}
use Rattle.hir_context.specs.declared.context.TypeContext.{TypeContext}
use Rattle.hir_context.specs.declared.parts.Definitions.{Definitions}
use Rattle.hir_skeleton.specs.Skeletons.{Skeleton, Nothing, Carrier, Struct}
use Rattle.hir_skeleton.specs.Lowered.{carrier_of}
use Rattle.hir_skeleton.proofs.Containment.{AgreesBelow, Layer, context_well, edge_to, node, node_within, none_carried}
use Rattle.hir_skeleton.proofs.Members.{first_is_there}
use Rattle.hir_borrowing_params.specs.Slices.{field_slices, slices_in, slices_step, struct_slices}
use Rattle.hir_borrowing_params.specs.inside.Searching.{NestsAt, NestsInside, NestsWithin}
use Rattle.hir_borrowing_params.proofs.Carrying.{nothing_inside}

-- ---- what is contained in a type is what its slices have

abbrev slices_layer : Layer (Skeleton TypeId) → Skeleton TypeId
slices_layer = slices_step

keeps : (y : _) → AgreesBelow slices_layer y
keeps (HirType-F.Primitive _) = refl
keeps (HirType-F.Opaque path) = refl
keeps (HirType-F.Struct path) = refl
keeps (HirType-F.ImplTrait _) = refl
keeps (HirType-F.Enum _) = refl
keeps (HirType-F.Slice s) = none_carried _
keeps (HirType-F.Callback _) = refl
keeps (HirType-F.DiplomatOption inside) = inside.1

module _ (defs : Definitions) where
  leads : (place to : ℕ) (def : InputStruct) (args : List (MaybeStatic ℕ)) → slice_get defs.structs.defs place ≡ Some def → to < length defs.structs.defs
      → Contains (struct_slices def) (Struct (type.Struct to) args) → Edge (nesting_of defs) (node defs place) (node defs to)
  leads place to def args is within h = edge_to slices_layer keeps defs place to def (Struct (type.Struct to) args) is within h (first_is_there (type.Struct to) [])

  -- no chain from the struct has more than so many
  abbrev HasShortChains : ℕ → ℕ → Type 0
  HasShortChains n place = place < length defs.structs.defs → (others : List ℕ) → IsChain (nesting_of defs) (node defs place) others → length others + 1 ≤ n

  abbrev Nests : ℕ → Type 0
  Nests n = (place : ℕ) → HasShortChains n place → NestsWithin (slices_in defs) n (type.Struct place)

  inside_nests : (n : ℕ) → Nests n → (place : ℕ) (def : InputStruct) → slice_get defs.structs.defs place ≡ Some def → HasShortChains (suc n) place
      → (s : Skeleton TypeId) → Contains (struct_slices def) s → NestsInside (NestsWithin (slices_in defs) n) s
  inside_nests n claim place def is short Nothing h = tt
  inside_nests n claim place def is short (Carrier ls) h = tt
  inside_nests n claim place def is short (Struct (type.Struct to) args) h =
      claim to (λ within others chain.
      let long = short (slice_get_within defs.structs.defs place def is) (node defs to ∷ others) (leads place to def args is within h, chain) in
      omega (arith, long))
  inside_nests n claim place def is short (Struct (type.OutStruct to) args) h = nothing_inside (slices_in defs) n (type.OutStruct to) refl
  inside_nests n claim place def is short (Struct (type.Opaque to) args) h = nothing_inside (slices_in defs) n (type.Opaque to) refl
  inside_nests n claim place def is short (Struct (type.Enum to) args) h = nothing_inside (slices_in defs) n (type.Enum to) refl

  fields_there : (place : ℕ) (o : Option InputStruct) → slice_get defs.structs.defs place ≡ o → slices_in defs (type.Struct place) ≡ (elim o [ None ↦ [] | Some def ↦ struct_slices def ])
  fields_there place None is = ap (λ (o : Option InputStruct). elim o [ None ↦ [] | Some def ↦ struct_slices def ]) is
  fields_there place (Some d) is = ap (λ (o : Option InputStruct). elim o [ None ↦ [] | Some def ↦ struct_slices def ]) is

  nests_more : (n : ℕ) → Nests n → Nests (suc n)
  nests_more n claim place short = by_def (slice_get defs.structs.defs place) refl where
    by_def : (o : Option InputStruct) → slice_get defs.structs.defs place ≡ o → NestsWithin (slices_in defs) (suc n) (type.Struct place)
    by_def None is = nothing_inside (slices_in defs) (suc n) (type.Struct place) (fields_there place None is)
    by_def (Some def) is =
        subst (All (NestsInside (NestsWithin (slices_in defs) n))) (sym (fields_there place (Some def) is))
        (All-weaker (Contains (struct_slices def)) (NestsInside (NestsWithin (slices_in defs) n)) (inside_nests n claim place def is short) (struct_slices def) (All-contains_itself (struct_slices def)))

  nests_none : Nests zero
  nests_none place short = by_def (slice_get defs.structs.defs place) refl where
    by_def : (o : Option InputStruct) → slice_get defs.structs.defs place ≡ o → slices_in defs (type.Struct place) ≡ []
    by_def None is = fields_there place None is
    by_def (Some def) is = let long = short (slice_get_within defs.structs.defs place def is) [] tt in absurd (omega (arith, long))

  nests : (n : ℕ) → Nests n
  nests zero = nests_none
  nests (suc n) = nests_more n (nests n)

  nests_by : AllNestWell (nesting_of defs) → (s : Skeleton TypeId) → NestsAt defs 256 s
  nests_by well Nothing = tt
  nests_by well (Carrier ls) = tt
  nests_by well (Struct (type.Struct place) args) = nests 256 place (λ within others chain. well (node defs place) others (node_within defs place within) chain)
  nests_by well (Struct (type.OutStruct place) args) = nothing_inside (slices_in defs) 256 (type.OutStruct place) refl
  nests_by well (Struct (type.Opaque place) args) = nothing_inside (slices_in defs) 256 (type.Opaque place) refl
  nests_by well (Struct (type.Enum place) args) = nothing_inside (slices_in defs) 256 (type.Enum place) refl

pub context_nests : (tcx : TypeContext) (s : Skeleton TypeId) → NestsAt tcx.definitions 256 s
context_nests tcx s = nests_by tcx.definitions (context_well tcx) s
