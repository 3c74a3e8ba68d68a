-- Which fields the made structs have, as far as something may be borrowed through them.
use Rattle.std.proofs.Common.{◌≡◌, ℕ, ◌-◌, ◌%◌, ◌<◌, List, [], ◌∷◌, map, Bool, true, false, Some, ap, ◌∙◌, arith, if◌then◌else◌}
use Rattle.std.specs.Prelude.{◌==◌}
use Rattle.bridge_ast.specs.declared.place.ItemPlace.{ItemPlace}
use Rattle.bridge_decl.specs.declared.modules.Item.TheVariants as item
use Rattle.bridge_decl.specs.declared.types.Mutability.TheVariants.{Immutable}
use Rattle.bridge_generate.specs.Generated.{generated_module, struct_numbered}
use Rattle.bridge_order.specs.declared.catalog.Catalog.{Catalog}
use Rattle.hir_backends.specs.Backend.{Backend}
use Rattle.hir_config.specs.declared.config.LoweringConfig.{LoweringConfig}
use Rattle.hir_life.specs.declared.maybe_static.MaybeStatic.TheVariants.{NonStatic}
use Rattle.hir_lowering.specs.Interface.{Interface}
use Rattle.hir_lowering.specs.Placing.{found_at}
use Rattle.hir_lowering.specs.Walks.{interface_of}
use Rattle.hir_mentions.specs.Mentions.{where_any}
use Rattle.hir_number.specs.Naming.{Naming}
use Rattle.hir_number.specs.declared.numbered.NumberedType.{out-roll-NumberedType}
use Rattle.hir_number.specs.declared.numbered.NumberedType.TheOpen.{NumberedType-F}
use Rattle.hir_readings.specs.Declared.{declared_fields, found_fields}
use Rattle.hir_readings.specs.NumberedSkeletons.{lent_skeleton, level_lent, level_skeleton, numbered_skeleton, value_skeleton}
use Rattle.hir_skeleton.specs.Skeletons.{Skeleton, Carrier, Struct}
use Rattle.bridge_measure.specs.Measured.{measured}
use Rattle.bridge_measure.specs.inside.Made.{AreAsMade, struct_place}
use Rattle.bridge_measure.proofs.FilledLemmas.{named_type, opaque_target, struct_target, types_if}
use Rattle.bridge_measure.proofs.SignatureLemmas.{numbered_borrow, numbered_struct, types_are}

-- the fields of a struct, of which there is the second unless the struct is the first of its eight
abbrev pub skeletons_by : ℕ → Bool → List (Skeleton ItemPlace)
skeletons_by k first = Carrier (NonStatic 0 ∷ []) ∷ (if first then [] else Struct (struct_place k) (NonStatic 0 ∷ []) ∷ [])

module _ (count : ℕ) (backend : Backend) (config : LoweringConfig) (names : ℕ → Naming) (catalog : Catalog)
    (known : AreAsMade count (names 0) catalog)
  where
    abbrev it : Interface
    it = interface_of (measured count) backend config names catalog

    pub skeleton_of_borrow : (l : ℕ) → numbered_skeleton catalog (numbered_borrow l) ≡ Carrier (NonStatic l ∷ [])
    skeleton_of_borrow l =
        ap (level_skeleton catalog) (out-roll-NumberedType (NumberedType-F.Reference (NonStatic l) Immutable (named_type opaque_target)))
        ∙ ap (level_lent catalog (NonStatic l)) (out-roll-NumberedType (NumberedType-F.Named opaque_target))
        ∙ ap (λ e. lent_skeleton (NonStatic l) e opaque_target) known.opaque_entry.1

    pub skeleton_of_struct : (k : ℕ) → k < count → numbered_skeleton catalog (numbered_struct k) ≡ Struct (struct_place k) (NonStatic 0 ∷ [])
    skeleton_of_struct k within =
        ap (level_skeleton catalog) (out-roll-NumberedType (NumberedType-F.Named (struct_target k (NonStatic 0 ∷ []))))
        ∙ ap (λ e. value_skeleton e (struct_target k (NonStatic 0 ∷ []))) (known.struct_entry k within).1

    skeletons_are : (k : ℕ) → k < count → (first : Bool) → map (numbered_skeleton catalog) (types_if first k) ≡ skeletons_by (k - 1) first
    skeletons_are k within true = ap (λ s. s ∷ []) (skeleton_of_borrow 0)
    skeletons_are k within false =
        ap (λ s. s ∷ numbered_skeleton catalog (numbered_struct (k - 1)) ∷ []) (skeleton_of_borrow 0)
        ∙ ap (λ s. Carrier (NonStatic 0 ∷ []) ∷ s ∷ []) (skeleton_of_struct (k - 1) (omega arith))

    -- of the struct of a number
    pub fields_are : (k : ℕ) → k < count → found_at (measured count) (struct_place k) ≡ Some (generated_module count, item.Struct (struct_numbered k))
        → declared_fields it (struct_place k) ≡ skeletons_by (k - 1) (k % 8 == 0)
    fields_are k within found =
        ap (where_any (found_fields it (struct_place k))) found
        ∙ ap (where_any (λ types. map (numbered_skeleton catalog) types)) (types_are count (names 0) catalog known k within (k % 8 == 0))
        ∙ skeletons_are k within (k % 8 == 0)
