-- The types of the made declarations may stand where they do.
use Rattle.std.proofs.Common.{◌≡◌, ℕ, ◌<◌, List, [], ap, ◌∙◌}
use Rattle.bridge_grid.specs.Faults.{or_inside, shape_faults, type_faults}
use Rattle.bridge_grid.specs.Params.{level_in_param, param_faults}
use Rattle.bridge_grid.specs.Returns.{level_returned, returned_faults}
use Rattle.bridge_grid.specs.declared.part.Part.TheVariants.{Whole}
use Rattle.bridge_order.specs.declared.catalog.Catalog.{Catalog}
use Rattle.bridge_rules.specs.declared.position.Position.TheVariants as position
use Rattle.hir_backends.specs.declared.support.BackendAttrSupport.{BackendAttrSupport}
use Rattle.hir_config.specs.declared.config.LoweringConfig.{LoweringConfig}
use Rattle.hir_life.specs.declared.maybe_static.MaybeStatic.{MaybeStatic}
use Rattle.hir_number.specs.Naming.{Naming}
use Rattle.hir_number.specs.declared.numbered.NumberedType.{out-roll-NumberedType}
use Rattle.bridge_measure.specs.inside.Made.{AreAsMade}
use Rattle.bridge_measure.proofs.FilledLemmas.{borrowed_type, struct_type}
use Rattle.bridge_measure.proofs.ShapeLemmas.{borrowed_level, borrowed_shape_is, struct_level, struct_shape_is}

module _ (count : ℕ) (names : Naming) (catalog : Catalog) (known : AreAsMade count names catalog) (support : BackendAttrSupport)
    (config : LoweringConfig)
  where
    -- ---- `&'a O`

    pub borrowed_field : (n : MaybeStatic ℕ) → type_faults support catalog position.Field Whole (borrowed_type n) ≡ []
    borrowed_field n = ap (shape_faults support position.Field Whole) (borrowed_shape_is count names catalog known n)

    borrowed_whole_param : (n : MaybeStatic ℕ) → type_faults support catalog position.Param Whole (borrowed_type n) ≡ []
    borrowed_whole_param n = ap (shape_faults support position.Param Whole) (borrowed_shape_is count names catalog known n)

    borrowed_whole_return : (n : MaybeStatic ℕ) → type_faults support catalog position.Return Whole (borrowed_type n) ≡ []
    borrowed_whole_return n = ap (shape_faults support position.Return Whole) (borrowed_shape_is count names catalog known n)

    pub borrowed_param : (n : MaybeStatic ℕ) → param_faults support config catalog (borrowed_type n) ≡ []
    borrowed_param n =
        ap (λ level. or_inside (type_faults support catalog position.Param Whole (borrowed_type n)) (level_in_param support config catalog level))
        (out-roll-NumberedType (borrowed_level n))
        ∙ ap (λ faults. or_inside faults []) (borrowed_whole_param n)

    pub borrowed_return : (n : MaybeStatic ℕ) → returned_faults support catalog position.Return (borrowed_type n) ≡ []
    borrowed_return n =
        ap (level_returned support catalog position.Return (borrowed_type n)) (out-roll-NumberedType (borrowed_level n))
        ∙ borrowed_whole_return n

    -- ---- `S7<'a>`

    module _ (k : ℕ) (within : k < count) where
      pub struct_field : (ns : List (MaybeStatic ℕ)) → type_faults support catalog position.Field Whole (struct_type k ns) ≡ []
      struct_field ns = ap (shape_faults support position.Field Whole) (struct_shape_is count names catalog known k within ns)

      struct_whole_param : (ns : List (MaybeStatic ℕ)) → type_faults support catalog position.Param Whole (struct_type k ns) ≡ []
      struct_whole_param ns = ap (shape_faults support position.Param Whole) (struct_shape_is count names catalog known k within ns)

      pub struct_param : (ns : List (MaybeStatic ℕ)) → param_faults support config catalog (struct_type k ns) ≡ []
      struct_param ns =
          ap (λ level. or_inside (type_faults support catalog position.Param Whole (struct_type k ns)) (level_in_param support config catalog level))
          (out-roll-NumberedType (struct_level k ns))
          ∙ ap (λ faults. or_inside faults []) (struct_whole_param ns)
