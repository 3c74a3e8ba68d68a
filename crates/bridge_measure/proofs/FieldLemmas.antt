-- Nothing is told of the fields of the made structs.
use Rattle.std.proofs.Common.{◌≡◌, ℕ, ◌-◌, ◌<◌, Bool, true, false, List, [], ◌∷◌, ◌++◌, map, ap, ◌∙◌, arith}
use Rattle.std.specs.Prelude.{codes, if◌then◌else◌}
use Rattle.bridge_generate.specs.Generated.{one_lifetime}
use Rattle.bridge_grid.specs.Faults.{type_faults}
use Rattle.bridge_grid.specs.Telling.{fault_error, field_error}
use Rattle.bridge_grid.specs.declared.part.Part.TheVariants.{Whole}
use Rattle.bridge_measure.proofs.MarkLemmas.{part_tested}
use Rattle.bridge_order.specs.declared.catalog.Catalog.{Catalog}
use Rattle.bridge_rules.specs.declared.position.Position.TheVariants as position
use Rattle.hir_backends.specs.Backend.{Backend}
use Rattle.hir_config.specs.declared.config.LoweringConfig.{LoweringConfig}
use Rattle.hir_fields.specs.Fields.{fields_errors, struct_type_errors}
use Rattle.hir_fields.specs.Heads.{field_heads_errors}
use Rattle.hir_fields.specs.Safety.{is_safe_level}
use Rattle.hir_fields.specs.Types.{each_errors, else_told, numbered_errors, types_errors, where_named}
use Rattle.hir_heads.specs.Heads.{lifetime_errors}
use Rattle.hir_heads.specs.Names.{name_errors}
use Rattle.hir_life.specs.declared.maybe_static.MaybeStatic.{MaybeStatic}
use Rattle.hir_life.specs.declared.maybe_static.MaybeStatic.TheVariants.{NonStatic}
use Rattle.hir_mark_contexts.specs.declared.contexts.MarkContext.TheVariants as marked
use Rattle.hir_number.specs.Naming.{Naming}
use Rattle.hir_number.specs.Numbers.{signature_numbers}
use Rattle.hir_number.specs.Signatures.{field_uses}
use Rattle.hir_number.specs.declared.numbered.NumberedType.{out-roll-NumberedType}
use Rattle.hir_signatures.specs.Errors.{breach_error}
use Rattle.bridge_measure.specs.inside.Made.{AreAsMade}
use Rattle.bridge_measure.proofs.EmptyLemmas.{both_empty}
use Rattle.bridge_measure.proofs.FaultLemmas.{borrowed_field, struct_field}
use Rattle.bridge_measure.proofs.FilledLemmas.{borrowed_type, fields_filled, struct_type, types_if}
use Rattle.bridge_measure.proofs.NameLemmas.{one_lifetime_fine, s_fine, x_fine}
use Rattle.bridge_measure.proofs.ShapeLemmas.{borrowed_level, struct_level}
use Rattle.bridge_measure.proofs.UseLemmas.{fields_fit, fields_if, fields_numbered, struct_if}

-- what they have beside their types
heads_fine : (backend : Backend) (first : Bool) (k : ℕ) → field_heads_errors backend marked.Field (fields_if first k) ≡ []
heads_fine backend true k =
    ap (λ told. (name_errors (codes "x") ++ (told ++ [])) ++ []) (part_tested backend marked.Field)
    ∙ ap (λ errors. (errors ++ []) ++ []) x_fine
heads_fine backend false k =
    ap (λ told. (name_errors (codes "x") ++ (told ++ [])) ++ ((name_errors (codes "s") ++ (told ++ [])) ++ [])) (part_tested backend marked.Field)
    ∙ ap (λ errors. (errors ++ []) ++ ((name_errors (codes "s") ++ []) ++ [])) x_fine
    ∙ ap (λ errors. (errors ++ []) ++ []) s_fine

module _ (count : ℕ) (names : Naming) (catalog : Catalog) (known : AreAsMade count names catalog) (backend : Backend) (config : LoweringConfig) where
  -- ---- their types, by themselves

  borrowed_fine : (name : List ℕ) (n : MaybeStatic ℕ) → struct_type_errors backend.supports catalog name (borrowed_type n) ≡ []
  borrowed_fine name n =
      let faults = type_faults backend.supports catalog position.Field Whole (borrowed_type n) in
      ap (λ level. (if is_safe_level level then [] else field_error name ∷ []) ++ map fault_error faults)
      (out-roll-NumberedType (borrowed_level n))
      ∙ ap (map fault_error) (borrowed_field count names catalog known backend.supports config n)

  struct_fine : (name : List ℕ) (k : ℕ) → k < count → (ns : List (MaybeStatic ℕ))
      → struct_type_errors backend.supports catalog name (struct_type k ns) ≡ []
  struct_fine name k within ns =
      let faults = type_faults backend.supports catalog position.Field Whole (struct_type k ns) in
      ap (λ level. (if is_safe_level level then [] else field_error name ∷ []) ++ map fault_error faults)
      (out-roll-NumberedType (struct_level k ns))
      ∙ ap (map fault_error) (struct_field count names catalog known backend.supports config k within ns)

  each_fine : (first : Bool) (k : ℕ) → k < count → each_errors (struct_type_errors backend.supports catalog) (fields_if first k) (types_if first k) ≡ []
  each_fine true k within = ap (λ errors. errors ++ []) (borrowed_fine (codes "x") (NonStatic 0))
  each_fine false k within =
      ap (λ errors. errors ++ (struct_type_errors backend.supports catalog (codes "s") (struct_type (k - 1) (NonStatic 0 ∷ [])) ++ []))
      (borrowed_fine (codes "x") (NonStatic 0))
      ∙ ap (λ errors. errors ++ []) (struct_fine (codes "s") (k - 1) (omega arith) (NonStatic 0 ∷ []))

  -- ---- and as those of a struct

  types_fine : (first : Bool) (k : ℕ) → k < count → types_errors (struct_type_errors backend.supports catalog) names (struct_if first k) ≡ []
  types_fine first k within =
      let errors = struct_type_errors backend.supports catalog in
      let item = struct_if first k in
      let numbers = signature_numbers one_lifetime (field_uses names (fields_if first k)) in
      let numbered = numbered_errors errors names item numbers in
      ap (λ breaches. else_told (map breach_error breaches) (where_named (lifetime_errors one_lifetime) numbered))
      (fields_fit count names catalog known first k within)
      ∙ ap (λ told. where_named told numbered) one_lifetime_fine
      ∙ ap (numbered_errors errors names item) (fields_numbered count names catalog known first k within)
      ∙ ap (each_errors errors (fields_if first k)) (fields_filled count names catalog known first k within)
      ∙ each_fine first k within

  pub fields_fine : (first : Bool) (k : ℕ) → k < count → fields_errors backend catalog names (struct_if first k) ≡ []
  fields_fine first k within =
      both_empty (field_heads_errors backend marked.Field (fields_if first k)) (types_errors (struct_type_errors backend.supports catalog) names (struct_if first k))
      (heads_fine backend first k) (types_fine first k within)
