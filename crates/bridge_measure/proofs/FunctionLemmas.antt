-- Nothing is told of the made functions.
use Rattle.std.proofs.Common.{◌≡◌, ℕ, ◌^◌, ◌<◌, true, [], ◌∷◌, ◌++◌, Some, None, map, ap, ◌∙◌}
use Rattle.std.specs.Prelude.{◌&&◌, codes, not}
use Rattle.bridge_decl.specs.declared.lifetimes.Lifetime.TheVariants.{Named}
use Rattle.bridge_decl.specs.declared.types.Mutability.TheVariants.{Immutable}
use Rattle.bridge_decl.specs.declared.types.TypeName.TheVariants as type
use Rattle.bridge_generate.specs.Generated.{function_name, function_numbered, params_of, path_to_opaque, plain_attrs, two_lifetimes}
use Rattle.bridge_grid.specs.Asked.{told_if}
use Rattle.bridge_grid.specs.Items.{free_function_faults}
use Rattle.bridge_grid.specs.Params.{param_faults}
use Rattle.bridge_grid.specs.Returns.{returned_faults}
use Rattle.bridge_grid.specs.Telling.{fault_error}
use Rattle.bridge_grid.specs.declared.fault.TypeFault.TheVariants.{Denied}
use Rattle.bridge_measure.proofs.MarkLemmas.{function_tested, part_tested}
use Rattle.bridge_order.specs.declared.catalog.Catalog.{Catalog}
use Rattle.bridge_rules.specs.declared.position.Position.TheVariants as position
use Rattle.hir_attrs.specs.Reading.{marks_of}
use Rattle.hir_attrs.specs.declared.attrs.Attrs.{Attrs}
use Rattle.hir_backends.specs.Backend.{Backend}
use Rattle.hir_backends.specs.Support.{flag_on}
use Rattle.hir_backends.specs.declared.support.BackendAttrSupport.{BackendAttrSupport}
use Rattle.hir_backends.specs.declared.support.flag.SupportFlag.TheVariants as flag
use Rattle.hir_config.specs.declared.config.LoweringConfig.{LoweringConfig}
use Rattle.hir_form.specs.SignatureForms.{signature_faults}
use Rattle.hir_heads.specs.Heads.{lifetime_errors}
use Rattle.hir_heads.specs.Names.{name_errors}
use Rattle.hir_items.specs.Inheriting.{item_start}
use Rattle.hir_life.specs.declared.maybe_static.MaybeStatic.TheVariants.{NonStatic}
use Rattle.hir_mark_contexts.specs.Told.{tested_errors}
use Rattle.hir_mark_contexts.specs.declared.contexts.MarkContext.TheVariants as marked
use Rattle.hir_methods.specs.Functions.{callable_errors, function_errors}
use Rattle.hir_methods.specs.Types.{function_type_errors}
use Rattle.hir_methods.specs.Untyped.{each_untyped_errors, heading_errors}
use Rattle.hir_methods.specs.Writers.{trailing_writer, written_level}
use Rattle.hir_number.specs.Breaches.{function_breaches}
use Rattle.hir_number.specs.Naming.{Naming}
use Rattle.hir_number.specs.Numbers.{signature_numbers}
use Rattle.hir_number.specs.Signatures.{function_uses, without_writer}
use Rattle.hir_number.specs.declared.signature.NumberedSignature.{NumberedSignature}
use Rattle.hir_signatures.specs.Stages.{Judged, stage_errors}
use Rattle.hir_stages.specs.Given.{breached_stage, function_stage, named_stage, numbered_stage}
use Rattle.hir_stages.specs.Numbering.{filled_function}
use Rattle.bridge_measure.specs.inside.Made.{AreAsMade}
use Rattle.bridge_measure.proofs.EmptyLemmas.{both_empty, unless_empty}
use Rattle.bridge_measure.proofs.FaultLemmas.{borrowed_param, borrowed_return, struct_param}
use Rattle.bridge_measure.proofs.FilledLemmas.{borrowed_type, function_filled, lifetimes_of, numbered_with, param_types}
use Rattle.bridge_measure.proofs.NameLemmas.{function_name_fine, p_fine, q_fine, two_lifetimes_fine}
use Rattle.bridge_measure.proofs.TypeLemmas.{out_reference}
use Rattle.bridge_measure.proofs.UseLemmas.{function_fits, function_is_numbered, no_writer}

-- functions outside types are allowed where the backend says so
free_functions_fine : (support : BackendAttrSupport) → support.free_functions ≡ true → free_function_faults support ≡ []
unfolding flag_on
free_functions_fine support on = ap (λ is_on. told_if (true && not is_on) (Denied flag.FreeFunctions)) on

-- nothing is written through the last parameter
pub nothing_written : (k : ℕ) → trailing_writer (params_of k) ≡ None
nothing_written k = ap written_level (out_reference (Named (codes "b")) Immutable (type.Named path_to_opaque))

-- the names and marks of the parameters
params_fine : (backend : Backend) (k : ℕ) → each_untyped_errors backend (without_writer (params_of k)) ≡ []
params_fine backend k =
    ap (each_untyped_errors backend) (no_writer k)
    ∙ ap (λ told. (name_errors (codes "p") ++ told) ++ ((name_errors (codes "q") ++ told) ++ [])) (part_tested backend marked.Param)
    ∙ ap (λ errors. (errors ++ []) ++ ((name_errors (codes "q") ++ []) ++ [])) p_fine
    ∙ ap (λ errors. (errors ++ []) ++ []) q_fine

-- names and documents
heading_fine : (backend : Backend) (k : ℕ) → k < 2 ^ 64
    → heading_errors backend (function_numbered k).docs (function_name k) (function_name k) two_lifetimes ≡ []
heading_fine backend k fits =
    both_empty (name_errors (function_name k) ++ name_errors (function_name k)) (lifetime_errors two_lifetimes)
    (both_empty (name_errors (function_name k)) (name_errors (function_name k)) (function_name_fine k fits) (function_name_fine k fits)) two_lifetimes_fine

module _ (count : ℕ) (names : Naming) (catalog : Catalog) (known : AreAsMade count names catalog) (k : ℕ) (within : k < count) where
  abbrev pub numbered : NumberedSignature
  numbered = numbered_with (lifetimes_of count names catalog known k) (param_types k) (Some (borrowed_type (NonStatic 0)))

  pub stage_is : function_stage names (function_numbered k) ≡ Judged numbered
  stage_is =
      let filled = filled_function names (function_numbered k) in
      let numbers = signature_numbers two_lifetimes (function_uses names (function_numbered k)) in
      ap (breached_stage (named_stage (numbered_stage filled numbers) (lifetime_errors two_lifetimes)))
      (function_fits count names catalog known k within)
      ∙ ap (λ told. named_stage (numbered_stage filled numbers) told) two_lifetimes_fine
      ∙ ap (numbered_stage filled) (function_is_numbered count names catalog known k within)
      ∙ ap Judged (function_filled count names catalog known k within)

module _ (count : ℕ) (names : Naming) (catalog : Catalog) (known : AreAsMade count names catalog) (support : BackendAttrSupport) (config : LoweringConfig)
    (k : ℕ) (within : k < count) where
  -- ---- types

  types_allowed : signature_faults support config catalog None (numbered count names catalog known k within) ≡ []
  types_allowed =
      let faults = param_faults support config catalog in
      let output = returned_faults support catalog position.Return (borrowed_type (NonStatic 0)) in
      ap (λ first. (first ++ (faults (borrowed_type (NonStatic 1)) ++ [])) ++ output)
      (struct_param count names catalog known support config k within (NonStatic 0 ∷ []))
      ∙ ap (λ second. (second ++ []) ++ output) (borrowed_param count names catalog known support config (NonStatic 1))
      ∙ borrowed_return count names catalog known support config (NonStatic 0)

  types_fine : function_type_errors support config catalog names (function_numbered k) ≡ []
  types_fine =
      let breaches = function_breaches names (function_numbered k) in
      ap (λ written. stage_errors breaches (signature_faults support config catalog written) (function_stage names (function_numbered k))) (nothing_written k)
      ∙ ap (stage_errors breaches (signature_faults support config catalog None)) (stage_is count names catalog known k within)
      ∙ ap (map fault_error) types_allowed

  -- ---- the whole

  module _ (backend : Backend) (on : support.free_functions ≡ true) where
    callable_fine : callable_errors backend support config catalog names (function_numbered k) ≡ []
    callable_fine =
        both_empty (map fault_error (free_function_faults support) ++ each_untyped_errors backend (without_writer (params_of k)))
        (function_type_errors support config catalog names (function_numbered k))
        (both_empty (map fault_error (free_function_faults support)) (each_untyped_errors backend (without_writer (params_of k)))
        (ap (map fault_error) (free_functions_fine support on)) (params_fine backend k)) types_fine

    pub function_fine : k < 2 ^ 64 → (set : Attrs) → function_errors backend support config catalog names (item_start set) (function_numbered k) ≡ []
    function_fine fits set =
        let tested = tested_errors backend marked.Function plain_attrs (item_start set) in
        let heading = heading_errors backend (function_numbered k).docs (function_name k) (function_name k) two_lifetimes in
        both_empty (tested ++ heading) _ (both_empty tested heading (function_tested backend set) (heading_fine backend k fits))
        (unless_empty (marks_of backend plain_attrs (item_start set)).disable (callable_errors backend support config catalog names (function_numbered k)) callable_fine)
