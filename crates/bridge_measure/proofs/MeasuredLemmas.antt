-- Made declarations break no rule, and this is what their callables list.
use Rattle.std.proofs.Common.{◌≡◌, ℕ, ◌+◌, ◌*◌, ◌%◌, ◌^◌, ◌<◌, ◌≤◌, List, [], ◌∷◌, length, true, refl, sym, ap, subst, ◌∙◌, arith, inl, inr}
use Rattle.std.specs.List.{All, Contains, range_with_len, sum_by}
use Rattle.std.proofs.lemmas.List.FromFn.{length-map-range_with_len}
use Rattle.bridge_callables.specs.Declared.{declared_callables}
use Rattle.bridge_decl.specs.declared.modules.Module.{Module}
use Rattle.bridge_generate.specs.Generated.{generated_module}
use Rattle.bridge_lowering.specs.Answers.{AreRefusedWith}
use Rattle.bridge_lowering.specs.Broken.{BreakNothing}
use Rattle.bridge_order.specs.declared.catalog.Catalog.{Catalog}
use Rattle.bridge_places.specs.Entries.{IsCatalog}
use Rattle.bridge_report.specs.Callables.{Callable}
use Rattle.bridge_report.specs.InContext.{callables}
use Rattle.bridge_summary.specs.Summary.{AreListed}
use Rattle.hir_backends.specs.Backend.{Backend}
use Rattle.hir_backends.specs.Support.{with_flag}
use Rattle.hir_config.specs.declared.config.LoweringConfig.{LoweringConfig}
use Rattle.hir_context.specs.declared.parts.Definitions.{Definitions}
use Rattle.hir_lower.specs.Contexts.{StandForItems}
use Rattle.hir_lowering.specs.Interface.{Interface}
use Rattle.hir_lowering.specs.Lowered.{lowering_reports}
use Rattle.hir_naming.specs.Meaning.{naming_of}
use Rattle.hir_reports.specs.declared.report.LoweringReport.{LoweringReport}
use Rattle.hir_rules.specs.Broken.{LoweringBreaks}
use Rattle.bridge_measure.specs.Measured.{measured, measured_backend, measured_by}
use Rattle.bridge_measure.specs.inside.Made.{AreAsMade}
use Rattle.bridge_measure.proofs.BrokenLemmas.{nothing_broken}
use Rattle.bridge_measure.proofs.CallableLemmas.{callables_are, made_callable}
use Rattle.bridge_measure.proofs.ContextLemmas.{context_stands}
use Rattle.bridge_measure.proofs.LeafLemmas.{few_leaves}
use Rattle.bridge_measure.proofs.ListedLemmas.{few_listed, listed_is}
use Rattle.bridge_measure.proofs.NestingLemmas.{nesting_stands}
use Rattle.bridge_measure.proofs.PlaceLemmas.{found_is, function_found, meets, struct_found}
use Rattle.bridge_measure.proofs.ReportLemmas.{nothing_reported}

-- the backend has functions outside of types
pub has_functions : measured_backend.supports.free_functions ≡ true
unfolding with_flag
has_functions = refl

module _ (count : ℕ) (backend : Backend) (config : LoweringConfig) (catalog : Catalog) (fits : count < 2 ^ 64) (is : IsCatalog (measured count) catalog) where
  known : AreAsMade count (naming_of (measured count) 0) catalog
  known = meets count fits catalog is

  -- as many as functions
  pub callables_counted : length (declared_callables (measured_by count backend config catalog)) ≡ count
  callables_counted =
      ap length (callables_are count backend config (naming_of (measured count)) catalog known (found_is count) (function_found count))
      ∙ length-map-range_with_len (made_callable count backend config (naming_of (measured count)) catalog) 0 count

  -- so many leaves of each
  pub all_listed : (listed : ℕ) → AreListed (declared_callables (measured_by count backend config catalog)) listed
      → listed ≡ sum_by (λ k. k % 8 + 2) (range_with_len 0 count)
  all_listed = listed_is count backend config (naming_of (measured count)) catalog known (struct_found count) (found_is count) (function_found count)

  -- nine at most
  pub nine_at_most : (listed : ℕ) → AreListed (declared_callables (measured_by count backend config catalog)) listed → listed ≤ 9 * count
  nine_at_most = few_listed count backend config (naming_of (measured count)) catalog known (struct_found count) (found_is count) (function_found count)

-- whatever is broken is told of (a law of `hir_rules`)
abbrev AreTold : Type 0
AreTold = (it : Interface) (report : LoweringReport) → IsCatalog it.modules it.catalog → LoweringBreaks it report
    → (told : LoweringReport) × (Contains (lowering_reports it) told × (told.context ≡ report.context))

-- the callables of a context are those that are declared (a law of `bridge_callables`)
abbrev ReadAlike : Type 0
ReadAlike = (it : Interface) (defs : Definitions) → IsCatalog it.modules it.catalog → StandForItems it defs → callables defs ≡ declared_callables it

pub breaks_nothing : AreTold → ReadAlike → (count : ℕ) (backend : Backend) (config : LoweringConfig) → count < 2 ^ 64 → backend.supports.free_functions ≡ true
    → BreakNothing (generated_module count ∷ []) backend config
breaks_nothing every alike count backend config fits free report broken =
    let catalog = broken.catalog in
    let it = measured_by count backend config catalog in
    let here = known count backend config catalog fits broken.is in
    elim broken.holds [
      | inl (inl lowering) ↦
          nothing_broken it (nothing_reported count fits it refl here free (found_is count)) (λ r b. every it r broken.is b) report lowering
      | inl (inr nesting) ↦ nesting_stands count backend config (naming_of (measured count)) catalog here (found_is count) report nesting.1
      | inr lowered ↦
          let context = lowered.1 in
          let same = alike it context.definitions broken.is context.stand in
          let few = few_leaves count backend config (naming_of (measured count)) catalog here (struct_found count) (found_is count) (function_found count) in
          context_stands count backend config (naming_of (measured count)) catalog here (found_is count) context.definitions context.stand
          (subst (All (λ (c : Callable). length c.leaves ≤ 9)) (sym same) few) backend.supports.callback_returns_must_be_fallible report context.breaks
    ]

-- what is refused breaks a rule
pub refused_break : (modules : List Module) (backend : Backend) (config : LoweringConfig) (told : List LoweringReport)
    → AreRefusedWith modules backend config told → ¬ (BreakNothing modules backend config)
refused_break modules backend config [] refused = absurd (refused.some refl)
refused_break modules backend config (report ∷ reports) refused = λ keep. keep report (refused.broken.each report (0, omega arith, refl))
