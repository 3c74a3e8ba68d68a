-- What is told of the definitions of a kind, one after another.
use Rattle.std.proofs.Common.{◌≡◌, arith, ◌<◌, ◌≤◌, ◌+◌, ℕ, List, [], length, get_or, Option, Some, None, true, false, refl, ap, subst, sym, ◌∙◌}
use Rattle.std.specs.Prelude.{is_some, slice_get}
use Rattle.std.proofs.Math.Decide.{dec_le}
use Rattle.std.proofs.Math.Nat.{lt_of_not-le}
use Rattle.std.proofs.lemmas.Option.{get_or_from_slice_get, slice_get_within}
use Rattle.hir_ids.specs.declared.ids.SymbolId.{SymbolId}
use Rattle.hir_fitting.specs.Answering.{AnswersFitting}
use Rattle.hir_fitting.specs.Parts.{DefinitionFits, DefinitionMisfits, Part}
use Rattle.hir_fitting.specs.declared.census.Census.{Census}
use Rattle.hir_fitting.specs.declared.definitions.Unfit.{Unfit}
use Rattle.hir_context.specs.inside.Telling.{TellsOfKind}

module _ (census : Census) where
  -- nothing is told of a definition that fits
  pub none_fits : (id : SymbolId) (parts : List Part) (answer : Option Unfit) → AnswersFitting census id parts answer → false ≡ is_some answer → DefinitionFits census parts
  none_fits id parts None told is = told.0.0 refl
  none_fits id parts (Some unfit) told is = absurd cc

  module _ (symbol_at : ℕ → SymbolId) (each : List (List Part)) where
    pub some_told : (place : ℕ) (parts : List Part) (id : SymbolId) (answer : Option Unfit) → id ≡ symbol_at place → slice_get each place ≡ Some parts
        → AnswersFitting census id parts answer → true ≡ is_some answer → TellsOfKind census symbol_at each answer
    some_told place parts id (Some unfit) at is told h =
        (place, (parts, told.1.0 ∙ at, is, subst (λ i. DefinitionMisfits census i parts unfit.named) (sym told.1.0) told.1.1))
    some_told place parts id None at is told h = absurd cc

    -- the first so many fit
    abbrev pub FirstFit : ℕ → Type 0
    FirstFit n = (k : ℕ) (parts : List Part) → k < n → slice_get each k ≡ Some parts → DefinitionFits census parts

    pub one_more : (place : ℕ) (parts : List Part) → FirstFit place → slice_get each place ≡ Some parts → DefinitionFits census parts → FirstFit (place + 1)
    one_more place parts before is fits k other within at =
        elim (dec_le place k) [
          | yes le ↦
              let same : place ≡ k = omega (arith, within, le) in
              subst (DefinitionFits census)
              (sym (get_or_from_slice_get each place parts [] is) ∙ ap (λ n. get_or each n []) same ∙ get_or_from_slice_get each k other [] at) fits
          | no more ↦ before k other (lt_of_not-le more) at
        ]

    pub all_first : (n : ℕ) → FirstFit n → length each ≤ n → TellsOfKind census symbol_at each None
    all_first n before long k parts at =
        let within = slice_get_within each k parts at in
        before k parts (omega (arith, within, long)) at
