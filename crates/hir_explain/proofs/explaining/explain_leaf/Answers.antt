use Rattle.std.proofs.Common.{ℕ, subst}
use Rattle.std.specs.List.{Contains}
use Rattle.hir_explain.specs.Explanations.{IsCarried, Separates}
use Rattle.hir_explain.proofs.Meaning.{reached_separates, separates_not}
use Rattle.hir_explain.proofs.explaining.explain_leaf.Goals as goal

pub returns-clause-proves : goal.returns-clause-proves
returns-clause-proves c =
    record {
      t_within = c.requires.t;
      carried_within = c.requires.carried;
      within = c.in_ok-all_reached-in-None.ensures.within;
      shows =
          reached_separates _ _ _ _ _ c.in_ok-all_reached-in-None.ensures.sound c.requires.t c.in_ok-search.ensures
          (subst (λ x. (l : ℕ) → IsCarried x l → Contains c.in_ok-search.search.reached l → ⊥) c.as_slice.ensures c.in-None.ensures)
          c.in_ok-all_reached-in-None.ensures.list c.in_ok-all_reached-in-None.ensures.within;
    }

pub returns-clause-kind : goal.returns-clause-kind
returns-clause-kind c =
    let shows : Separates c.args.env.now c.args.carried.now c.args.t c.in_ok-all_reached-in-None.field-0 =
    reached_separates _ _ _ _ _ c.in_ok-all_reached-in-None.ensures.sound c.requires.t c.in_ok-search.ensures
    (subst (λ x. (l : ℕ) → IsCarried x l → Contains c.in_ok-search.search.reached l → ⊥) c.as_slice.ensures c.in-None.ensures)
    c.in_ok-all_reached-in-None.ensures.list c.in_ok-all_reached-in-None.ensures.within in (
      λ none. absurd none,
      separates_not _ _ _ _ shows,
    )
