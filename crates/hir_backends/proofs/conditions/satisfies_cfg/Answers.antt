use Rattle.std.proofs.Common.{◌≡◌, ◌||◌, false, sym, ap, ◌∙◌, option_map, unwrap_or}
use Rattle.hir_backends.proofs.conditions.satisfies_cfg.Goals as goal

pub returns-in-Some-clause-found : goal.returns-in-Some-clause-found
returns-in-Some-clause-found g c =
    rw c.in-Some.is
    (rw (← c.meets-met.ensures, ← c.is_by_auto.ensures)
    (c.raise.ensures ∙ ap (λ b. b || c.is_by_auto.result) (sym (ap (λ o. unwrap_or (option_map (λ found. found.now) o) false) c.in-Some.is))))
