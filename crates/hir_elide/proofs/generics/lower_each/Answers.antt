use Rattle.std.proofs.Common.{◌-◌, ◌∙◌, Ok, ap, length, replicate, sym}
use Rattle.std.proofs.lemmas.Result.{err_from_is_err_and}
use Rattle.bridge_decl.specs.declared.lifetimes.Lifetime.TheVariants as written
use Rattle.hir_elide.specs.Generics.{all_or_fault, filled}
use Rattle.hir_elide.proofs.BelowLemmas.{list_within}
use Rattle.hir_elide.proofs.GenericLemmas.{all_ok, fault_more, tells}
use Rattle.hir_elide.proofs.generics.lower_each.Goals as goal

pub returns-in_err-written-clause-told : goal.returns-in_err-written-clause-told
returns-in_err-written-clause-told g c = λ s stands.
    let p = err_from_is_err_and c.from_residual-in_err-written.result c.from_residual-in_err-written.ensures.1 in
    rw (p.1, p.2) (fault_more g.L.LowerLifetime.phase s c.args.lifetimes.now (replicate (c.args.count - length c.args.lifetimes.now) written.Anonymous) c.in_err-written.field-0.0
    (c.in_err-written.ensures.fault s stands))

pub returns-in_err-lowered-clause-told : goal.returns-in_err-lowered-clause-told
returns-in_err-lowered-clause-told g c = λ s stands.
    let p = err_from_is_err_and c.from_residual-in_err-lowered.result c.from_residual-in_err-lowered.ensures.1 in
    rw (p.1, p.2) (tells c.in_err-lowered.field-0.0 _
    (c.in_err-lowered.ensures.fault s c.args.lifetimes.now (c.in_ok-written.ensures.kept s stands) (c.in_ok-written.ensures.numbers s stands)))

pub returns-clause-told : goal.returns-clause-told
returns-clause-told g c = λ s stands.
    ap all_or_fault (c.in_ok-lowered.ensures.numbers s c.args.lifetimes.now (c.in_ok-written.ensures.kept s stands) (c.in_ok-written.ensures.numbers s stands))
    ∙ all_ok c.in_ok-lowered.lowered.items ∙ ap Ok (sym c.from_list.ensures)

pub returns-clause-within : goal.returns-clause-within
returns-clause-within g c = λ s stands.
    list_within g.L.LowerLifetime.phase s (filled c.args.lifetimes.now c.args.count) (Ok c.from_list.result) (returns-clause-told g c s stands)
