use Rattle.std.proofs.Common.{false, ap, ◌∙◌}
use Rattle.std.specs.BTreeSet as sorted
use Rattle.std.specs.Ordering.{nat_cmp}
use Rattle.hir_reports.specs.Store.{added}
use Rattle.hir_validation.specs.Returned.{element_lifetime_errors, param_lifetimes}
use Rattle.hir_validation.proofs.SetLemmas.{element_step, in_empty, known_alike}
use Rattle.hir_validation.proofs.returned.ReturnedLifetimes.tell_elements.Goals as goal

pub loop-lifetime-init : goal.loop-lifetime-init
loop-lifetime-init c =
    let it = c.args.self.now in
    let name = c.args.name.now in
    ap (added c.args.errors.now)
    (known_alike it.env it.returned name (sorted.contains nat_cmp c.new-known.result) (λ d. false) (in_empty c.new-known.result c.new-known.ensures.empty)
    c.into_iter-lifetime-iterator.result
    ∙ ap (element_lifetime_errors it.env it.returned (λ d. false) name) (c.into_iter-lifetime-iterator.ensures.into_iter_gives ∙ c.lifetimes-lifetime-items.ensures))

pub loop-lifetime-preserved : goal.loop-lifetime-preserved
loop-lifetime-preserved c =
    let it = c.args.self.now in
    let name = c.args.name.now in
    element_step it.env it.returned name c.args.errors.now c.loop-lifetime.errors c.tell_unknown.new.errors (sorted.contains nat_cmp c.loop-lifetime.known)
    (sorted.contains nat_cmp c.tell_unknown.new.known) c.in-Some.lifetime c.loop-lifetime.lifetime-iterator c.next.new.self
    (element_lifetime_errors it.env it.returned (λ d. false) name (param_lifetimes c.args.ty.now)) c.loop-lifetime.invariant c.in-Some.ensures.steps c.in_ok-tell_unknown.ensures.told
    c.in_ok-tell_unknown.ensures.known
