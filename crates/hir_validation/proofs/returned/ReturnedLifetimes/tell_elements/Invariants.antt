use Rattle.std.proofs.Common.{◌≡◌, false}
use Rattle.std.specs.BTreeSet as sorted
use Rattle.std.specs.Ordering.{nat_cmp}
use Rattle.hir_reports.specs.Store.{added}
use Rattle.hir_validation.specs.Returned.{element_lifetime_errors, param_lifetimes}
use Rattle.hir_validation.proofs.returned.ReturnedLifetimes.tell_elements.Given as goal

abbrev pub invariant-loop-lifetime : goal.invariant-loop-lifetime
invariant-loop-lifetime l =
    added l.errors (element_lifetime_errors l.self.env l.self.returned (sorted.contains nat_cmp l.known) l.name l.lifetime-iterator)
    ≡ added l.initial.errors (element_lifetime_errors l.self.env l.self.returned (λ d. false) l.name (param_lifetimes l.ty))
