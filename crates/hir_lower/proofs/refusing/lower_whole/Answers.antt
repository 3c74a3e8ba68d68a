use Rattle.std.proofs.Common.{ap, refl}
use Rattle.hir_reports.specs.Store.{Held}
use Rattle.hir_lower.proofs.TellingLemmas.{whole}
use Rattle.hir_lower.proofs.refusing.lower_whole.Goals as goal

pub returns : goal.returns
returns g c =
    λ names named.
    let mid = c.lower_in_order.new.errors in
    whole c.args.env.now (g.V.AttributeValidator.meaning c.args.validator.now) c.args.config names c.args.errors.now mid
    c.tell_nesting_of_fine.new.errors.reports c.in_ok-defs.defs (c.in_ok-defs.ensures.walked names named) c.requires.empty mid.reports refl
    c.in_ok-tell_nesting_of_fine.ensures.fine
    (λ some. ap (λ (h : Held). h.reports) (c.in_ok-tell_nesting_of_fine.ensures.others some))
