use Rattle.hir_lower.proofs.NestingLemmas.{nesting_untold}
use Rattle.hir_lower.proofs.TellingLemmas.{answered}
use Rattle.hir_lower.proofs.refusing.lower_or_refuse.Goals as goal

pub returns : goal.returns
returns g c =
    λ names named.
    answered c.args.env.now (g.V.AttributeValidator.meaning c.args.validator.now) c.args.config names c.in_ok-defs.defs
    c.lower_whole.new.errors.reports c.what_is_fine_is_all_made.ensures
    (λ v. nesting_untold c.a_listed_place_has_its_kind.ensures c.args.env.now v) (c.in_ok-defs.ensures names named) c.unless_told.result
    c.unless_told.ensures
