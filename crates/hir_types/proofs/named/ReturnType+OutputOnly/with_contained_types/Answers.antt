use Rattle.std.proofs.Common.{◌≡◌, option_copied}
use Rattle.std.specs.Fn.{CalledAt}
use Rattle.hir_types.specs.Returns.{success_of, type_in}
use Rattle.hir_types.proofs.Folding.{folds_on}
use Rattle.hir_types.proofs.named.ReturnType+OutputOnly.with_contained_types.Goals as goal

pub returns : goal.returns
returns g c =
    let first : option_copied c.as_type.result ≡ type_in (success_of c.args.self.now) = cc (c.as_type.ensures, c.success_type.ensures) in
    (c.visit-2.new.f, rw (← first, ← c.error_type.ensures) (folds_on (λ p ty q. CalledAt g.F.FnMut p ty tt q) _ _ _ _ _ c.visit.ensures.called c.visit-2.ensures.called))
