use Rattle.std.proofs.Common.{refl}
use Rattle.hir_types.proofs.named.visit.Goals as goal

pub returns-in-Some-clause-called : goal.returns-in-Some-clause-called
returns-in-Some-clause-called g c = rw c.in-Some.is (c.f.new.self, record { shown = c.in-Some.ty; shows = refl; called = c.f.ensures }, refl)
