use Rattle.std.proofs.Common.{◌≡◌, subst, sym}
use Rattle.std.specs.Prelude.{IfOk}
use Rattle.hir_modules.proofs.MarkLemmas.{around_inner}
use Rattle.hir_modules.proofs.modules.marks_before.Goals as goal

pub returns-in-Some : goal.returns-in-Some
returns-in-Some c =
    λ B m stands around.
    let inner = c.in-Some.ensures m stands in
    let sub = inner.1 in
    let read = around c.in-Some.outer inner.0 sub sub.parent sub.outer_is in
    subst (λ set. IfOk c.marks_at.result (λ copy. copy ≡ set))
    (sym (around_inner B c.args.env.now c.requires.sound c.in-Some.outer c.args.number inner.0 m sub.parent sub stands sub.outer_is))
    (c.marks_at.ensures _ read)
