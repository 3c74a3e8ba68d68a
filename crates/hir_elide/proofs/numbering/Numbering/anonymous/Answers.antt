use Rattle.std.proofs.Common.{ℕ, ◌∙◌, ap, arith}
use Rattle.bridge_decl.specs.declared.lifetimes.Lifetime.TheVariants as written
use Rattle.hir_life.specs.Environment.{Environment}
use Rattle.hir_elide.proofs.NumberingLemmas.{numbers_used}
use Rattle.hir_elide.proofs.numbering.Numbering.anonymous.Goals as goal

pub returns-clause-kept : goal.returns-clause-kept
returns-clause-kept c = λ s role numbers.
    numbers_used c.args.self.now s role written.Anonymous _ numbers
    (c.add_anonymous.ensures.added ∙ ap {B = Environment} (λ (n : ℕ). record { bounds = c.args.self.now.lifetimes.bounds; count = n }) (omega arith))
