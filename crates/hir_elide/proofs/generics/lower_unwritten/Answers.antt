use Rattle.std.proofs.Common.{arith, length, ◌∙◌, ◌+◌, ◌++◌, ◌∷◌, [], ap, append_assoc, replicate}
use Rattle.std.proofs.lemmas.List.{length-append}
use Rattle.std.proofs.lemmas.Result.{err_from_is_err_and}
use Rattle.bridge_decl.specs.declared.lifetimes.Lifetime.TheVariants as written
use Rattle.hir_elide.proofs.GenericLemmas.{goes_on, one_more, split_at, stops}
use Rattle.hir_elide.proofs.generics.lower_unwritten.Goals as goal

pub returns-in_err-number-clause-fault : goal.returns-in_err-number-clause-fault
returns-in_err-number-clause-fault g c = λ s ls stands so_far.
    let before = c.loop.invariant.2 s ls stands so_far in
    let p = err_from_is_err_and c.from_residual.result c.from_residual.ensures.1 in
    let split = split_at c.loop.counter c.args.count c.loop-test.true in
    rw (p.1, p.2) (stops g.L.LowerLifetime.phase s (ls ++ replicate c.loop.counter written.Anonymous) c.loop.lowered.items written.Anonymous before.0
    (replicate split.0 written.Anonymous) c.in_err-number.field-0.0 (c.in_err-number.ensures.told _ before.1) (ls ++ replicate c.args.count written.Anonymous)
    (append_assoc ls (replicate c.loop.counter written.Anonymous) (written.Anonymous ∷ replicate split.0 written.Anonymous) ∙ ap (λ xs. ls ++ xs) split.1))

pub loop-preserved : goal.loop-preserved
loop-preserved g c = (
  ap length c.push_reserved.ensures.items ∙ omega (arith, c.loop.invariant.0, length-append c.loop.lowered.items (c.in_ok-number.number ∷ [])),
  c.push_reserved.ensures.capacity ∙ c.loop.invariant.1,
  λ s ls stands so_far.
      let before = c.loop.invariant.2 s ls stands so_far in
      goes_on g.L.LowerLifetime.phase s (ls ++ replicate c.loop.counter written.Anonymous) c.loop.lowered.items written.Anonymous before.0 c.in_ok-number.number
      (g.L.StandsFor.stands c.lower_lifetime.new.self) (c.in_ok-number.ensures.told _ before.1) (c.in_ok-number.ensures.kept _ before.1)
      (ls ++ replicate (c.loop.counter + 1) written.Anonymous)
      (append_assoc ls (replicate c.loop.counter written.Anonymous) (written.Anonymous ∷ []) ∙ ap (λ xs. ls ++ xs) (one_more c.loop.counter))
      c.push_reserved.new.self.items c.push_reserved.ensures.items,
)
