use Rattle.std.proofs.Common.{ap, map, ◌∙◌}
use Rattle.hir_number.specs.Breaches.{Equal, broken}
use Rattle.hir_number.specs.Signatures.{without_writer}
use Rattle.hir_number.proofs.BreachLemmas.{method_told, on_ok}
use Rattle.hir_number.proofs.breaches.test_signature.Goals as goal

pub returns : goal.returns
returns c = λ n all is index.
    on_ok c.test_rest.result
    (method_told n all (Equal c.args.method.now.self_type) c.args.method.now c.before_writer-params.result.now
    (map broken c.args.breaches.now.items) (map broken c.test_receiver.new.breaches.items) (map broken c.test_rest.new.breaches.items)
    (c.before_writer-params.ensures ∙ ap without_writer c.as_slice.ensures) (c.in_ok-test_receiver.ensures n all (record { naming = is; index = index })))
    (c.test_rest.ensures n all (record { naming = is; index = index }))
