use Rattle.std.proofs.Common.{ap, map, ◌∙◌}
use Rattle.hir_number.specs.Breaches.{Nothing, broken}
use Rattle.hir_number.specs.Signatures.{without_writer}
use Rattle.hir_number.proofs.BreachLemmas.{function_told, on_ok}
use Rattle.hir_number.proofs.breaches.test_function.Goals as goal

pub returns : goal.returns
returns c = λ n all is index.
    on_ok c.test_rest.result
    (function_told n all Nothing c.args.function.now c.before_writer-params.result.now
    (map broken c.args.breaches.now.items) (map broken c.test_rest.new.breaches.items)
    (c.before_writer-params.ensures ∙ ap without_writer c.as_slice.ensures))
    (c.test_rest.ensures n all (record { naming = is; index = index }))
