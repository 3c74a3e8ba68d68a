use Rattle.std.proofs.Common.{map}
use Rattle.hir_number.specs.Breaches.{Anything, broken}
use Rattle.hir_number.proofs.BreachLemmas.{fields_told, on_ok}
use Rattle.hir_number.proofs.breaches.test_item.Goals as goal

pub returns : goal.returns
returns c = λ n all is index.
    on_ok c.test_fields.result
    (fields_told n all Anything c.args.item.now.fields c.as_slice.result.now
    (map broken c.args.breaches.now.items) (map broken c.test_fields.new.breaches.items) c.as_slice.ensures)
    (c.test_fields.ensures n all (record { naming = is; index = index }))
