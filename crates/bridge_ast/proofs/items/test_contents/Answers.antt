use Rattle.std.proofs.Common.{subst, ◌++◌}
use Rattle.bridge_ast.specs.EnvFaults.{items_named, aliases_named}
use Rattle.bridge_text.specs.NameIndex.{HasMeanings}
use Rattle.bridge_text.proofs.NameIndexLemmas.{meanings_none}
use Rattle.bridge_ast.proofs.items.test_contents.Goals as goal

pub returns-clause-indexed : goal.returns-clause-indexed
returns-clause-indexed c =
    let items = c.args.«module».now.items in
    let after_items = subst (λ xs. HasMeanings c.test_items.new.names (items_named xs)) c.as_slice.ensures
    (c.in_ok-test_items.ensures.kept (meanings_none c.new-names.result c.new-names.ensures.empty)) in
    subst (λ xs. HasMeanings c.test_aliases.new.names (items_named items ++ aliases_named xs)) c.as_slice-2.ensures
    (c.in_ok-test_aliases.ensures.kept items after_items)
