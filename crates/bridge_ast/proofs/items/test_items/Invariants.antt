use Rattle.std.proofs.Common.{◌≡◌, take, []}
use Rattle.bridge_ast.specs.Each.{each}
use Rattle.bridge_ast.specs.EnvFaults.{items_named, item_faults}
use Rattle.bridge_text.specs.NameIndex.{HasMeanings}
use Rattle.bridge_ast.proofs.items.test_items.Given as goal

abbrev pub invariant-loop-number : goal.invariant-loop-number
invariant-loop-number l = HasMeanings l.initial.names [] → record {
  names : HasMeanings l.names (items_named (take l.number l.items));
  none : each (item_faults l.«module») (take l.number l.items) ≡ [];
}
