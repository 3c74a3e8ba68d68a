use Rattle.std.proofs.Common.{◌≡◌, take, List, [], ◌++◌}
use Rattle.bridge_decl.specs.declared.modules.Item.{Item}
use Rattle.bridge_ast.specs.Each.{each}
use Rattle.bridge_ast.specs.EnvFaults.{items_named, aliases_named, alias_faults}
use Rattle.bridge_text.specs.NameIndex.{HasMeanings}
use Rattle.bridge_ast.proofs.items.test_aliases.Given as goal

abbrev pub invariant-loop-number : goal.invariant-loop-number
invariant-loop-number l = (items : List Item) → HasMeanings l.initial.names (items_named items) → record {
  names : HasMeanings l.names (items_named items ++ aliases_named (take l.number l.aliases));
  none : each (alias_faults l.«module» items) (take l.number l.aliases) ≡ [];
}
