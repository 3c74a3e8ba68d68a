use Rattle.std.proofs.Common.{◌≡◌, take}
use Rattle.bridge_ast.specs.AliasCount.{alias_count}
use Rattle.bridge_ast.proofs.environment.count_aliases.Given as goal

abbrev pub invariant-loop-module : goal.invariant-loop-module
invariant-loop-module l = l.count ≡ alias_count (take l.module-index l.modules)
