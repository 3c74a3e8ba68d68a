use Rattle.std.proofs.Common.{◌≡◌, take}
use Rattle.bridge_decl.proofs.attrs.DiplomatBackendAttrCfg.+copies.Given as goal

abbrev pub invariant-clone_each-loop-condition : goal.invariant-clone_each-loop-condition
invariant-clone_each-loop-condition l = l.copies ≡ take l.condition-index l.condition-items
