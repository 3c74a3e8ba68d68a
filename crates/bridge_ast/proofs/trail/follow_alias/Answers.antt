use Rattle.std.proofs.Common.{sym}
use Rattle.bridge_ast.proofs.AdvanceLemmas.{alias_waits, alias_comes, alias_stops}
use Rattle.bridge_ast.proofs.trail.follow_alias.Goals as goal

pub returns-in-None : goal.returns-in-None
returns-in-None c =
    λ modules are is_alias. alias_waits modules c.args.ends.now c.args.steps c.args.alias (sym c.in-None.ensures.value)

pub returns-in-None-checked_add : goal.returns-in-None-checked_add
returns-in-None-checked_add c =
    λ modules are is_alias. alias_stops modules c.args.ends.now c.args.steps c.args.alias c.in-Some.end.now are
    (sym c.in-Some.ensures.value) c.in-None-checked_add.ensures

pub returns-in-Some-checked_add : goal.returns-in-Some-checked_add
returns-in-Some-checked_add c =
    λ modules are is_alias. alias_comes modules c.args.ends.now c.args.steps c.args.alias c.in-Some.end.now are
    (sym c.in-Some.ensures.value) c.in-Some-checked_add.steps c.in-Some-checked_add.ensures.1
