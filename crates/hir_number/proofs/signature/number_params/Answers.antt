use Rattle.std.proofs.Common.{◌+◌, drop, map, subst}
use Rattle.bridge_decl.specs.declared.methods.Param.{Param}
use Rattle.hir_number.specs.inside.Runs.{params_run}
use Rattle.hir_number.specs.inside.Threads.{type_run}
use Rattle.hir_number.proofs.RunLemmas.{SoFar, goes_on, next_of}
use Rattle.hir_number.proofs.signature.number_params.Goals as goal

pub loop-param-preserved : goal.loop-param-preserved
loop-param-preserved g c = λ names s is stands.
    let number = λ (param : Param). type_run g.L.LowerLifetime.phase names param.ty in
    let was = g.L.StandsFor.stands c.loop-param.lowerer in
    let whole = params_run g.L.LowerLifetime.phase names c.args.params.now s in
    rw c.in_ok-push.ensures.ok
    (goes_on was (g.L.StandsFor.stands c.number_type.new.lowerer) whole c.loop-param.numbered (number c.param-item.result) (map number (drop (c.loop-param.param-index + 1) c.args.params.now)) c.in_ok-number_type.field-0
    (subst (SoFar was whole c.loop-param.numbered) (next_of number c.args.params.now c.loop-param.param-index c.param-item.result c.loop-param-test.true c.param-item.is) (c.loop-param.invariant names s is stands))
    (λ t at. c.in_ok-number_type.ensures names t is at))
