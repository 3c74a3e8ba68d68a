use Rattle.std.proofs.lemmas.Result.{err_from_is_err_and}
use Rattle.serde_json.specs.View.{view}
use Rattle.bridge_read.proofs.CountLemmas.{modules_counted}
use Rattle.bridge_read.proofs.CutLaws.{nothing_is_cut}
use Rattle.bridge_read.proofs.InputLaws.{faultless, spelled_once, form_only, form_is_told, form_refuses, env_only, env_is_told, env_refuses, read_spelled, read_only}
use Rattle.bridge_read.proofs.LeadLemmas.{pointer_leads}
use Rattle.bridge_read.proofs.ParentLemmas.{none_lacks_its_parent}
use Rattle.bridge_read.proofs.TrueLemmas.{all_placed}
use Rattle.bridge_read.proofs.input.read_input.Goals as goal

pub returns-in_err-value-clause-once : goal.returns-in_err-value-clause-once
returns-in_err-value-clause-once c = spelled_once c.args.bytes.now

pub returns-in_err-value-clause-faultless : goal.returns-in_err-value-clause-faultless
returns-in_err-value-clause-faultless c = faultless c.args.bytes.now

pub returns-in_err-value-clause-counted : goal.returns-in_err-value-clause-counted
returns-in_err-value-clause-counted c = modules_counted

pub returns-in_err-value-clause-pointed : goal.returns-in_err-value-clause-pointed
returns-in_err-value-clause-pointed c = pointer_leads

pub returns-in_err-value-clause-placed : goal.returns-in_err-value-clause-placed
returns-in_err-value-clause-placed c = all_placed

pub returns-in_err-value-clause-parents : goal.returns-in_err-value-clause-parents
returns-in_err-value-clause-parents c = none_lacks_its_parent

pub returns-in_err-value-clause-uncut : goal.returns-in_err-value-clause-uncut
returns-in_err-value-clause-uncut c = nothing_is_cut

pub returns-in_err-declared-clause-only : goal.returns-in_err-declared-clause-only
returns-in_err-declared-clause-only c =
    let p = err_from_is_err_and c.from_residual-in_err-declared.result c.from_residual-in_err-declared.ensures.1 in
    rw (p.1, p.2) (form_only c.args.bytes.now (view c.in_ok-value.value) c.in_ok-value.ensures.ok c.in_err-declared.field-0.0 c.in_err-declared.ensures)

pub returns-in_err-declared-clause-told : goal.returns-in_err-declared-clause-told
returns-in_err-declared-clause-told c =
    let p = err_from_is_err_and c.from_residual-in_err-declared.result c.from_residual-in_err-declared.ensures.1 in
    rw (p.1, p.2) (form_is_told c.args.bytes.now (view c.in_ok-value.value) c.in_ok-value.ensures.ok c.in_err-declared.field-0.0 c.in_err-declared.ensures)

pub returns-in_err-declared-clause-refused : goal.returns-in_err-declared-clause-refused
returns-in_err-declared-clause-refused c =
    let p = err_from_is_err_and c.from_residual-in_err-declared.result c.from_residual-in_err-declared.ensures.1 in
    rw (p.1, p.2) (form_refuses c.args.bytes.now (view c.in_ok-value.value) c.in_ok-value.ensures.ok c.in_err-declared.field-0.0 c.in_err-declared.ensures)

pub returns-in_err-declared-clause-once : goal.returns-in_err-declared-clause-once
returns-in_err-declared-clause-once c = spelled_once c.args.bytes.now

pub returns-in_err-declared-clause-faultless : goal.returns-in_err-declared-clause-faultless
returns-in_err-declared-clause-faultless c = faultless c.args.bytes.now

pub returns-in_err-declared-clause-counted : goal.returns-in_err-declared-clause-counted
returns-in_err-declared-clause-counted c = modules_counted

pub returns-in_err-declared-clause-pointed : goal.returns-in_err-declared-clause-pointed
returns-in_err-declared-clause-pointed c = pointer_leads

pub returns-in_err-declared-clause-placed : goal.returns-in_err-declared-clause-placed
returns-in_err-declared-clause-placed c = all_placed

pub returns-in_err-declared-clause-parents : goal.returns-in_err-declared-clause-parents
returns-in_err-declared-clause-parents c = none_lacks_its_parent

pub returns-in_err-declared-clause-uncut : goal.returns-in_err-declared-clause-uncut
returns-in_err-declared-clause-uncut c = nothing_is_cut

pub returns-in_err-env-clause-only : goal.returns-in_err-env-clause-only
returns-in_err-env-clause-only c =
    let p = err_from_is_err_and c.from_residual-in_err-env.result c.from_residual-in_err-env.ensures.1 in
    rw (p.1, p.2) (env_only c.args.bytes.now (view c.in_ok-value.value) c.in_ok-value.ensures.ok c.in_ok-declared.declared c.in_ok-declared.ensures c.in_err-env.field-0.0 (c.in_err-env.ensures (view c.in_ok-value.value) c.in_ok-value.ensures.ok))

pub returns-in_err-env-clause-told : goal.returns-in_err-env-clause-told
returns-in_err-env-clause-told c =
    let p = err_from_is_err_and c.from_residual-in_err-env.result c.from_residual-in_err-env.ensures.1 in
    rw (p.1, p.2) (env_is_told c.args.bytes.now (view c.in_ok-value.value) c.in_ok-value.ensures.ok c.in_ok-declared.declared c.in_ok-declared.ensures c.in_err-env.field-0.0 (c.in_err-env.ensures (view c.in_ok-value.value) c.in_ok-value.ensures.ok))

pub returns-in_err-env-clause-refused : goal.returns-in_err-env-clause-refused
returns-in_err-env-clause-refused c =
    let p = err_from_is_err_and c.from_residual-in_err-env.result c.from_residual-in_err-env.ensures.1 in
    rw (p.1, p.2) (env_refuses c.args.bytes.now (view c.in_ok-value.value) c.in_ok-value.ensures.ok c.in_ok-declared.declared c.in_ok-declared.ensures c.in_err-env.field-0.0 (c.in_err-env.ensures (view c.in_ok-value.value) c.in_ok-value.ensures.ok))

pub returns-in_err-env-clause-once : goal.returns-in_err-env-clause-once
returns-in_err-env-clause-once c = spelled_once c.args.bytes.now

pub returns-in_err-env-clause-faultless : goal.returns-in_err-env-clause-faultless
returns-in_err-env-clause-faultless c = faultless c.args.bytes.now

pub returns-in_err-env-clause-counted : goal.returns-in_err-env-clause-counted
returns-in_err-env-clause-counted c = modules_counted

pub returns-in_err-env-clause-pointed : goal.returns-in_err-env-clause-pointed
returns-in_err-env-clause-pointed c = pointer_leads

pub returns-in_err-env-clause-placed : goal.returns-in_err-env-clause-placed
returns-in_err-env-clause-placed c = all_placed

pub returns-in_err-env-clause-parents : goal.returns-in_err-env-clause-parents
returns-in_err-env-clause-parents c = none_lacks_its_parent

pub returns-in_err-env-clause-uncut : goal.returns-in_err-env-clause-uncut
returns-in_err-env-clause-uncut c = nothing_is_cut

pub returns-clause-spelled : goal.returns-clause-spelled
returns-clause-spelled c =
    read_spelled c.args.bytes.now (view c.in_ok-value.value) c.in_ok-value.ensures.ok c.in_ok-declared.declared c.in_ok-declared.ensures c.in_ok-env.env (c.in_ok-env.ensures (view c.in_ok-value.value) c.in_ok-value.ensures.ok).0 (c.in_ok-env.ensures (view c.in_ok-value.value) c.in_ok-value.ensures.ok).1

pub returns-clause-only : goal.returns-clause-only
returns-clause-only c =
    read_only c.args.bytes.now (view c.in_ok-value.value) c.in_ok-value.ensures.ok c.in_ok-declared.declared c.in_ok-declared.ensures c.in_ok-env.env (c.in_ok-env.ensures (view c.in_ok-value.value) c.in_ok-value.ensures.ok).0

pub returns-clause-once : goal.returns-clause-once
returns-clause-once c = spelled_once c.args.bytes.now

pub returns-clause-faultless : goal.returns-clause-faultless
returns-clause-faultless c = faultless c.args.bytes.now

pub returns-clause-counted : goal.returns-clause-counted
returns-clause-counted c = modules_counted

pub returns-clause-pointed : goal.returns-clause-pointed
returns-clause-pointed c = pointer_leads

pub returns-clause-placed : goal.returns-clause-placed
returns-clause-placed c = all_placed

pub returns-clause-parents : goal.returns-clause-parents
returns-clause-parents c = none_lacks_its_parent

pub returns-clause-uncut : goal.returns-clause-uncut
returns-clause-uncut c = nothing_is_cut
