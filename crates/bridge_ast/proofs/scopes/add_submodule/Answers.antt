use Rattle.std.proofs.Common.{refl, get_or}
use Rattle.std.proofs.lemmas.Option.{slice_get-get_or}
use Rattle.bridge_ast.proofs.ScopeLemmas.{added_under, adds_submodule}
use Rattle.bridge_ast.proofs.scopes.add_submodule.Goals as goal

pub returns : goal.returns
returns c =
    let scopes = c.args.scopes.now in
    let was = get_or scopes c.args.above c.index-scopes-above.result in
    let is = record was { submodules = c.insert.new.self } in
    added_under scopes c.args.above was is c.args.name.now c.args.number c.requires
    (slice_get-get_or scopes c.args.above c.index-scopes-above.result c.requires)
    (adds_submodule was is c.in_ok-key.key c.args.name.now c.args.number c.in_ok-key.ensures refl refl
    c.in_ok-insert.ensures.updates.0)
