use Rattle.std.proofs.Common.{[], None, ap, ◌∙◌}
use Rattle.std.specs.Prelude.{slice_index_or}
use Rattle.std.proofs.lemmas.Result.{on_ok_weaker}
use Rattle.bridge_report.specs.declared.report.CallableId.TheVariants as callable
use Rattle.hir_ids.specs.declared.ids.SymbolId.TheVariants as symbol
use Rattle.hir_reports.specs.Store.{at_place}
use Rattle.bridge_validation.specs.Told.{declaring_module}
use Rattle.bridge_validation.proofs.WalkLemmas.{path_there, told_there}
use Rattle.bridge_validation.proofs.callables.Tested.tell_enabled.Goals as goal

pub returns : goal.returns
returns c =
    let defs = c.args.self.now.counts.tcx.now.definitions in
    let id = c.args.id in
    let function = c.args.function.now in
    let name = c.as_str-name.result.now in
    let path = slice_index_or defs.functions.modules id [] in
    on_ok_weaker c.tell_callable.result
    (told_there c.args.self.now.callbacks_must_fail defs (callable.Function id) function (at_place (declaring_module defs (symbol.FunctionId id)) name None)
    (at_place path function.name.0 None) c.args.errors.now c.go_to.new.errors c.tell_callable.new.errors c.go_to.ensures
    (ap (λ path. at_place path name None) (path_there defs.functions.modules id) ∙ ap (λ name. at_place path name None) c.as_str-name.ensures.value))
    c.tell_callable.ensures
