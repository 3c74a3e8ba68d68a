use Rattle.std.proofs.lemmas.Result.{err_from_is_err_and}
use Rattle.serde_json.specs.View.{view}
use Rattle.bridge_read.specs.forms.Modules.{contents}
use Rattle.bridge_read_parts.proofs.ListLemmas.{stops_on}
use Rattle.bridge_read.proofs.modules.+modules.Goals as goal

pub module_object-returns-in_err-nested : goal.module_object-returns-in_err-nested
unfolding contents
module_object-returns-in_err-nested t c =
    let p = err_from_is_err_and c.from_residual-in_err-nested.result c.from_residual-in_err-nested.ensures.1 in
    let opens = c.in_Continue-read_object-read_object.ensures in
    let name = c.in_ok-name.ensures _ (view c.args.value) opens.1 in
    let holds = c.in_ok-contents.ensures _ (view c.args.value) name.2 in
    let stops = c.in_err-nested.ensures _ _ (view c.args.value) holds.1 in
    rw (p.1, p.2, opens.0, name.0, holds.0, ← name.1, ← c.in_ok-path.ensures, ← c.as_slice.ensures) (stops_on c.in_err-nested.field-0.0 _ _ stops)
