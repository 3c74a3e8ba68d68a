use Rattle.std.proofs.lemmas.Result.{err_from_is_err_and}
use Rattle.serde_json.specs.View.{view}
use Rattle.bridge_read_parts.specs.forms.Docs.{documented}
use Rattle.bridge_read.specs.forms.Items.{function_parts}
use Rattle.bridge_read.specs.forms.Methods.{signature}
use Rattle.bridge_read_parts.proofs.ListLemmas.{stops_on}
use Rattle.bridge_read.proofs.items.function.Goals as goal

pub returns-in_err-docs : goal.returns-in_err-docs
unfolding function_parts signature documented
returns-in_err-docs c =
    let p = err_from_is_err_and c.from_residual-in_err-docs.result c.from_residual-in_err-docs.ensures.1 in
    let opens = c.in_Continue-read_object-read_object.ensures in
    let kind = c.next.ensures.left _ _ (view c.args.value) opens.1 in
    let name = c.in_ok-name.ensures _ _ (view c.args.value) kind.1 in
    let abi_name = c.in_ok-optional.ensures _ _ (view c.args.value) name.1 in
    let signed = c.in_ok-signature.ensures _ (view c.args.value) abi_name.1 in
    let stops = c.in_err-docs.ensures _ (view c.args.value) signed.1 in
    rw (p.1, p.2, opens.0, name.0, abi_name.0, signed.0) (stops_on c.in_err-docs.field-0.0 _ _ stops)
