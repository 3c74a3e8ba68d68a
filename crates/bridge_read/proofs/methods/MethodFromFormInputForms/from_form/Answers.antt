use Rattle.std.proofs.lemmas.Result.{err_from_is_err_and}
use Rattle.serde_json.specs.View.{view}
use Rattle.bridge_read_parts.specs.forms.Docs.{documented}
use Rattle.bridge_read.specs.forms.Methods.{method, method_head, signature}
use Rattle.bridge_read_parts.proofs.ListLemmas.{stops_on}
use Rattle.bridge_read.proofs.methods.MethodFromFormInputForms.from_form.Goals as goal

pub returns-in_err-docs : goal.returns-in_err-docs
unfolding method method_head signature documented
returns-in_err-docs c =
    let p = err_from_is_err_and c.from_residual-in_err-docs.result c.from_residual-in_err-docs.ensures.1 in
    let opens = c.in_Continue-read_object-read_object.ensures in
    let head = c.in_ok-head.ensures _ (view c.args.value) opens.1 in
    let signed = c.in_ok-signature.ensures _ (view c.args.value) head.1 in
    let stops = c.in_err-docs.ensures _ (view c.args.value) signed.1 in
    rw (p.1, p.2, opens.0, head.0, signed.0) (stops_on c.in_err-docs.field-0.0 _ _ stops)

pub returns-in_err-signature : goal.returns-in_err-signature
unfolding method method_head signature documented
returns-in_err-signature c =
    let p = err_from_is_err_and c.from_residual-in_err-signature.result c.from_residual-in_err-signature.ensures.1 in
    let opens = c.in_Continue-read_object-read_object.ensures in
    let head = c.in_ok-head.ensures _ (view c.args.value) opens.1 in
    let stops = c.in_err-signature.ensures _ (view c.args.value) head.1 in
    rw (p.1, p.2, opens.0, head.0) (stops_on c.in_err-signature.field-0.0 _ _ stops)
