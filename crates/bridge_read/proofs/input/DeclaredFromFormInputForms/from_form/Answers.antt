use Rattle.std.proofs.lemmas.Result.{err_from_is_err_and}
use Rattle.serde_json.specs.View.{view}
use Rattle.bridge_read.specs.forms.Inputs.{whole}
use Rattle.bridge_read_parts.proofs.ListLemmas.{stops_on}
use Rattle.bridge_read.proofs.input.DeclaredFromFormInputForms.from_form.Goals as goal

pub returns-in_err-urls : goal.returns-in_err-urls
unfolding whole
returns-in_err-urls c =
    let p = err_from_is_err_and c.from_residual-in_err-urls.result c.from_residual-in_err-urls.ensures.1 in
    let opens = c.in_Continue-read_object-read_object.ensures in
    let modules = c.in_ok-modules.ensures _ _ (view c.args.value) opens.1 in
    let validator = c.in_ok-validator.ensures _ _ (view c.args.value) modules.1 in
    let config = c.in_ok-config.ensures _ _ (view c.args.value) validator.1 in
    let stops = c.in_err-urls.ensures _ _ (view c.args.value) config.1 in
    rw (p.1, p.2, opens.0, modules.0, ← c.in_ok-no_backend.ensures, validator.0, ← c.default.ensures, config.0, ← c.new.ensures) (stops_on c.in_err-urls.field-0.0 _ _ stops)

pub returns-in_err-config : goal.returns-in_err-config
unfolding whole
returns-in_err-config c =
    let p = err_from_is_err_and c.from_residual-in_err-config.result c.from_residual-in_err-config.ensures.1 in
    let opens = c.in_Continue-read_object-read_object.ensures in
    let modules = c.in_ok-modules.ensures _ _ (view c.args.value) opens.1 in
    let validator = c.in_ok-validator.ensures _ _ (view c.args.value) modules.1 in
    let stops = c.in_err-config.ensures _ _ (view c.args.value) validator.1 in
    rw (p.1, p.2, opens.0, modules.0, ← c.in_ok-no_backend.ensures, validator.0, ← c.default.ensures) (stops_on c.in_err-config.field-0.0 _ _ stops)
