use Rattle.std.proofs.Common.{ap, ◌∙◌}
use Rattle.bridge_outside.proofs.PrintingLaws.{◌⨟◌, prints_same}
use Rattle.bridge_page.specs.inside.Printed.{dotted, input_at}
use Rattle.bridge_page.specs.inside.Walked.{names_from}
use Rattle.bridge_page.proofs.WalkLemmas.{fields_walked}
use Rattle.bridge_page.proofs.paths.put_path.Goals as goal

pub returns : goal.returns
returns g c =
    let defs = c.args.tcx.now.definitions in
    let path = c.args.path.now in
    c.put_input.ensures
    ⨟ prints_same
    (ap (λ fields. dotted (names_from defs fields c.input_struct-start.result)) c.as_slice.ensures ∙ ap (λ start. dotted (names_from defs path.fields start)) c.input_struct-start.ensures
    ∙ fields_walked defs path.fields (input_at c.args.method.now path.input))
    c.put_fields.ensures
