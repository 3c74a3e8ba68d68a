use Rattle.std.proofs.Common.{ap, sym, ◌∙◌}
use Rattle.std.specs.List.{flat_map}
use Rattle.hir_mentions.specs.Mentions.{where_any}
use Rattle.bridge_outside.proofs.PrintingLaws.{◌⨟◌, prints_same}
use Rattle.bridge_page.specs.inside.Printed.{returned_text}
use Rattle.bridge_page.proofs.callables.put_callable.Goals as goal

pub returns : goal.returns
returns g c =
    let defs = c.args.tcx.now.definitions in
    let report = c.args.report.now in
    c.put_callable_line.ensures
    ⨟ prints_same
    (ap (flat_map (returned_text defs c.method_of-method.result.now)) c.as_slice.ensures
    ∙ sym (ap (where_any (λ m. flat_map (returned_text defs m) report.returned)) c.method_of-method.ensures))
    c.put_all_returned.ensures
