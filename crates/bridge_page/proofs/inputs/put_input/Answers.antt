use Rattle.std.proofs.Common.{ap, sym, ◌∙◌}
use Rattle.hir_definitions.specs.declared.methods.Param.{Param}
use Rattle.hir_mentions.specs.Mentions.{where_any}
use Rattle.bridge_outside.proofs.PrintingLaws.{prints_nothing, prints_same}
use Rattle.bridge_page.specs.inside.Printed.{input_name}
use Rattle.bridge_page.proofs.inputs.put_input.Goals as goal

pub returns-in_default : goal.returns-in_default
returns-in_default g c =
    prints_same (ap (where_any (λ (param : Param). param.name)) c.in_default.ensures.value ∙ sym (ap (input_name c.args.method.now) c.in-Param.is)) prints_nothing
