use Rattle.std.proofs.Common.{Option, Bor, ap, sym}
use Rattle.std.specs.Option.{option_copied}
use Rattle.hir_context.specs.Lookups.{InputStruct}
use Rattle.hir_mentions.specs.Mentions.{where_any}
use Rattle.bridge_outside.proofs.PrintingLaws.{prints_nothing, prints_same}
use Rattle.bridge_page.specs.inside.Printed.{dotted}
use Rattle.bridge_page.specs.inside.Walked.{name_of_field}
use Rattle.bridge_page.proofs.paths.put_field.Goals as goal

pub returns-in-None-clause-printed : goal.returns-in-None-clause-printed
returns-in-None-clause-printed g c =
    prints_same (ap (λ (def : Option (Bor InputStruct)). dotted (where_any (name_of_field c.args.number) (option_copied def))) (sym c.in-None.is)) prints_nothing
