use Rattle.std.proofs.Common.{List, ℕ, Option, Bor, ap, sym}
use Rattle.std.specs.Prelude.{option_map}
use Rattle.hir_reports.specs.Places.{subitem_segments}
use Rattle.bridge_outside.proofs.PrintingLaws.{prints_nothing, prints_same}
use Rattle.bridge_printing.specs.inside.Segments.{joined_after}
use Rattle.bridge_printing.proofs.places.put_method.Goals as goal

pub returns-in-None-clause-printed : goal.returns-in-None-clause-printed
returns-in-None-clause-printed g c =
    prints_same (ap (λ (o : Option (Bor (List ℕ))). joined_after c.args.after (subitem_segments (option_map (λ name. name.now) o))) (sym c.in-None.is)) prints_nothing
