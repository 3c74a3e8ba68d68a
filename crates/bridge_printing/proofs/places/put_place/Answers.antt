use Rattle.std.specs.Prelude.{option_map}
use Rattle.bridge_outside.proofs.PrintingLaws.{◌⨟◌, prints_same}
use Rattle.bridge_printing.proofs.SegmentLemmas.{place_is}
use Rattle.bridge_printing.proofs.places.put_place.Goals as goal

pub returns : goal.returns
returns g c =
    prints_same
    (place_is c.args.path.now c.args.item.now (option_map (λ name. name.now) c.args.method) c.is_empty.result c.put_item-with_item.result c.put_method-with_method.result c.is_empty.ensures
    c.put_item-with_item.ensures.any c.put_method-with_method.ensures.any)
    (c.put_module.ensures ⨟ c.put_item-with_item.ensures.printed ⨟ c.put_method-with_method.ensures.printed ⨟ c.put_root.ensures)
