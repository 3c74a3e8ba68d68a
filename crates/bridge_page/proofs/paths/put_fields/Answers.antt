use Rattle.std.specs.Option.{option_copied}
use Rattle.bridge_page.proofs.WalkLemmas.{walk_begins, walk_ends, walk_goes_on}
use Rattle.bridge_page.proofs.paths.put_fields.Goals as goal

pub loop-number-init : goal.loop-number-init
loop-number-init g c = walk_begins c.args.tcx.now.definitions c.args.start c.args.fields.now

pub loop-number-preserved : goal.loop-number-preserved
loop-number-preserved g c =
    walk_goes_on c.args.tcx.now.definitions c.args.start c.args.fields.now c.loop-number.inside c.put_field-inside.result (option_copied c.struct_at.result) c.loop-number.number-index
    c.loop-number-test.true c.loop-number.invariant c.struct_at.ensures c.put_field-inside.ensures.printed c.put_field-inside.ensures.next

pub returns : goal.returns
returns g c = walk_ends c.args.tcx.now.definitions c.args.start c.args.fields.now c.loop-number.inside c.loop-number.number-index c.loop-number-test.false c.loop-number.invariant
