use Rattle.bridge_decl.specs.declared.modules.Item.TheVariants as item
use Rattle.bridge_generate.specs.Generated.{struct_numbered, structs_below}
use Rattle.bridge_generate.proofs.ListLemmas.{one_more}
use Rattle.std.proofs.Common.{ap}
use Rattle.bridge_generate.proofs.structs.add_structs.Goals as goal

pub loop-number-preserved : goal.loop-number-preserved
unfolding structs_below
loop-number-preserved c =
    one_more (λ number. item.Struct (struct_numbered number)) c.args.items.now c.loop-number.items c.push.new.self c.loop-number.number _
    (ap item.Struct c.in_ok-struct_numbered.ensures) c.loop-number.invariant c.in_ok-push.ensures.ok
