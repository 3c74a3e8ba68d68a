use Rattle.bridge_decl.specs.declared.modules.Item.TheVariants as item
use Rattle.bridge_generate.specs.Generated.{function_numbered, functions_below}
use Rattle.bridge_generate.proofs.ListLemmas.{one_more}
use Rattle.std.proofs.Common.{ap}
use Rattle.bridge_generate.proofs.functions.add_functions.Goals as goal

pub loop-number-preserved : goal.loop-number-preserved
unfolding functions_below
loop-number-preserved c =
    one_more (λ number. item.Function (function_numbered number)) c.args.items.now c.loop-number.items c.push.new.self c.loop-number.number _
    (ap item.Function c.in_ok-function_numbered.ensures) c.loop-number.invariant c.in_ok-push.ensures.ok
