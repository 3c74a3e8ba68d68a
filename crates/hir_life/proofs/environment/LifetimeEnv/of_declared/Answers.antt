use Rattle.std.proofs.Common.{◌∙◌, ap, map}
use Rattle.hir_life.specs.Declarations.{bounded}
use Rattle.hir_life.proofs.Declaring.{built_sound}
use Rattle.hir_life.proofs.environment.LifetimeEnv.of_declared.Goals as goal

pub new-requires : goal.new-requires
new-requires c = rw c.len-count.ensures (built_sound c.args.env.now c.in_ok-nodes.nodes (c.in_ok-nodes.ensures.value ∙ ap (map bounded) c.as_slice.ensures) c.requires)
