-- What is linked has the environment of its definition.
use Rattle.std.proofs.Common.{◌≡◌, ℕ, List, Option, Some, None, option_map, ap}
use Rattle.hir_life.specs.Environment.{Environment}
use Rattle.hir_life.specs.declared.maybe_static.MaybeStatic.{MaybeStatic}
use Rattle.hir_ids.specs.declared.ids.TypeId.{TypeId}
use Rattle.hir_links.specs.Links.{Link}
use Rattle.hir_context.specs.Lookups.{environment_at}
use Rattle.hir_context.specs.declared.parts.Definitions.{Definitions}
use Rattle.hir_defs.specs.Linking.{link_to}

pub linked_environment : (defs : Definitions) (id : TypeId) (given : List (MaybeStatic ℕ)) (link : Link) → link_to defs id None given ≡ Some link → environment_at defs id ≡ Some link.environment
linked_environment defs id given link is = by_environment (environment_at defs id) is where
  by_environment : (o : Option Environment) → option_map (λ env. record { environment = env; self_lifetime = None; uses = given }) o ≡ Some link → o ≡ Some link.environment
  by_environment None e = absurd cc
  by_environment (Some env) e = let same : env ≡ link.environment = cc in ap Some same
