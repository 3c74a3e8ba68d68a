-- Where a definition is used with lifetimes.
use Rattle.std.specs.Prelude.{◌≡◌, ℕ, List, length, Option, option_map, IsSomeAnd}
use Rattle.hir_life.specs.declared.maybe_static.MaybeStatic.{MaybeStatic}
use Rattle.hir_ids.specs.declared.ids.TypeId.{TypeId}
use Rattle.hir_links.specs.Links.{Link}
use Rattle.hir_context.specs.Lookups.{environment_at}
use Rattle.hir_context.specs.declared.parts.Definitions.{Definitions}

-- the type of the id is there, and has as many lifetimes as it is given
abbrev pub IsLinkable : Definitions → TypeId → List (MaybeStatic ℕ) → Type 0
IsLinkable defs id given = IsSomeAnd (environment_at defs id) (λ env. length given ≡ env.count)

-- its lifetimes beside those that it is given, and that of the pointer before it, where there is one
abbrev pub link_to : Definitions → TypeId → Option (MaybeStatic ℕ) → List (MaybeStatic ℕ) → Option Link
link_to defs id pointed given = option_map (λ env. record { environment = env; self_lifetime = pointed; uses = given }) (environment_at defs id)
