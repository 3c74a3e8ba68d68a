-- A search for the ends of aliases.
use Rattle.std.specs.Prelude.{◌≡◌, ◌<◌, ◌^◌, ℕ, ◌+◌, ◌*◌, List, [], ◌∷◌, ◌++◌, length, drop, Option, None, ◌⊎◌, ⊤, IsTrue}
use Rattle.std.specs.BTreeMap.{BTreeMap, get}
use Rattle.std.specs.BTreeSet.{BTreeSet, contains}
use Rattle.bridge_decl.specs.declared.modules.Module.{Module}
use Rattle.bridge_ast.specs.declared.place.ItemPlace.{ItemPlace}
use Rattle.bridge_ast.specs.declared.trail.Trail.{Trail}
use Rattle.bridge_ast.specs.declared.alias_ends.Frame.{Frame}
use Rattle.bridge_ast.specs.declared.alias_ends.Progress.{Progress}
use Rattle.bridge_ast.specs.declared.alias_ends.Progress.TheVariants.{Ends, Waits, Stops}
use Rattle.bridge_ast.specs.declared.alias_ends.Search.{Search}
use Rattle.bridge_ast.specs.inside.AliasEnds.{IsAlias, IsEnd, LeadsNowhere, AreEnds, alias_leads}
use Rattle.bridge_ast.specs.inside.Pairs.{pair_cmp}
use Rattle.bridge_ast.specs.inside.Resolution.{target_at}
use Rattle.bridge_ast.specs.inside.Trails.{carried_on, IsInside}

-- the trail goes along the target of the alias, has come to a position in it, and counts the alias itself
pub record IsFrame (modules : List Module) (frame : Frame) : Type 0 where
  pub is_alias : IsAlias modules frame.alias
  pub inside : IsInside modules frame.trail.stand
  pub counts : 0 < frame.trail.steps
  pub leads : (steps : ℕ) (rest : List (List ℕ)) → steps < 2 ^ 128
      → alias_leads steps modules frame.alias rest ≡ carried_on steps modules frame.trail
      (drop frame.position (target_at modules frame.alias.0 frame.alias.1) ++ rest)

-- what is found is what one of some aliases leads to with fewer steps
pub record IsLater (modules : List Module) (Among : ℕ × ℕ → Type 0) (steps : ℕ) (found : Option ItemPlace) : Type 0 where
  pub next : ℕ × ℕ
  pub among : Among next
  pub fewer : ℕ
  pub less : fewer < steps
  pub rest : List (List ℕ)
  pub same : found ≡ alias_leads fewer modules next rest

-- an alias leads nowhere, or where one of some aliases leads with fewer steps
abbrev pub WaitsFor : List Module → (ℕ × ℕ → Type 0) → ℕ × ℕ → Type 0
WaitsFor modules Among alias =
    (steps : ℕ) (rest : List (List ℕ)) → steps < 2 ^ 128 → (alias_leads steps modules alias rest ≡ None)
    ⊎ IsLater modules Among steps (alias_leads steps modules alias rest)

-- an alias is that of one of the trails
abbrev pub IsOn : List Frame → ℕ × ℕ → Type 0
IsOn [] alias = ⊥
IsOn (frame ∷ frames) alias = (frame.alias ≡ alias) ⊎ IsOn frames alias

-- each trail waits for the alias of the next one
abbrev pub IsStack : List Module → List Frame → Type 0
IsStack modules [] = ⊤
IsStack modules (frame ∷ []) = IsFrame modules frame
IsStack modules (frame ∷ next ∷ frames) =
    IsFrame modules frame × WaitsFor modules (λ alias. next.alias ≡ alias) frame.alias × IsStack modules (next ∷ frames)

-- the set has the alias
abbrev pub Has : BTreeSet (ℕ × ℕ) → ℕ × ℕ → Type 0
Has aliases alias = IsTrue (contains pair_cmp aliases alias)

-- the ends that are known are right; an alias without one isn't begun, or is on its way, or leads nowhere
pub record IsSearch (modules : List Module) (ends : BTreeMap (ℕ × ℕ) Trail) (unbegun : BTreeSet (ℕ × ℕ))
    (stack : List Frame) : Type 0 where
  pub known : AreEnds ends modules
  pub aliases : (alias : ℕ × ℕ) → Has unbegun alias → IsAlias modules alias
  pub stacked : IsStack modules stack
  pub others : (alias : ℕ × ℕ) → IsAlias modules alias → get pair_cmp ends alias ≡ None
      → Has unbegun alias ⊎ (IsOn stack alias ⊎ LeadsNowhere modules alias)

-- a trail along the target of an alias waits for an alias that has no known end
pub record IsWaiting (modules : List Module) (ends : BTreeMap (ℕ × ℕ) Trail) (alias next : ℕ × ℕ) : Type 0 where
  pub waits : WaitsFor modules (λ other. next ≡ other) alias
  pub is_alias : IsAlias modules next
  pub unknown : get pair_cmp ends next ≡ None

-- what is told of a trail along the target of an alias
abbrev pub Progresses : List Module → BTreeMap (ℕ × ℕ) Trail → ℕ × ℕ → Progress → Type 0
Progresses modules ends alias (Ends trail) = IsEnd modules alias trail × IsInside modules trail.stand
Progresses modules ends alias (Waits frame next) =
    IsFrame modules frame × (frame.alias ≡ alias) × IsWaiting modules ends alias next
Progresses modules ends alias Stops = LeadsNowhere modules alias

-- what is left to do: an alias that isn't begun counts for two, since it becomes a trail on its way
abbrev pub size_of : Search → ℕ
size_of search = 2 * length search.unbegun.keys + search.stack.len
