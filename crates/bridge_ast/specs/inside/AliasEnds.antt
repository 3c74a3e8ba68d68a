-- Where aliases lead. An alias is given by the number of its module and its own number there.
use Rattle.std.specs.Prelude.{◌≡◌, ℕ, ◌<◌, ◌≤◌, ◌^◌, List, [], ◌∷◌, ◌++◌, length, map, slice_index_or, Option, Some, None}
use Rattle.std.specs.Prelude.{option_and_then}
use Rattle.std.specs.BTreeMap.{BTreeMap, get}
use Rattle.bridge_decl.specs.declared.modules.Module.{Module}
use Rattle.bridge_ast.specs.declared.place.ItemPlace.{ItemPlace}
use Rattle.bridge_ast.specs.declared.trail.Trail.{Trail}
use Rattle.bridge_ast.specs.declared.trail.Advance.{Advance}
use Rattle.bridge_ast.specs.declared.trail.Advance.TheVariants.{Comes, Waits, Stops}
use Rattle.bridge_ast.specs.inside.Pairs.{pair_cmp}
use Rattle.bridge_ast.specs.inside.Resolution.{again_within, target_at}
use Rattle.bridge_ast.specs.inside.Trails.{after_taking, carried_on, IsInside}

-- the alias is one of the modules'
abbrev pub IsAlias : List Module → ℕ × ℕ → Type 0
IsAlias modules alias = alias.1 < length (slice_index_or (map (λ m. m.aliases) modules) alias.0 [])

-- where an alias leads with the rest of a path, if so many alias steps may be taken, its own included
abbrev pub alias_leads : ℕ → List Module → ℕ × ℕ → List (List ℕ) → Option ItemPlace
alias_leads steps modules alias rest = again_within steps modules alias.0 (target_at modules alias.0 alias.1 ++ rest)

-- the alias leads to where the trail has come, whatever the rest, and for each number of steps that a trail counts
abbrev pub IsEnd : List Module → ℕ × ℕ → Trail → Type 0
IsEnd modules alias end =
    (steps : ℕ) (rest : List (List ℕ)) → steps < 2 ^ 128 → alias_leads steps modules alias rest
    ≡ carried_on steps modules end rest

-- the alias leads nowhere
abbrev pub LeadsNowhere : List Module → ℕ × ℕ → Type 0
LeadsNowhere modules alias = (steps : ℕ) (rest : List (List ℕ)) → steps < 2 ^ 128 → alias_leads steps modules alias rest ≡ None

-- the ends that are there are those of their aliases
pub record AreEnds (ends : BTreeMap (ℕ × ℕ) Trail) (modules : List Module) : Type 0 where
  pub leads : (alias : ℕ × ℕ) (end : Trail) → get pair_cmp ends alias ≡ Some end → IsEnd modules alias end
  pub inside : (alias : ℕ × ℕ) (end : Trail) → get pair_cmp ends alias ≡ Some end → IsInside modules end.stand

-- the ends are those of all aliases that lead somewhere
pub record KnowsEnds (ends : BTreeMap (ℕ × ℕ) Trail) (modules : List Module) : Type 0 where
  pub are : AreEnds ends modules
  pub nowhere : (alias : ℕ × ℕ) → IsAlias modules alias → get pair_cmp ends alias ≡ None → LeadsNowhere modules alias

-- where a trail that has followed some aliases leads at one more alias
abbrev pub waits_at : ℕ → List Module → ℕ → ℕ × ℕ → List (List ℕ) → Option ItemPlace
waits_at steps modules taken alias rest = option_and_then (λ left. alias_leads left modules alias rest) (after_taking taken steps)

-- what is told of a trail that comes to an alias
abbrev pub AliasAdvances : List Module → BTreeMap (ℕ × ℕ) Trail → ℕ → ℕ × ℕ → Advance → Type 0
AliasAdvances modules ends taken alias (Comes after) =
    IsInside modules after.stand × (taken ≤ after.steps) × ((steps : ℕ) (rest : List (List ℕ)) → steps < 2 ^ 128
    → waits_at steps modules taken alias rest ≡ carried_on steps modules after rest)
AliasAdvances modules ends taken alias (Waits which) = (which ≡ alias) × (get pair_cmp ends alias ≡ None)
AliasAdvances modules ends taken alias Stops =
    (steps : ℕ) (rest : List (List ℕ)) → steps < 2 ^ 128 → waits_at steps modules taken alias rest ≡ None

-- what is told of a trail with one more segment
abbrev pub TrailAdvances : List Module → BTreeMap (ℕ × ℕ) Trail → Trail → List ℕ → Advance → Type 0
TrailAdvances modules ends trail segment (Comes after) =
    IsInside modules after.stand × (trail.steps ≤ after.steps) × ((steps : ℕ) (rest : List (List ℕ)) → steps < 2 ^ 128
    → carried_on steps modules trail (segment ∷ rest) ≡ carried_on steps modules after rest)
TrailAdvances modules ends trail segment (Waits alias) =
    IsAlias modules alias × (get pair_cmp ends alias ≡ None) × ((steps : ℕ) (rest : List (List ℕ))
    → carried_on steps modules trail (segment ∷ rest) ≡ waits_at steps modules trail.steps alias rest)
TrailAdvances modules ends trail segment Stops =
    (steps : ℕ) (rest : List (List ℕ)) → steps < 2 ^ 128 → carried_on steps modules trail (segment ∷ rest) ≡ None
