-- Trails along paths that take aliases to their ends.
use Rattle.std.proofs.Common.{◌≡◌, ℕ, zero, suc, ◌+◌, ◌<◌, ◌≤◌, ◌^◌, Bool, true, false, cond, List, [], ◌∷◌, ◌++◌, length}
use Rattle.std.proofs.Common.{length-append, drop, drop-cons, get_or, Option, Some, None, refl, sym, ap, ◌∙◌, arith, subst, codes}
use Rattle.std.proofs.Common.{inl, inr, ◌⊎◌}
use Rattle.std.specs.Prelude.{option_and_then}
use Rattle.std.specs.BTreeMap.{BTreeMap, get}
use Rattle.std.specs.Str.{bytes_eq}
use Rattle.std.proofs.lemmas.Bool.{cases_lt}
use Rattle.std.proofs.lemmas.List.{drop_all}
use Rattle.bridge_decl.specs.declared.modules.Alias.{Alias}
use Rattle.bridge_decl.specs.declared.modules.Item.{Item}
use Rattle.bridge_decl.specs.declared.modules.Module.{Module}
use Rattle.bridge_ast.specs.declared.fault.EnvPart.{EnvPart}
use Rattle.bridge_ast.specs.declared.fault.EnvPart.TheVariants as part
use Rattle.bridge_ast.specs.declared.trail.Advance.{Advance}
use Rattle.bridge_ast.specs.declared.trail.Advance.TheVariants.{Comes, Waits, Stops}
use Rattle.bridge_ast.specs.declared.trail.Head.{Head}
use Rattle.bridge_ast.specs.declared.trail.Head.TheVariants.{Start, Supers, Names}
use Rattle.bridge_ast.specs.declared.place.ItemPlace.{ItemPlace}
use Rattle.bridge_ast.specs.declared.trail.Next.{Next}
use Rattle.bridge_ast.specs.declared.trail.Next.TheVariants as next
use Rattle.bridge_ast.specs.declared.trail.Stand.TheVariants as stand
use Rattle.bridge_ast.specs.declared.trail.Trail.{Trail}
use Rattle.bridge_text.specs.NameIndex.{meaning_of}
use Rattle.bridge_ast.specs.inside.AliasEnds.{IsAlias, AreEnds, KnowsEnds, AliasAdvances, TrailAdvances, alias_leads, waits_at}
use Rattle.bridge_ast.specs.inside.Pairs.{pair_cmp}
use Rattle.bridge_ast.specs.Each.{each_after}
use Rattle.bridge_ast.specs.EnvFaults.{Named, module_at, named_at, parent_and_last}
use Rattle.bridge_decl.specs.Names.{item_name}
use Rattle.bridge_ast.specs.inside.Resolution.{path_at, target_at, by_name, to_part, to_submodule, to_module, to_parent, next_of, leads}
use Rattle.bridge_ast.specs.inside.Resolution.{again_within, item_last}
use Rattle.bridge_ast.specs.inside.Trails.{after_taking, leads_within, at_end, stands_at, carried_on, carried_to_end, IsInside, IsModule}
use Rattle.bridge_ast.proofs.StepLemmas.{taking_too_many, taking_same, taking_none, taking_both}
use Rattle.bridge_ast.proofs.TrailLemmas.{next_inside}

-- ---- one segment

-- where the rest of a path leads after a segment
abbrev pub led : (ℕ → List (List ℕ) → Option ItemPlace) → List Module → ℕ → List (List ℕ) → Next → Option ItemPlace
led again modules number rest (next.Goes to after) = leads again modules to after rest
led again modules number rest (next.Item item) = item_last number item rest
led again modules number rest (next.Alias alias) = again number (target_at modules number alias ++ rest)
led again modules number rest next.Nothing = None

pub leads_by : (again : ℕ → List (List ℕ) → Option ItemPlace) (modules : List Module) (number : ℕ) (head : Head)
    (segment : List ℕ) (rest : List (List ℕ)) (step : Next)
    → next_of modules number head segment ≡ step → leads again modules number head
    (segment ∷ rest) ≡ led again modules number rest step
leads_by again modules number head segment rest (next.Goes to after) e = rw (e, leads) refl
leads_by again modules number head segment rest (next.Item item) e = rw (e, leads) refl
leads_by again modules number head segment rest (next.Alias alias) e = rw (e, leads) refl
leads_by again modules number head segment rest next.Nothing e = rw (e, leads) refl

item_end : (number item : ℕ) (rest : List (List ℕ)) → item_last number item rest ≡ at_end
    (record { «module» = number; item = item }) rest
item_end number item [] = refl
item_end number item (segment ∷ rest) = refl

module _ (modules : List Module) (ends : BTreeMap (ℕ × ℕ) Trail) (number : ℕ) (head : Head) (taken : ℕ) (segment : List ℕ) where
  abbrev here : Trail
  here = record { stand = stand.Module number head; steps = taken }

  stepped : (step : Next) (total : ℕ) (rest : List (List ℕ)) → next_of modules number head segment ≡ step
      → carried_on total modules here (segment ∷ rest) ≡ option_and_then (λ left. led
      (again_within left modules) modules number rest step) (after_taking taken total)
  stepped step total rest e =
      taking_same taken total (suc total) (λ left. leads (again_within left modules) modules number head (segment ∷ rest))
      (λ left. led (again_within left modules) modules number rest step) (omega arith)
      (λ left _. leads_by (again_within left modules) modules number head segment rest step e)

  pub advance_goes : (to : ℕ) (after : Head) → IsModule modules number → next.Goes to after ≡ next_of modules number head segment
      → TrailAdvances modules ends here segment (Comes (record { stand = stand.Module to after; steps = taken }))
  advance_goes to after is_module e = (
    next_inside modules number head segment is_module to after (sym e),
    omega arith,
    λ total rest few. stepped (next.Goes to after) total rest (sym e),
  )

  pub advance_item : (item : ℕ) → next.Item item ≡ next_of modules number head segment
      → TrailAdvances modules ends here segment (Comes (record {
        stand = stand.Item (record { «module» = number; item = item });
        steps = taken;
      }))
  advance_item item e = (
    tt,
    omega arith,
    λ total rest few.
        stepped (next.Item item) total rest (sym e)
        ∙ taking_same taken total (suc total) (λ left. item_last number item rest)
        (λ left. at_end (record { «module» = number; item = item }) rest) (omega arith) (λ left _. item_end number item rest),
  )

  pub advance_nothing : next.Nothing ≡ next_of modules number head segment → TrailAdvances modules ends here segment Stops
  advance_nothing e =
      λ total rest few. stepped next.Nothing total rest (sym e) ∙ taking_none taken total (suc total) (λ left. None) (omega arith)
      (λ left _. refl)

  advance_by : (alias : ℕ) (r : Advance) → IsAlias modules (number, alias) → ((total : ℕ) (rest : List (List ℕ))
      → carried_on total modules here (segment ∷ rest) ≡ waits_at total modules taken (number, alias) rest)
      → AliasAdvances modules ends taken (number, alias) r → TrailAdvances modules ends here segment r
  advance_by alias (Comes after) is_alias waits told =
      (told.0, told.1, λ total rest few. waits total rest ∙ told.2 total rest few)
  advance_by alias (Waits which) is_alias waits told =
      subst (λ (other : ℕ × ℕ). IsAlias modules other × (get pair_cmp ends other ≡ None)
      × ((total : ℕ) (rest : List (List ℕ)) → carried_on total modules here
      (segment ∷ rest) ≡ waits_at total modules taken other rest)) (sym told.0)
      (is_alias, told.1, waits)
  advance_by alias Stops is_alias waits told = λ total rest few. waits total rest ∙ told total rest few

-- ---- aliases that names lead to

first_alias : (b : Bool) (n i : ℕ) (others : Option EnvPart) → cond b (Some (part.Alias n)) others ≡ Some (part.Alias i)
    → (n ≡ i) ⊎ (others ≡ Some (part.Alias i))
first_alias true n i others h = inl cc
first_alias false n i others h = inr h

first_item : (b : Bool) (n i : ℕ) (others : Option EnvPart) → cond b (Some (part.Item n)) others ≡ Some (part.Alias i)
    → others ≡ Some (part.Alias i)
first_item true n i others h = absurd cc
first_item false n i others h = h

aliases_below : (before aliases : List Alias) (name : List ℕ) (i : ℕ) → meaning_of
    (each_after (λ earlier alias. (alias.name, part.Alias (length earlier)) ∷ []) before aliases) name ≡ Some (part.Alias i)
    → i < length before + length aliases
aliases_below before [] name i h = absurd cc
aliases_below before (alias ∷ aliases) name i h =
    elim (first_alias (bytes_eq alias.name name) (length before) i (meaning_of
    (each_after (λ earlier x. (x.name, part.Alias (length earlier)) ∷ []) (before ++ alias ∷ []) aliases) name) h) [
      | inl same ↦ omega (arith, same)
      | inr later ↦ omega (arith, length-append before (alias ∷ []), aliases_below (before ++ alias ∷ []) aliases name i later)
    ]

items_skipped : (before items : List Item) (names : List Named) (name : List ℕ) (i : ℕ)
    → meaning_of (each_after (λ earlier item. (item_name item, part.Item (length earlier)) ∷ []) before items ++ names) name
    ≡ Some (part.Alias i) → meaning_of names name ≡ Some (part.Alias i)
items_skipped before [] names name i h = h
items_skipped before (item ∷ items) names name i h =
    items_skipped (before ++ item ∷ []) items names name i
    (first_item (bytes_eq (item_name item) name) (length before) i (meaning_of
    (each_after (λ earlier x. (item_name x, part.Item (length earlier)) ∷ []) (before ++ item ∷ []) items ++ names) name) h)

alias_named : (modules : List Module) (number : ℕ) (name : List ℕ) (i : ℕ) → meaning_of (named_at modules number) name ≡ Some
    (part.Alias i) → IsAlias modules (number, i)
alias_named [] number name i h = absurd cc
alias_named (m ∷ modules) zero name i h =
    let below : i < length {A = Alias} [] + length m.aliases = aliases_below [] m.aliases name i
    (items_skipped [] m.items (each_after (λ earlier alias. (alias.name, part.Alias (length earlier)) ∷ []) [] m.aliases) name
    i h) in
    let there : i < length m.aliases = omega (arith, below) in
    there
alias_named (m ∷ modules) (suc number) name i h = alias_named modules number name i h

abbrev LeadsToAlias : List Module → ℕ → Next → Type 0
LeadsToAlias modules number step = (alias : ℕ) → step ≡ next.Alias alias → IsAlias modules (number, alias)

part_leads : (modules : List Module) (number : ℕ) (named : Option EnvPart) → ((i : ℕ) → named ≡ Some (part.Alias i)
    → IsAlias modules (number, i)) → LeadsToAlias modules number (to_part named)
part_leads modules number (Some (part.Item i)) is alias e = absurd cc
part_leads modules number (Some (part.Alias i)) is alias e =
    let same : i ≡ alias = cc in subst (λ n. IsAlias modules (number, n)) same (is i refl)
part_leads modules number (Some part.Module) is alias e = absurd cc
part_leads modules number (Some (part.Node i method n)) is alias e = absurd cc
part_leads modules number None is alias e = absurd cc

submodule_leads : (modules : List Module) (number : ℕ) (found : Option ℕ) (named : Option EnvPart)
    → ((i : ℕ) → named ≡ Some (part.Alias i) → IsAlias modules (number, i))
    → LeadsToAlias modules number (to_submodule found named)
submodule_leads modules number (Some n) named is alias e = absurd cc
submodule_leads modules number None named is alias e = part_leads modules number named is alias e

name_leads : (modules : List Module) (number : ℕ) (name : List ℕ) → LeadsToAlias modules number (by_name modules number name)
name_leads modules number name =
    submodule_leads modules number (module_at modules (path_at modules number ++ name ∷ []))
    (meaning_of (named_at modules number) name) (λ i h. alias_named modules number name i h)

module_leads : (modules : List Module) (number : ℕ) (found : Option ℕ) → LeadsToAlias modules number (to_module found)
module_leads modules number (Some n) alias e = absurd cc
module_leads modules number None alias e = absurd cc

parent_leads : (modules : List Module) (number : ℕ) (split : Option (List (List ℕ) × List ℕ))
    → LeadsToAlias modules number (to_parent modules split)
parent_leads modules number None alias e = absurd cc
parent_leads modules number (Some (parent, last)) alias e = module_leads modules number (module_at modules parent) alias e

either : (P : Next → Type 0) (b : Bool) (x y : Next) → P x → P y → P (cond b x y)
either P true x y p q = p
either P false x y p q = q

goes_leads : (modules : List Module) (number to : ℕ) (after : Head) → LeadsToAlias modules number (next.Goes to after)
goes_leads modules number to after alias e = absurd cc

next_leads : (modules : List Module) (number : ℕ) (head : Head) (segment : List ℕ)
    → LeadsToAlias modules number (next_of modules number head segment)
next_leads modules number Start segment =
    either (LeadsToAlias modules number) (bytes_eq segment (codes "crate")) _ _ (goes_leads modules number 0 Supers)
    (either (LeadsToAlias modules number) (bytes_eq segment (codes "self")) _ _ (goes_leads modules number number Supers)
    (either (LeadsToAlias modules number) (bytes_eq segment (codes "super")) _ _
    (parent_leads modules number (parent_and_last (path_at modules number))) (name_leads modules number segment)))
next_leads modules number Supers segment =
    either (LeadsToAlias modules number) (bytes_eq segment (codes "super")) _ _
    (parent_leads modules number (parent_and_last (path_at modules number))) (name_leads modules number segment)
next_leads modules number Names segment = name_leads modules number segment

pub alias_is : (modules : List Module) (number : ℕ) (head : Head) (segment : List ℕ) (alias : ℕ)
    → next.Alias alias ≡ next_of modules number head segment → IsAlias modules (number, alias)
alias_is modules number head segment alias e = next_leads modules number head segment alias (sym e)

pub advance_alias : (modules : List Module) (ends : BTreeMap (ℕ × ℕ) Trail) (number : ℕ) (head : Head) (taken : ℕ)
    (segment : List ℕ) (alias : ℕ) (r : Advance)
    → next.Alias alias ≡ next_of modules number head segment → (IsAlias modules (number, alias)
    → AliasAdvances modules ends taken (number, alias) r) → TrailAdvances modules ends
    (record { stand = stand.Module number head; steps = taken }) segment r
advance_alias modules ends number head taken segment alias r e told =
    let is_alias = alias_is modules number head segment alias e in
    advance_by modules ends number head taken segment alias r is_alias (λ total rest. stepped modules ends number head taken
    segment (next.Alias alias) total rest (sym e)) (told is_alias)

pub advance_past : (modules : List Module) (ends : BTreeMap (ℕ × ℕ) Trail) (trail : Trail) (place : ItemPlace) (segment : List ℕ)
    → trail.stand ≡ stand.Item place → TrailAdvances modules ends trail segment Stops
advance_past modules ends trail place segment is = λ total rest few.
    taking_none trail.steps total (suc total) (λ left. stands_at left modules trail.stand (segment ∷ rest)) (omega arith)
    (λ left _. ap (λ s. stands_at left modules s (segment ∷ rest)) is)

pub advance_module : (modules : List Module) (ends : BTreeMap (ℕ × ℕ) Trail) (trail : Trail) (number : ℕ) (head : Head)
    (segment : List ℕ) (r : Advance) → trail.stand ≡ stand.Module number head
    → (IsModule modules number → TrailAdvances modules ends (record { stand = stand.Module number head; steps = trail.steps }) segment
    r) → IsInside modules trail.stand → TrailAdvances modules ends trail segment r
advance_module modules ends trail number head segment r is told inside =
    subst (λ s. TrailAdvances modules ends (record { stand = s; steps = trail.steps }) segment r) (sym is)
    (told (subst (IsInside modules) is inside))

-- ---- an alias with its end

pub alias_waits : (modules : List Module) (ends : BTreeMap (ℕ × ℕ) Trail) (taken : ℕ) (alias : ℕ × ℕ)
    → get pair_cmp ends alias ≡ None → AliasAdvances modules ends taken alias (Waits alias)
alias_waits modules ends taken alias unknown = (refl, unknown)

module _ (modules : List Module) (ends : BTreeMap (ℕ × ℕ) Trail) (taken : ℕ) (alias : ℕ × ℕ) (end : Trail)
    (are : AreEnds ends modules) (found : get pair_cmp ends alias ≡ Some end) where
  led_on : (total : ℕ) (rest : List (List ℕ)) → total < 2 ^ 128 → waits_at total modules taken alias rest ≡ option_and_then
      (λ left. stands_at left modules end.stand rest) (after_taking (taken + end.steps) total)
  led_on total rest few =
      taking_same taken total (2 ^ 128) (λ left. alias_leads left modules alias rest)
      (λ left. carried_on left modules end rest) few (λ left less. are.leads alias end found left rest less)
      ∙ taking_both taken end.steps total (λ left. stands_at left modules end.stand rest)

  pub alias_comes : (steps : ℕ) → steps ≡ taken + end.steps → AliasAdvances modules ends taken alias
      (Comes (record { stand = end.stand; steps = steps }))
  alias_comes steps is =
      subst (λ n. AliasAdvances modules ends taken alias (Comes (record { stand = end.stand; steps = n }))) (sym is)
      (are.inside alias end found, omega arith, λ total rest few. led_on total rest few)

  pub alias_stops : (taken + end.steps < 2 ^ 128 → ⊥) → AliasAdvances modules ends taken alias Stops
  alias_stops over = λ total rest few.
      let past : total < taken + end.steps =
      (elim (cases_lt (taken + end.steps) (2 ^ 128)) as (λ _. total < taken + end.steps) [
        | inl lt ↦ absurd
            (over lt)
        | inr ge ↦ omega (arith, ge, few)
      ])
      in
      led_on total rest few ∙ ap (λ o. option_and_then (λ left. stands_at left modules end.stand rest) o)
      (taking_too_many (taken + end.steps) total past)

-- ---- a whole trail

-- a trail along a path has come to a position
abbrev pub HasCome : List Module → ℕ → List (List ℕ) → ℕ → Trail → Type 0
HasCome modules number segments i trail =
    IsInside modules trail.stand × ((steps : ℕ) → steps < 2 ^ 128 → leads_within steps modules number Start segments
    ≡ carried_on steps modules trail (drop i segments))

pub ahead : (segments : List (List ℕ)) (i : ℕ) (segment : List ℕ) → i < length segments → segment ≡ get_or segments i segment
    → drop i segments ≡ segment ∷ drop (i + 1) segments
ahead segments i segment within is =
    drop-cons segments i segment within ∙ ap (λ s. s ∷ drop (suc i) segments) (sym is)
    ∙ ap (λ n. segment ∷ drop n segments) (let more : suc i ≡ i + 1 = omega arith in more)

module _ (modules : List Module) (ends : BTreeMap (ℕ × ℕ) Trail) (number : ℕ) (segments : List (List ℕ)) (i : ℕ) (segment : List ℕ)
    (trail : Trail) (within : i < length segments) (is : segment ≡ get_or segments i segment)
    (come : HasCome modules number segments i trail) where
  so_far : (steps : ℕ) → steps < 2 ^ 128 → leads_within steps modules number Start segments ≡ carried_on steps modules trail
      (segment ∷ drop (i + 1) segments)
  so_far steps few = come.1 steps few ∙ ap (carried_on steps modules trail) (ahead segments i segment within is)

  pub come_further : (after : Trail) → TrailAdvances modules ends trail segment (Comes after)
      → HasCome modules number segments (i + 1) after
  come_further after told = (told.0, λ steps few. so_far steps few ∙ told.2 steps (drop (i + 1) segments) few)

  pub come_to_alias : (alias : ℕ × ℕ) → KnowsEnds ends modules → TrailAdvances modules ends trail segment (Waits alias) → (steps : ℕ)
      → steps < 2 ^ 128 → leads_within steps modules number Start segments ≡ None
  come_to_alias alias known told steps few =
      so_far steps few ∙ told.2 steps (drop (i + 1) segments)
      ∙ taking_none trail.steps steps (2 ^ 128) (λ left. alias_leads left modules alias (drop (i + 1) segments)) few
      (λ left less. known.nowhere alias told.0 told.1 left (drop (i + 1) segments) less)

  pub come_to_stop : TrailAdvances modules ends trail segment Stops → (steps : ℕ) → steps < 2 ^ 128
      → leads_within steps modules number Start segments ≡ None
  come_to_stop told steps few = so_far steps few ∙ told steps (drop (i + 1) segments) few

pub come_to_end : (modules : List Module) (number : ℕ) (segments : List (List ℕ)) (i : ℕ) (trail : Trail) → length segments ≤ i
    → HasCome modules number segments i trail → (steps : ℕ) → steps < 2 ^ 128
    → leads_within steps modules number Start segments ≡ carried_to_end steps modules (Some trail)
come_to_end modules number segments i trail past come steps few =
    come.1 steps few ∙ ap (carried_on steps modules trail) (drop_all i segments past)
