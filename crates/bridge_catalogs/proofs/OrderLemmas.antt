-- Each module stands once in the order of modules, and each place once among those of a kind.
use Rattle.std.proofs.Common.{◌≡◌, ℕ, zero, suc, ◌+◌, ◌<◌, ◌≤◌, Bool, true, false, List, [], ◌∷◌, length, Option, Some, None, inl, inr, refl, sym, ap, ◌∙◌, arith}
use Rattle.std.specs.Prelude.{Contains, slice_get, ◌==◌}
use Rattle.std.proofs.lemmas.Bool.{eqb-true}
use Rattle.std.proofs.lemmas.List.Elements.{Contains-append_cases}
use Rattle.bridge_ast.specs.declared.place.ItemPlace.{ItemPlace}
use Rattle.bridge_decl.specs.declared.modules.Item.{Item}
use Rattle.bridge_decl.specs.declared.modules.Module.{Module}
use Rattle.bridge_order.specs.Order.{at_depth, deepest, module_order, of_found, shallower, where_there}
use Rattle.bridge_places.specs.Kinds.{item_kind, same_kind}
use Rattle.bridge_places.specs.Places.{module_places, places_in, places_of}
use Rattle.bridge_places.specs.declared.kinds.Kind.{Kind}
use Rattle.bridge_catalogs.proofs.OnceLemmas.{Once, once_both, once_joined}

-- ---- modules

-- the module of a number n + i of a list whose first has the number n
record IsAtDepth (depth n : ℕ) (modules : List Module) (z : ℕ) : Type 0 where
  i : ℕ
  m : Module
  number : z ≡ n + i
  here : slice_get modules i ≡ Some m
  deep : length m.path ≡ depth

next_depth : (depth n : ℕ) (m : Module) (modules : List Module) (z : ℕ) → IsAtDepth depth (n + 1) modules z → IsAtDepth depth n (m ∷ modules) z
next_depth depth n m modules z a = record { i = suc a.i; m = a.m; number = omega (arith, a.number); here = a.here; deep = a.deep }

there_one : {A : Type 0} (b : Bool) (x z : A) → Contains (where_there b x) z → (b ≡ true) × (x ≡ z)
there_one true x z (zero, lt, e) = (refl, e)
there_one true x z (suc n, lt, e) = absurd (omega (arith, lt))
there_one false x z c = absurd (omega (arith, c.1))

is_at_depth : (depth n : ℕ) (modules : List Module) (z : ℕ) → Contains (at_depth depth n modules) z → IsAtDepth depth n modules z
is_at_depth depth n [] z c = absurd (omega (arith, c.1))
is_at_depth depth n (m ∷ modules) z c =
    elim (Contains-append_cases (where_there (length m.path == depth) n) (at_depth depth (n + 1) modules) z c) [
      | inl l ↦
          let one = there_one (length m.path == depth) n z l in
          record { i = 0; m = m; number = omega (arith, one.1); here = refl; deep = eqb-true (length m.path) depth one.0 }
      | inr r ↦ next_depth depth n m modules z (is_at_depth depth (n + 1) modules z r)
    ]

one_once : {A : Type 0} (b : Bool) (x : A) → Once (where_there b x)
one_once true x = ((λ c. omega (arith, c.1)), tt)
one_once false x = tt

depth_once : (depth n : ℕ) (modules : List Module) → Once (at_depth depth n modules)
depth_once depth n [] = tt
depth_once depth n (m ∷ modules) =
    once_both (where_there (length m.path == depth) n) (at_depth depth (n + 1) modules) (one_once (length m.path == depth) n)
    (depth_once depth (n + 1) modules)
    (λ z l r.
    let one = there_one (length m.path == depth) n z l in
    let a = is_at_depth depth (n + 1) modules z r in
    omega (arith, one.1, a.number))

-- what is shallower is at some lower depth
lower : (depth : ℕ) (modules : List Module) (z : ℕ) → Contains (shallower depth modules) z → (d : ℕ) × (d < depth) × IsAtDepth d 0 modules z
lower zero modules z c = absurd (omega (arith, c.1))
lower (suc depth) modules z c = elim (Contains-append_cases (shallower depth modules) (at_depth depth 0 modules) z c) [
  | inl l ↦ let a = lower depth modules z l in (a.0, omega (arith, a.1), a.2)
  | inr r ↦ (depth, omega (arith), is_at_depth depth 0 modules z r)
]

one_depth : (d e : ℕ) (modules : List Module) (z : ℕ) → IsAtDepth d 0 modules z → IsAtDepth e 0 modules z → d ≡ e
one_depth d e modules z a b =
    let same : a.i ≡ b.i = omega (arith, a.number, b.number) in
    let both : Some a.m ≡ Some b.m = sym a.here ∙ ap (slice_get modules) same ∙ b.here in
    let is : a.m ≡ b.m = cc in
    sym a.deep ∙ ap (λ m. length m.path) is ∙ b.deep

shallower_once : (depth : ℕ) (modules : List Module) → Once (shallower depth modules)
shallower_once zero modules = tt
shallower_once (suc depth) modules =
    once_both (shallower depth modules) (at_depth depth 0 modules) (shallower_once depth modules) (depth_once depth 0 modules)
    (λ z l r.
    let a = lower depth modules z l in
    let same : a.0 ≡ depth = one_depth a.0 depth modules z a.2 (is_at_depth depth 0 modules z r) in
    omega (arith, same, a.1))

order_once : (modules : List Module) → Once (module_order modules)
order_once modules = shallower_once (suc (deepest modules)) modules

-- ---- places

abbrev at : ℕ → ℕ → ItemPlace
at number i = record { «module» = number; item = i }

is_place_in : (k : Kind) (number i : ℕ) (items : List Item) (z : ItemPlace) → Contains (places_in k number i items) z
    → (z.«module» ≡ number) × (i ≤ z.item)
is_place_in k number i [] z c = absurd (omega (arith, c.1))
is_place_in k number i (it ∷ items) z c =
    elim (Contains-append_cases (where_there (same_kind (item_kind it) k) (at number i)) (places_in k number (i + 1) items) z c) [
      | inl l ↦
          let one = there_one (same_kind (item_kind it) k) (at number i) z l in
          (ap (λ p. p.«module») (sym one.1), omega (arith, ap (λ p. p.item) one.1))
      | inr r ↦ let a = is_place_in k number (i + 1) items z r in (a.0, omega (arith, a.1))
    ]

items_once : (k : Kind) (number i : ℕ) (items : List Item) → Once (places_in k number i items)
items_once k number i [] = tt
items_once k number i (it ∷ items) =
    once_both (where_there (same_kind (item_kind it) k) (at number i)) (places_in k number (i + 1) items)
    (one_once (same_kind (item_kind it) k) (at number i)) (items_once k number (i + 1) items)
    (λ z l r.
    let one = there_one (same_kind (item_kind it) k) (at number i) z l in
    let a = is_place_in k number (i + 1) items z r in
    omega (arith, ap (λ p. p.item) one.1, a.1))

found_once : (k : Kind) (number : ℕ) (found : Option Module) → Once (of_found (λ m. places_in k number 0 m.items) found)
found_once k number None = tt
found_once k number (Some m) = items_once k number 0 m.items

found_in : (k : Kind) (number : ℕ) (found : Option Module) (z : ItemPlace) → Contains (of_found (λ m. places_in k number 0 m.items) found) z
    → z.«module» ≡ number
found_in k number None z c = absurd (omega (arith, c.1))
found_in k number (Some m) z c = (is_place_in k number 0 m.items z c).0

pub places_once : (modules : List Module) (k : Kind) → Once (places_of modules k)
places_once modules k =
    once_joined (module_places modules k) (λ p. p.«module») (λ n z c. found_in k n (slice_get modules n) z c)
    (λ n. found_once k n (slice_get modules n)) (module_order modules) (order_once modules)
