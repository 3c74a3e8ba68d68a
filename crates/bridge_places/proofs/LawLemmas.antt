-- What stands at a place in the list of a kind is of that kind, and an id names one item.
use Rattle.std.proofs.Common.{◌≡◌, ℕ, zero, suc, ◌+◌, ◌<◌, Bool, true, false, List, [], ◌∷◌, length, get_or, Option, Some, None, inl, inr, refl, sym, ap, subst, ◌∙◌, arith}
use Rattle.std.specs.Prelude.{Contains, slice_get}
use Rattle.std.specs.List.{flat_map}
use Rattle.std.specs.Option.{option_and_then}
use Rattle.std.proofs.lemmas.Bool.{false≢true}
use Rattle.std.proofs.lemmas.List.Elements.{Contains-append_cases}
use Rattle.bridge_decl.specs.declared.modules.Module.{Module}
use Rattle.bridge_decl.specs.declared.modules.Item.{Item}
use Rattle.bridge_ast.specs.declared.place.ItemPlace.{ItemPlace}
use Rattle.bridge_ast.specs.Types.{item_of}
use Rattle.bridge_order.specs.declared.catalog.Catalog.{Catalog}
use Rattle.bridge_places.specs.declared.kinds.Kind.{Kind}
use Rattle.bridge_places.specs.declared.kinds.Kind.TheVariants as kind
use Rattle.bridge_places.specs.Kinds.{item_kind, same_kind}
use Rattle.bridge_order.specs.Order.{module_order, of_found, where_there}
use Rattle.bridge_places.specs.Places.{module_places, places_in, places_of}
use Rattle.bridge_order.specs.Catalog.{entry_at, id_of}
use Rattle.bridge_places.specs.Entries.{Describes, IsCatalog}

-- ---- an id names one item

one_place : (modules : List Module) (k l : Kind) (n m : ℕ) (place other : ItemPlace) → slice_get (places_of modules k) n ≡ Some place
    → slice_get (places_of modules l) m ≡ Some other → k ≡ l → n ≡ m → place ≡ other
one_place modules k l n m place other here there kinds ids =
    let same : slice_get (places_of modules l) m ≡ Some place =
    subst (λ j. slice_get (places_of modules l) j ≡ Some place) ids (subst (λ x. slice_get (places_of modules x) n ≡ Some place) kinds here) in
    let both : Some place ≡ Some other = sym same ∙ there in
    cc

pub one_item : (modules : List Module) (catalog : Catalog) (place other : ItemPlace) (it second : Item) → IsCatalog modules catalog
    → item_of modules place ≡ Some it → item_of modules other ≡ Some second → item_kind it ≡ item_kind second
    → id_of (entry_at catalog place) ≡ id_of (entry_at catalog other) → place ≡ other
one_item modules catalog place other it second is here there kinds ids =
    let first : Describes modules it place (entry_at catalog place) = is.entries place it here in
    let last : Describes modules second other (entry_at catalog other) = is.entries other second there in
    one_place modules (item_kind it) (item_kind second) (id_of (entry_at catalog place)) (id_of (entry_at catalog other)) place other
    first.number last.number kinds ids

-- ---- a listed place has its kind

kinds_same : (a b : Kind) → same_kind a b ≡ true → a ≡ b
kinds_same kind.OutStruct kind.OutStruct e = refl
kinds_same kind.OutStruct kind.Struct e = absurd (false≢true e)
kinds_same kind.OutStruct kind.Opaque e = absurd (false≢true e)
kinds_same kind.OutStruct kind.Enum e = absurd (false≢true e)
kinds_same kind.OutStruct kind.Trait e = absurd (false≢true e)
kinds_same kind.OutStruct kind.Function e = absurd (false≢true e)
kinds_same kind.Struct kind.OutStruct e = absurd (false≢true e)
kinds_same kind.Struct kind.Struct e = refl
kinds_same kind.Struct kind.Opaque e = absurd (false≢true e)
kinds_same kind.Struct kind.Enum e = absurd (false≢true e)
kinds_same kind.Struct kind.Trait e = absurd (false≢true e)
kinds_same kind.Struct kind.Function e = absurd (false≢true e)
kinds_same kind.Opaque kind.OutStruct e = absurd (false≢true e)
kinds_same kind.Opaque kind.Struct e = absurd (false≢true e)
kinds_same kind.Opaque kind.Opaque e = refl
kinds_same kind.Opaque kind.Enum e = absurd (false≢true e)
kinds_same kind.Opaque kind.Trait e = absurd (false≢true e)
kinds_same kind.Opaque kind.Function e = absurd (false≢true e)
kinds_same kind.Enum kind.OutStruct e = absurd (false≢true e)
kinds_same kind.Enum kind.Struct e = absurd (false≢true e)
kinds_same kind.Enum kind.Opaque e = absurd (false≢true e)
kinds_same kind.Enum kind.Enum e = refl
kinds_same kind.Enum kind.Trait e = absurd (false≢true e)
kinds_same kind.Enum kind.Function e = absurd (false≢true e)
kinds_same kind.Trait kind.OutStruct e = absurd (false≢true e)
kinds_same kind.Trait kind.Struct e = absurd (false≢true e)
kinds_same kind.Trait kind.Opaque e = absurd (false≢true e)
kinds_same kind.Trait kind.Enum e = absurd (false≢true e)
kinds_same kind.Trait kind.Trait e = refl
kinds_same kind.Trait kind.Function e = absurd (false≢true e)
kinds_same kind.Function kind.OutStruct e = absurd (false≢true e)
kinds_same kind.Function kind.Struct e = absurd (false≢true e)
kinds_same kind.Function kind.Opaque e = absurd (false≢true e)
kinds_same kind.Function kind.Enum e = absurd (false≢true e)
kinds_same kind.Function kind.Trait e = absurd (false≢true e)
kinds_same kind.Function kind.Function e = refl

the_only : {A : Type 0} (x y : A) (i : ℕ) → i < length (x ∷ []) → get_or (x ∷ []) i y ≡ y → y ≡ x
the_only x y zero lt e = sym e
the_only x y (suc i) lt e = absurd (omega (arith, lt))

from_there : {A : Type 0} (b : Bool) (x y : A) → Contains (where_there b x) y → (b ≡ true) × (y ≡ x)
from_there true x y c = (refl, the_only x y c.0 c.1 c.2)
from_there false x y c = absurd (omega (arith, c.1))

-- the item of the kind that stands at the place, where the items are those of the module of a number from the one with the number i on
record Stands (k : Kind) (number i : ℕ) (items : List Item) (place : ItemPlace) : Type 0 where
  j : ℕ
  it : Item
  has : slice_get items j ≡ Some it
  is : place ≡ record { «module» = number; item = i + j }
  of_kind : item_kind it ≡ k

stands_first : (k : Kind) (number i : ℕ) (it : Item) (items : List Item) (place : ItemPlace)
    → (same_kind (item_kind it) k ≡ true) × (place ≡ record { «module» = number; item = i }) → Stands k number i (it ∷ items) place
stands_first k number i it items place h = record {
  j = 0;
  it = it;
  has = refl;
  is = let e : i ≡ i + 0 = omega arith in subst (λ n. place ≡ record { «module» = number; item = n }) e h.1;
  of_kind = kinds_same (item_kind it) k h.0;
}

stands_later : (k : Kind) (number i : ℕ) (first : Item) (items : List Item) (place : ItemPlace)
    → Stands k number (i + 1) items place → Stands k number i (first ∷ items) place
stands_later k number i first items place h = record {
  j = suc h.j;
  it = h.it;
  has = h.has;
  is = let e : i + 1 + h.j ≡ i + suc h.j = omega arith in subst (λ n. place ≡ record { «module» = number; item = n }) e h.is;
  of_kind = h.of_kind;
}

stands_in : (k : Kind) (number i : ℕ) (items : List Item) (place : ItemPlace) → Contains (places_in k number i items) place
    → Stands k number i items place
stands_in k number i [] place c = absurd (omega (arith, c.1))
stands_in k number i (it ∷ items) place c =
    let here : ItemPlace = record { «module» = number; item = i } in
    elim (Contains-append_cases (where_there (same_kind (item_kind it) k) here) (places_in k number (i + 1) items) place c) [
      | inl h ↦ stands_first k number i it items place (from_there (same_kind (item_kind it) k) here place h)
      | inr h ↦ stands_later k number i it items place (stands_in k number (i + 1) items place h)
    ]

abbrev HasItem : List Module → Kind → ItemPlace → Type 0
HasItem modules k place = (it : Item) × (item_of modules place ≡ Some it) × (item_kind it ≡ k)

in_module : (modules : List Module) (k : Kind) (number : ℕ) (place : ItemPlace) (o : Option Module) → slice_get modules number ≡ o
    → Contains (of_found (λ m. places_in k number 0 m.items) o) place → HasItem modules k place
in_module modules k number place None found c = absurd (omega (arith, c.1))
in_module modules k number place (Some m) found c =
    let s : Stands k number 0 m.items place = stands_in k number 0 m.items place c in
    let e : 0 + s.j ≡ s.j = omega arith in
    let is : place ≡ record { «module» = number; item = s.j } = subst (λ n. place ≡ record { «module» = number; item = n }) e s.is in
    let item : item_of modules (record { «module» = number; item = s.j }) ≡ Some s.it = ap (λ o. option_and_then (λ x. slice_get x.items s.j) o) found ∙ s.has in
    (s.it, subst (λ p. item_of modules p ≡ Some s.it) (sym is) item, s.of_kind)

in_modules : (modules : List Module) (k : Kind) (order : List ℕ) (place : ItemPlace)
    → Contains (flat_map (module_places modules k) order) place → HasItem modules k place
in_modules modules k [] place c = absurd (omega (arith, c.1))
in_modules modules k (number ∷ order) place c =
    elim (Contains-append_cases (module_places modules k number) (flat_map (module_places modules k) order) place c) [
      | inl h ↦ in_module modules k number place (slice_get modules number) refl h
      | inr h ↦ in_modules modules k order place h
    ]

pub listed_place : (modules : List Module) (k : Kind) (place : ItemPlace) → Contains (places_of modules k) place → HasItem modules k place
listed_place modules k place c = in_modules modules k (module_order modules) place c
