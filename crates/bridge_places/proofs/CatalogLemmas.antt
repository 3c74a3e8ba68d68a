-- The catalog has what each item is, and nothing where no item stands.
use Rattle.std.proofs.Common.{◌≡◌, ℕ, zero, suc, ◌+◌, Bool, true, false, List, [], ◌∷◌, length, Option, Some, None, refl, sym, ap, subst, ◌∙◌}
use Rattle.std.specs.Prelude.{All, slice_get, slice_set, ◌==◌}
use Rattle.std.specs.Option.{option_and_then}
use Rattle.std.proofs.lemmas.Bool.{eqb-true, eqb-false}
use Rattle.bridge_decl.specs.declared.modules.Module.{Module}
use Rattle.bridge_decl.specs.declared.modules.Item.{Item}
use Rattle.bridge_ast.specs.declared.place.ItemPlace.{ItemPlace}
use Rattle.bridge_ast.specs.Types.{item_of}
use Rattle.bridge_order.specs.declared.catalog.Entry.{Entry}
use Rattle.bridge_order.specs.declared.catalog.Entry.TheVariants as entry
use Rattle.bridge_places.specs.declared.numbering.ItemOrder.{ItemOrder}
use Rattle.bridge_places.specs.declared.places.KindPlaces.{KindPlaces}
use Rattle.bridge_places.specs.Kinds.{item_kind}
use Rattle.bridge_order.specs.Order.{module_order}
use Rattle.bridge_order.specs.Catalog.{entry_in, module_entry}
use Rattle.bridge_places.specs.Entries.{IsCatalog}
use Rattle.bridge_places.specs.inside.Numbering.{entries_from, with_module, with_modules, with_place}
use Rattle.bridge_order.proofs.OrderLemmas.{all_got}
use Rattle.bridge_places.proofs.NumberLemmas.{at, begun, described, kept, set_elsewhere}
use Rattle.bridge_places.proofs.WholeLemmas.{all_kept, all_whole}

-- there are no more entries than items
no_entry : (number i j : ℕ) (items : List Item) (places : KindPlaces) → slice_get items j ≡ None
    → entry_in (entries_from number i items places) j ≡ entry.Enum 0
no_entry number i j [] places none = refl
no_entry number i zero (it ∷ items) places none = absurd cc
no_entry number i (suc j) (it ∷ items) places none =
    no_entry number (i + 1) j items (with_place (item_kind it) (at number i) places) none

set_either : (slots : List (List Entry)) (n j : ℕ) (entries : List Entry) → entry_in entries j ≡ entry.Enum 0
    → module_entry (slice_get slots n) j ≡ entry.Enum 0 → module_entry (slice_get (slice_set slots n entries) n) j ≡ entry.Enum 0
set_either [] n j entries new old = old
set_either (slot ∷ slots) zero j entries new old = new
set_either (slot ∷ slots) (suc n) j entries new old = set_either slots n j entries new old

-- the items of a module, one of which may be at that number
abbrev in_it : Option Module → ℕ → Option Item
in_it o j = option_and_then (λ m. slice_get m.items j) o

none_at : (n : ℕ) (o : Option Module) (found : ItemOrder) (j : ℕ) → in_it o j ≡ None → kept found n j ≡ entry.Enum 0
    → kept (with_module n o found) n j ≡ entry.Enum 0
none_at n None found j none old = old
none_at n (Some m) found j none old =
    set_either found.catalog.modules n j (entries_from n 0 m.items found.places) (no_entry n 0 j m.items found.places none) old

none_beside : (number : ℕ) (o : Option Module) (found : ItemOrder) (n j : ℕ) → ¬ (number ≡ n) → kept found n j ≡ entry.Enum 0
    → kept (with_module number o found) n j ≡ entry.Enum 0
none_beside number None found n j ne old = old
none_beside number (Some m) found n j ne old =
    ap (λ s. module_entry s j) (set_elsewhere found.catalog.modules number n (entries_from number 0 m.items found.places) ne) ∙ old

none_still : (modules : List Module) (found : ItemOrder) (number n j : ℕ) (b : Bool) → number == n ≡ b
    → item_of modules (at n j) ≡ None → kept found n j ≡ entry.Enum 0
    → kept (with_module number (slice_get modules number) found) n j ≡ entry.Enum 0
none_still modules found number n j true e none old =
    let is : n ≡ number = sym (eqb-true number n e) in
    subst (λ x. kept (with_module x (slice_get modules x) found) n j ≡ entry.Enum 0) is
    (none_at n (slice_get modules n) found j none old)
none_still modules found number n j false e none old =
    none_beside number (slice_get modules number) found n j (eqb-false number n e) old

all_none : (modules : List Module) (order : List ℕ) (found : ItemOrder) (n j : ℕ) → item_of modules (at n j) ≡ None
    → kept found n j ≡ entry.Enum 0 → kept (with_modules modules order found) n j ≡ entry.Enum 0
all_none modules [] found n j none old = old
all_none modules (number ∷ order) found n j none old =
    all_none modules order (with_module number (slice_get modules number) found) n j none
    (none_still modules found number n j (number == n) refl none old)

abbrev IsEmpty : List Entry → Type 0
IsEmpty entries = entries ≡ []

blank : (slots : List (List Entry)) (n j : ℕ) (o : Option (List Entry)) → slice_get slots n ≡ o → All IsEmpty slots
    → module_entry o j ≡ entry.Enum 0
blank slots n j None e empty = refl
blank slots n j (Some entries) e empty = ap (λ x. entry_in x j) (all_got IsEmpty slots n entries empty e)

-- nothing is kept where no item stands
none_kept : (modules : List Module) (order : List ℕ) (slots : List (List Entry)) (place : ItemPlace) → All IsEmpty slots
    → item_of modules place ≡ None
    → kept (with_modules modules order (begun slots)) place.«module» place.item ≡ entry.Enum 0
none_kept modules order slots place empty none =
    all_none modules order (begun slots) place.«module» place.item none
    (blank slots place.«module» place.item (slice_get slots place.«module») refl empty)

-- the catalog is that of the modules
pub is_catalog : (modules : List Module) (slots : List (List Entry)) → length slots ≡ length modules → All IsEmpty slots
    → IsCatalog modules (with_modules modules (module_order modules) (begun slots)).catalog
is_catalog modules slots same empty = record {
  entries = λ place it stands. described modules slots place it same stands;
  others = λ place none. none_kept modules (module_order modules) slots place empty none;
  count = all_kept modules (module_order modules) (begun slots) ∙ same;
  whole = all_whole modules slots same;
}
