-- The catalog has as many entries as there are items, and nothing besides.
use Rattle.std.proofs.Common.{◌≡◌, ℕ, suc, ◌+◌, ◌<◌, List, [], ◌∷◌, length, Option, Some, None, refl, sym, ap, subst, ◌∙◌, arith}
use Rattle.std.specs.Prelude.{slice_get}
use Rattle.std.proofs.lemmas.Option.{slice_get_within}
use Rattle.bridge_decl.specs.declared.modules.Item.{Item}
use Rattle.bridge_decl.specs.declared.modules.Module.{Module}
use Rattle.bridge_order.specs.Order.{module_order}
use Rattle.bridge_order.specs.declared.catalog.Entry.{Entry}
use Rattle.bridge_places.specs.Entries.{HasEntriesOf}
use Rattle.bridge_places.specs.Kinds.{item_kind}
use Rattle.bridge_places.specs.declared.numbering.ItemOrder.{ItemOrder}
use Rattle.bridge_places.specs.declared.places.KindPlaces.{KindPlaces}
use Rattle.bridge_places.specs.inside.Numbering.{entries_from, with_module, with_modules, with_place}
use Rattle.bridge_places.proofs.NumberLemmas.{at, begun, holds_in_order, keeps_length, set_elsewhere, set_found}

entries_count : (number i : ℕ) (items : List Item) (places : KindPlaces) → length (entries_from number i items places) ≡ length items
entries_count number i [] places = refl
entries_count number i (it ∷ items) places = ap suc (entries_count number (i + 1) items (with_place (item_kind it) (at number i) places))

abbrev WholeAt : List Module → ℕ → ItemOrder → Type 0
WholeAt modules n found = (m : Module) → slice_get modules n ≡ Some m → HasEntriesOf m (slice_get found.catalog.modules n)

whole_new : (modules : List Module) (n : ℕ) (found : ItemOrder) → length found.catalog.modules ≡ length modules
    → WholeAt modules n (with_module n (slice_get modules n) found)
whole_new modules n found same m is =
    let slots : List (List Entry) = found.catalog.modules in
    let entries : List Entry = entries_from n 0 m.items found.places in
    let lt : n < length slots = omega (arith, same, slice_get_within modules n m is) in
    subst (λ o. HasEntriesOf m (slice_get (with_module n o found).catalog.modules n)) (sym is) (record {
      entries = entries;
      has = set_found slots n entries lt;
      count = entries_count n 0 m.items found.places;
    })

other_whole : (n number : ℕ) (o : Option Module) (found : ItemOrder) (m : Module) → ¬ (number ≡ n)
    → HasEntriesOf m (slice_get found.catalog.modules n) → HasEntriesOf m (slice_get (with_module number o found).catalog.modules n)
other_whole n number None found m ne h = h
other_whole n number (Some other) found m ne h =
    subst (HasEntriesOf m) (sym (set_elsewhere found.catalog.modules number n (entries_from number 0 other.items found.places) ne)) h

whole_beside : (modules : List Module) (n number : ℕ) (found : ItemOrder) → ¬ (number ≡ n) → WholeAt modules n found
    → WholeAt modules n (with_module number (slice_get modules number) found)
whole_beside modules n number found ne h = λ m is. other_whole n number (slice_get modules number) found m ne (h m is)

-- of each module
pub all_whole : (modules : List Module) (slots : List (List Entry)) → length slots ≡ length modules → (n : ℕ) (m : Module)
    → slice_get modules n ≡ Some m → HasEntriesOf m (slice_get (with_modules modules (module_order modules) (begun slots)).catalog.modules n)
all_whole modules slots same n m is =
    holds_in_order modules n (WholeAt modules n) (whole_new modules n) (whole_beside modules n) slots m same is m is

-- of the modules
pub all_kept : (modules : List Module) (order : List ℕ) (found : ItemOrder) → length (with_modules modules order found).catalog.modules
    ≡ length found.catalog.modules
all_kept modules [] found = refl
all_kept modules (number ∷ order) found =
    all_kept modules order (with_module number (slice_get modules number) found) ∙ keeps_length number (slice_get modules number) found
