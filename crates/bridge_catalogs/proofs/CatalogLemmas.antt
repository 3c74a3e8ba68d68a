-- Two catalogs of the same modules have the same entries.
use Rattle.std.proofs.Common.{◌≡◌, ℕ, zero, suc, ◌<◌, List, [], ◌∷◌, length, Some, refl, sym, ap, ◌∙◌, arith}
use Rattle.std.specs.Prelude.{slice_get}
use Rattle.std.specs.Option.{option_and_then}
use Rattle.bridge_ast.specs.Types.{item_of}
use Rattle.bridge_ast.specs.declared.place.ItemPlace.{ItemPlace}
use Rattle.bridge_decl.specs.declared.modules.Item.{Item}
use Rattle.bridge_decl.specs.declared.modules.Module.{Module}
use Rattle.bridge_order.proofs.OrderLemmas.{got}
use Rattle.bridge_order.specs.Catalog.{entry_at, entry_or, id_of, module_entry}
use Rattle.bridge_order.specs.declared.catalog.Catalog.{Catalog}
use Rattle.bridge_order.specs.declared.catalog.Entry.{Entry}
use Rattle.bridge_places.specs.Entries.{Describes, HasEntriesOf, IsCatalog, entry_of}
use Rattle.bridge_places.specs.Kinds.{item_kind}
use Rattle.bridge_places.specs.Places.{places_of}
use Rattle.bridge_catalogs.proofs.OnceLemmas.{one_number, same_lists}
use Rattle.bridge_catalogs.proofs.OrderLemmas.{places_once}

described_same : (modules : List Module) (it : Item) (place : ItemPlace) (one other : Entry) → Describes modules it place one
    → Describes modules it place other → one ≡ other
described_same modules it place one other a b =
    let same : id_of one ≡ id_of other =
    one_number (places_of modules (item_kind it)) (id_of one) (id_of other) place (places_once modules (item_kind it)) a.number b.number in
    a.is ∙ ap (λ n. entry_of n it) same ∙ sym b.is

-- the item of that number in the module of that number, where both are there
item_there : (modules : List Module) (n j : ℕ) (m : Module) (it : Item) → slice_get modules n ≡ Some m → slice_get m.items j ≡ Some it
    → item_of modules (record { «module» = n; item = j }) ≡ Some it
item_there modules n j m it is has = ap (option_and_then (λ m. slice_get m.items j)) is ∙ has

-- what is kept of it is what stands in the entries of its module
kept_there : (catalog : Catalog) (n j : ℕ) (entries : List Entry) (e : Entry) → slice_get catalog.modules n ≡ Some entries
    → slice_get entries j ≡ Some e → entry_at catalog (record { «module» = n; item = j }) ≡ e
kept_there catalog n j entries e is has = ap (λ o. module_entry o j) is ∙ ap entry_or has

-- what stands within a list is there
within : {A : Type 0} (xs : List A) (i : ℕ) → i < length xs → (x : A) × (slice_get xs i ≡ Some x)
within [] i lt = absurd (omega (arith, lt))
within (x ∷ xs) zero lt = (x, refl)
within (x ∷ xs) (suc i) lt = within xs i (omega (arith, lt))

module _ (modules : List Module) (one other : Catalog) (a : IsCatalog modules one) (b : IsCatalog modules other) where
  same_entry : (n j : ℕ) (m : Module) (xs ys : List Entry) (x y : Entry) → slice_get modules n ≡ Some m → length xs ≡ length m.items
      → slice_get one.modules n ≡ Some xs → slice_get other.modules n ≡ Some ys → slice_get xs j ≡ Some x → slice_get ys j ≡ Some y → x ≡ y
  same_entry n j m xs ys x y is count in_one in_other here there =
      let place : ItemPlace = record { «module» = n; item = j } in
      let it = within m.items j (omega (arith, (got xs j x here).0, count)) in
      let stands : item_of modules place ≡ Some it.0 = item_there modules n j m it.0 is it.1 in
      sym (kept_there one n j xs x in_one here)
      ∙ described_same modules it.0 place (entry_at one place) (entry_at other place) (a.entries place it.0 stands) (b.entries place it.0 stands)
      ∙ kept_there other n j ys y in_other there

  same_entries : (n : ℕ) (m : Module) (xs ys : List Entry) → slice_get modules n ≡ Some m → slice_get one.modules n ≡ Some xs
      → slice_get other.modules n ≡ Some ys → xs ≡ ys
  same_entries n m xs ys is in_one in_other =
      let p : HasEntriesOf m (slice_get one.modules n) = a.whole n m is in
      let q : HasEntriesOf m (slice_get other.modules n) = b.whole n m is in
      let first : Some xs ≡ Some p.entries = sym in_one ∙ p.has in
      let second : Some ys ≡ Some q.entries = sym in_other ∙ q.has in
      let these : xs ≡ p.entries = cc in
      let those : ys ≡ q.entries = cc in
      same_lists xs ys (ap length these ∙ p.count ∙ sym q.count ∙ sym (ap length those))
      (λ j x y. same_entry n j m xs ys x y is (ap length these ∙ p.count) in_one in_other)

  same_modules : one.modules ≡ other.modules
  same_modules = same_lists one.modules other.modules (a.count ∙ sym b.count) (λ n xs ys in_one in_other.
      let m = within modules n (omega (arith, (got one.modules n xs in_one).0, a.count)) in
      same_entries n m.0 xs ys m.1 in_one in_other)

  pub one_catalog : one ≡ other
  one_catalog = ap (λ rows. record { modules = rows }) same_modules
