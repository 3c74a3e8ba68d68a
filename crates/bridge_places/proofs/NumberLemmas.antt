-- The numbers that items get are those of their places in the lists of their kinds.
use Rattle.std.proofs.Common.{◌≡◌, ℕ, zero, suc, ◌+◌, ◌<◌, Bool, true, false, List, [], ◌∷◌, ◌++◌, length, get_or, drop, Option, Some, None, inl, inr, refl, sym, ap, subst, ◌∙◌, arith}
use Rattle.std.specs.Prelude.{Contains, slice_get, slice_set, ◌⊎◌, ◌==◌}
use Rattle.std.specs.List.{flat_map}
use Rattle.std.proofs.lemmas.Bool.{eqb-true, eqb-false}
use Rattle.std.proofs.lemmas.List.{append-nil, append_assoc, at_drop_more, length-set}
use Rattle.std.proofs.lemmas.Option.{slice_get_within, option_and_then_some}
use Rattle.bridge_decl.specs.declared.modules.Module.{Module}
use Rattle.bridge_decl.specs.declared.modules.Item.{Item}
use Rattle.bridge_decl.specs.declared.modules.Item.TheVariants as item
use Rattle.bridge_ast.specs.Types.{item_of}
use Rattle.bridge_ast.specs.declared.place.ItemPlace.{ItemPlace}
use Rattle.bridge_order.specs.declared.catalog.Entry.{Entry}
use Rattle.bridge_places.specs.declared.kinds.Kind.{Kind}
use Rattle.bridge_places.specs.declared.kinds.Kind.TheVariants as kind
use Rattle.bridge_places.specs.declared.numbering.ItemOrder.{ItemOrder}
use Rattle.bridge_places.specs.declared.places.KindPlaces.{KindPlaces}
use Rattle.bridge_places.specs.Kinds.{item_kind, same_kind}
use Rattle.bridge_order.specs.Order.{module_order, of_found, where_there}
use Rattle.bridge_places.specs.Places.{of_kind, module_places, places_in, places_of}
use Rattle.bridge_order.specs.Catalog.{entry_at, entry_in, id_of, module_entry}
use Rattle.bridge_places.specs.Entries.{Describes, entry_of, has_fields, entry_of_struct}
use Rattle.bridge_places.specs.inside.Numbering.{entries_from, no_places, with_module, with_modules, with_place, with_places}
use Rattle.bridge_order.proofs.OrderLemmas.{all_ordered}

abbrev pub at : ℕ → ℕ → ItemPlace
at number i = record { «module» = number; item = i }

-- ---- one place more

one_more : (one k : Kind) (place : ItemPlace) (places : KindPlaces)
    → of_kind k (with_place one place places) ≡ of_kind k places ++ where_there (same_kind one k) place
one_more kind.OutStruct kind.OutStruct place places = refl
one_more kind.OutStruct kind.Struct place places = sym (append-nil places.structs)
one_more kind.OutStruct kind.Opaque place places = sym (append-nil places.opaques)
one_more kind.OutStruct kind.Enum place places = sym (append-nil places.enums)
one_more kind.OutStruct kind.Trait place places = sym (append-nil places.traits)
one_more kind.OutStruct kind.Function place places = sym (append-nil places.functions)
one_more kind.Struct kind.OutStruct place places = sym (append-nil places.out_structs)
one_more kind.Struct kind.Struct place places = refl
one_more kind.Struct kind.Opaque place places = sym (append-nil places.opaques)
one_more kind.Struct kind.Enum place places = sym (append-nil places.enums)
one_more kind.Struct kind.Trait place places = sym (append-nil places.traits)
one_more kind.Struct kind.Function place places = sym (append-nil places.functions)
one_more kind.Opaque kind.OutStruct place places = sym (append-nil places.out_structs)
one_more kind.Opaque kind.Struct place places = sym (append-nil places.structs)
one_more kind.Opaque kind.Opaque place places = refl
one_more kind.Opaque kind.Enum place places = sym (append-nil places.enums)
one_more kind.Opaque kind.Trait place places = sym (append-nil places.traits)
one_more kind.Opaque kind.Function place places = sym (append-nil places.functions)
one_more kind.Enum kind.OutStruct place places = sym (append-nil places.out_structs)
one_more kind.Enum kind.Struct place places = sym (append-nil places.structs)
one_more kind.Enum kind.Opaque place places = sym (append-nil places.opaques)
one_more kind.Enum kind.Enum place places = refl
one_more kind.Enum kind.Trait place places = sym (append-nil places.traits)
one_more kind.Enum kind.Function place places = sym (append-nil places.functions)
one_more kind.Trait kind.OutStruct place places = sym (append-nil places.out_structs)
one_more kind.Trait kind.Struct place places = sym (append-nil places.structs)
one_more kind.Trait kind.Opaque place places = sym (append-nil places.opaques)
one_more kind.Trait kind.Enum place places = sym (append-nil places.enums)
one_more kind.Trait kind.Trait place places = refl
one_more kind.Trait kind.Function place places = sym (append-nil places.functions)
one_more kind.Function kind.OutStruct place places = sym (append-nil places.out_structs)
one_more kind.Function kind.Struct place places = sym (append-nil places.structs)
one_more kind.Function kind.Opaque place places = sym (append-nil places.opaques)
one_more kind.Function kind.Enum place places = sym (append-nil places.enums)
one_more kind.Function kind.Trait place places = sym (append-nil places.traits)
one_more kind.Function kind.Function place places = refl

its_own : (k : Kind) (place : ItemPlace) (places : KindPlaces) → of_kind k (with_place k place places) ≡ of_kind k places ++ place ∷ []
its_own kind.OutStruct place places = refl
its_own kind.Struct place places = refl
its_own kind.Opaque place places = refl
its_own kind.Enum place places = refl
its_own kind.Trait place places = refl
its_own kind.Function place places = refl

-- ---- the places of a module's items

pub lists_gain : (number i : ℕ) (items : List Item) (places : KindPlaces) (k : Kind)
    → of_kind k (with_places number i items places) ≡ of_kind k places ++ places_in k number i items
lists_gain number i [] places k = sym (append-nil (of_kind k places))
lists_gain number i (it ∷ items) places k =
    let here : List ItemPlace = where_there (same_kind (item_kind it) k) (at number i) in
    let rest : List ItemPlace = places_in k number (i + 1) items in
    lists_gain number (i + 1) items (with_place (item_kind it) (at number i) places) k
    ∙ ap (λ l. l ++ rest) (one_more (item_kind it) k (at number i) places)
    ∙ append_assoc (of_kind k places) here rest

-- what is found in a list is found there in a longer one
found_still : {A : Type 0} (xs ys : List A) (i : ℕ) (x : A) → slice_get xs i ≡ Some x → slice_get (xs ++ ys) i ≡ Some x
found_still [] ys i x e = absurd cc
found_still (y ∷ xs) ys zero x e = e
found_still (y ∷ xs) ys (suc i) x e = found_still xs ys i x e

-- what stands after a list is found at its length
found_after : {A : Type 0} (xs ys : List A) (x : A) → slice_get ((xs ++ x ∷ []) ++ ys) (length xs) ≡ Some x
found_after [] ys x = refl
found_after (y ∷ xs) ys x = found_after xs ys x

-- ---- what an entry says of an item, by the places that are known so far

record Numbered (places : KindPlaces) (it : Item) (place : ItemPlace) (e : Entry) : Type 0 where
  is : e ≡ entry_of (id_of e) it
  number : slice_get (of_kind (item_kind it) places) (id_of e) ≡ Some place

id_of_struct : (n : ℕ) (out fields : Bool) → id_of (entry_of_struct n out fields) ≡ n
id_of_struct n true fields = refl
id_of_struct n false fields = refl

same_id : (n : ℕ) (it : Item) → id_of (entry_of n it) ≡ n
same_id n (item.Struct s) = id_of_struct n s.output_only (has_fields s.fields)
same_id n (item.Opaque o) = refl
same_id n (item.Enum e) = refl
same_id n (item.Trait t) = refl
same_id n (item.Function f) = refl

-- it stays so when places are added
numbered_still : (number i : ℕ) (items : List Item) (places : KindPlaces) (it : Item) (place : ItemPlace) (e : Entry)
    → Numbered places it place e → Numbered (with_places number i items places) it place e
numbered_still number i items places it place e known =
    let k : Kind = item_kind it in
    let added : List ItemPlace = places_in k number i items in
    record {
      is = known.is;
      number = subst (λ l. slice_get l (id_of e) ≡ Some place) (sym (lists_gain number i items places k))
          (found_still (of_kind k places) added (id_of e) place known.number);
    }

-- it is so of an item that is added
numbered_new : (number i : ℕ) (items : List Item) (it : Item) (places : KindPlaces)
    → Numbered (with_places number i (it ∷ items) places) it (at number i) (entry_of (length (of_kind (item_kind it) places)) it)
numbered_new number i items it places =
    let k : Kind = item_kind it in
    let n : ℕ = length (of_kind k places) in
    let known : KindPlaces = with_place k (at number i) places in
    let added : List ItemPlace = places_in k number (i + 1) items in
    let all : KindPlaces = with_places number (i + 1) items known in
    let same : id_of (entry_of n it) ≡ n = same_id n it in
    let is_list : of_kind k all ≡ (of_kind k places ++ at number i ∷ []) ++ added =
    lists_gain number (i + 1) items known k ∙ ap (λ l. l ++ added) (its_own k (at number i) places) in
    let found : slice_get (of_kind k all) n ≡ Some (at number i) =
    subst (λ l. slice_get l n ≡ Some (at number i)) (sym is_list) (found_after (of_kind k places) added (at number i)) in
    record {
      is = ap (λ m. entry_of m it) (sym same);
      number = subst (λ m. slice_get (of_kind k all) m ≡ Some (at number i)) (sym same) found;
    }

-- each item of a module has its entry
each_numbered : (number i j p : ℕ) (items : List Item) (places : KindPlaces) (it : Item) → slice_get items j ≡ Some it → i + j ≡ p
    → Numbered (with_places number i items places) it (at number p) (entry_in (entries_from number i items places) j)
each_numbered number i j p [] places it e stands = absurd cc
each_numbered number i zero p (first ∷ items) places it e stands =
    let same : first ≡ it = cc in
    let here : i ≡ p = omega (arith, stands) in
    let entry : Entry = entry_of (length (of_kind (item_kind first) places)) first in
    let all : KindPlaces = with_places number i (first ∷ items) places in
    subst (λ x. Numbered all x (at number p) entry) same
    (subst (λ q. Numbered all first (at number q) entry) here (numbered_new number i items first places))
each_numbered number i (suc j) p (first ∷ items) places it e stands =
    each_numbered number (i + 1) j p items (with_place (item_kind first) (at number i) places) it e (omega (arith, stands))

-- ---- the modules

pub keeps_length : (number : ℕ) (o : Option Module) (found : ItemOrder)
    → length (with_module number o found).catalog.modules ≡ length found.catalog.modules
keeps_length number None found = refl
keeps_length number (Some m) found = length-set found.catalog.modules number (entries_from number 0 m.items found.places)

module_gains : (number : ℕ) (o : Option Module) (found : ItemOrder) (k : Kind)
    → of_kind k (with_module number o found).places ≡ of_kind k found.places ++ of_found (λ m. places_in k number 0 m.items) o
module_gains number None found k = sym (append-nil (of_kind k found.places))
module_gains number (Some m) found k = lists_gain number 0 m.items found.places k

modules_gain : (modules : List Module) (order : List ℕ) (found : ItemOrder) (k : Kind)
    → of_kind k (with_modules modules order found).places ≡ of_kind k found.places ++ flat_map (module_places modules k) order
modules_gain modules [] found k = sym (append-nil (of_kind k found.places))
modules_gain modules (number ∷ order) found k =
    let o : Option Module = slice_get modules number in
    let rest : List ItemPlace = flat_map (module_places modules k) order in
    modules_gain modules order (with_module number o found) k
    ∙ ap (λ l. l ++ rest) (module_gains number o found k)
    ∙ append_assoc (of_kind k found.places) (module_places modules k number) rest

none_of : (k : Kind) → of_kind k no_places ≡ []
none_of kind.OutStruct = refl
none_of kind.Struct = refl
none_of kind.Opaque = refl
none_of kind.Enum = refl
none_of kind.Trait = refl
none_of kind.Function = refl

-- what there is before the first module
abbrev pub begun : List (List Entry) → ItemOrder
begun slots = record { catalog = record { modules = slots }; places = no_places }

-- the places are those of each kind
pub are_places : (modules : List Module) (slots : List (List Entry)) (k : Kind)
    → of_kind k (with_modules modules (module_order modules) (begun slots)).places ≡ places_of modules k
are_places modules slots k =
    modules_gain modules (module_order modules) (begun slots) k ∙ ap (λ l. l ++ places_of modules k) (none_of k)

-- ---- each module has its entries

pub set_found : {A : Type 0} (xs : List A) (i : ℕ) (x : A) → i < length xs → slice_get (slice_set xs i x) i ≡ Some x
set_found [] i x lt = absurd (omega (arith, lt))
set_found (y ∷ xs) zero x lt = refl
set_found (y ∷ xs) (suc i) x lt = set_found xs i x (omega (arith, lt))

pub set_elsewhere : {A : Type 0} (xs : List A) (i j : ℕ) (x : A) → ¬ (i ≡ j) → slice_get (slice_set xs i x) j ≡ slice_get xs j
set_elsewhere [] i j x ne = refl
set_elsewhere (y ∷ xs) zero zero x ne = absurd (ne refl)
set_elsewhere (y ∷ xs) zero (suc j) x ne = refl
set_elsewhere (y ∷ xs) (suc i) zero x ne = refl
set_elsewhere (y ∷ xs) (suc i) (suc j) x ne = set_elsewhere xs i j x (λ e. ne (ap suc e))

-- the entry that is kept for the item j of the module n
abbrev pub kept : ItemOrder → ℕ → ℕ → Entry
kept found n j = module_entry (slice_get found.catalog.modules n) j

abbrev RightAt : List Module → ItemOrder → ℕ → Type 0
RightAt modules found n = (j : ℕ) (m : Module) (it : Item) → slice_get modules n ≡ Some m → slice_get m.items j ≡ Some it
    → Numbered found.places it (at n j) (kept found n j)

right_new : (modules : List Module) (found : ItemOrder) (n : ℕ) → length found.catalog.modules ≡ length modules
    → RightAt modules (with_module n (slice_get modules n) found) n
right_new modules found n same j m it is has =
    let slots : List (List Entry) = found.catalog.modules in
    let entries : List Entry = entries_from n 0 m.items found.places in
    let lt : n < length slots = omega (arith, same, slice_get_within modules n m is) in
    subst (λ o. Numbered (with_module n o found).places it (at n j) (kept (with_module n o found) n j)) (sym is)
    (subst (λ s. Numbered (with_places n 0 m.items found.places) it (at n j) (module_entry s j)) (sym (set_found slots n entries lt))
    (each_numbered n 0 j j m.items found.places it has (omega arith)))

other_kept : (number : ℕ) (o : Option Module) (found : ItemOrder) (n j : ℕ) (it : Item) → ¬ (number ≡ n)
    → Numbered found.places it (at n j) (kept found n j)
    → Numbered (with_module number o found).places it (at n j) (kept (with_module number o found) n j)
other_kept number None found n j it ne known = known
other_kept number (Some m) found n j it ne known =
    let slots : List (List Entry) = found.catalog.modules in
    let entries : List Entry = entries_from number 0 m.items found.places in
    subst (λ s. Numbered (with_places number 0 m.items found.places) it (at n j) (module_entry s j))
    (sym (set_elsewhere slots number n entries ne))
    (numbered_still number 0 m.items found.places it (at n j) (kept found n j) known)

right_beside : (modules : List Module) (n number : ℕ) (found : ItemOrder) → ¬ (number ≡ n) → RightAt modules found n
    → RightAt modules (with_module number (slice_get modules number) found) n
right_beside modules n number found ne right = λ j m it is has. other_kept number (slice_get modules number) found n j it ne (right j m it is has)

-- what holds once the module n is added, and goes on holding when another is, holds when all are added
module _ (modules : List Module) (n : ℕ) (P : ItemOrder → Type 0)
    (new : (found : ItemOrder) → length found.catalog.modules ≡ length modules → P (with_module n (slice_get modules n) found))
    (beside : (number : ℕ) (found : ItemOrder) → ¬ (number ≡ n) → P found → P (with_module number (slice_get modules number) found)) where
  holds_still : (found : ItemOrder) (number : ℕ) (b : Bool) → number == n ≡ b → length found.catalog.modules ≡ length modules → P found
      → P (with_module number (slice_get modules number) found)
  holds_still found number true e same h =
      let is : n ≡ number = sym (eqb-true number n e) in
      subst (λ x. P (with_module x (slice_get modules x) found)) is (new found same)
  holds_still found number false e same h = beside number found (eqb-false number n e) h

  first_next : (number : ℕ) (order : List ℕ) (found : ItemOrder) (i : ℕ) → length found.catalog.modules ≡ length modules
      → i < length (number ∷ order) → get_or (number ∷ order) i n ≡ n
      → Contains order n ⊎ P (with_module number (slice_get modules number) found)
  first_next number order found zero same lt e = inr (subst (λ x. P (with_module x (slice_get modules x) found)) (sym e) (new found same))
  first_next number order found (suc i) same lt e = inl (i, omega (arith, lt), e)

  comes_next : (number : ℕ) (order : List ℕ) (found : ItemOrder) → length found.catalog.modules ≡ length modules
      → Contains (number ∷ order) n ⊎ P found → Contains order n ⊎ P (with_module number (slice_get modules number) found)
  comes_next number order found same (inl c) = first_next number order found c.0 same c.1 c.2
  comes_next number order found same (inr h) = inr (holds_still found number (number == n) refl same h)

  holds_of_all : (order : List ℕ) (found : ItemOrder) → length found.catalog.modules ≡ length modules → Contains order n ⊎ P found
      → P (with_modules modules order found)
  holds_of_all [] found same (inl c) = absurd (omega (arith, c.1))
  holds_of_all [] found same (inr h) = h
  holds_of_all (number ∷ order) found same h =
      let o : Option Module = slice_get modules number in
      holds_of_all order (with_module number o found) (keeps_length number o found ∙ same) (comes_next number order found same h)

  -- all are added in their order
  pub holds_in_order : (slots : List (List Entry)) (m : Module) → length slots ≡ length modules → slice_get modules n ≡ Some m
      → P (with_modules modules (module_order modules) (begun slots))
  holds_in_order slots m same is =
      holds_of_all (module_order modules) (begun slots) same (inl (all_ordered modules n m (slice_get_within modules n m is)))

-- each item has the entry that describes it
pub described : (modules : List Module) (slots : List (List Entry)) (place : ItemPlace) (it : Item) → length slots ≡ length modules
    → item_of modules place ≡ Some it
    → Describes modules it place (entry_at (with_modules modules (module_order modules) (begun slots)).catalog place)
described modules slots place it same stands =
    option_and_then_some (λ m. slice_get m.items place.item) (slice_get modules place.«module») it stands (λ m is has. of_it m is has)
  where
    of_it : (m : Module) → slice_get modules place.«module» ≡ Some m → slice_get m.items place.item ≡ Some it
        → Describes modules it place (entry_at (with_modules modules (module_order modules) (begun slots)).catalog place)
    of_it m is has =
        let n : ℕ = place.«module» in
        let all : ItemOrder = with_modules modules (module_order modules) (begun slots) in
        let right : Numbered all.places it (at n place.item) (kept all n place.item) =
        holds_in_order modules n (λ found. RightAt modules found n) (λ found s. right_new modules found n s) (right_beside modules n) slots m same is
        place.item m it is has in
        record {
          is = right.is;
          number = subst (λ l. slice_get l (id_of (kept all n place.item)) ≡ Some place) (are_places modules slots (item_kind it)) right.number;
        }

-- ---- one step of the loops

-- the next item
pub items_next : (number i : ℕ) (items : List Item) (places : KindPlaces) (it : Item) → i < length items → it ≡ get_or items i it
    → with_places number i (drop i items) places
    ≡ with_places number (i + 1) (drop (i + 1) items) (with_place (item_kind it) (at number i) places)
items_next number i items places it lt is =
    at_drop_more (λ rest. with_places number i rest places) items i it lt
    ∙ ap (λ x. with_places number i (x ∷ drop (i + 1) items) places) (sym is)

-- its entry
pub entries_next : (number i : ℕ) (items : List Item) (places : KindPlaces) (it : Item) → i < length items → it ≡ get_or items i it
    → entries_from number i (drop i items) places
    ≡ entry_of (length (of_kind (item_kind it) places)) it
    ∷ entries_from number (i + 1) (drop (i + 1) items) (with_place (item_kind it) (at number i) places)
entries_next number i items places it lt is =
    at_drop_more (λ rest. entries_from number i rest places) items i it lt
    ∙ ap (λ x. entries_from number i (x ∷ drop (i + 1) items) places) (sym is)

-- the next module
pub modules_next : (modules : List Module) (order : List ℕ) (found : ItemOrder) (i number : ℕ) → i < length order
    → number ≡ get_or order i number
    → with_modules modules (drop i order) found
    ≡ with_modules modules (drop (i + 1) order) (with_module number (slice_get modules number) found)
modules_next modules order found i number lt is =
    at_drop_more (λ rest. with_modules modules rest found) order i number lt
    ∙ ap (λ x. with_modules modules (x ∷ drop (i + 1) order) found) (sym is)
