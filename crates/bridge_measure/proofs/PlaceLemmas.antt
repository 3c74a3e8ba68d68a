-- Which item stands where in the made declarations, what their paths mean, and what the catalog has there.
use Rattle.std.proofs.Common.{◌≡◌, ℕ, zero, suc, ◌+◌, ◌-◌, ◌^◌, ◌<◌, ◌++◌, length, Option, Some, None, refl, sym, ap, ◌∙◌, arith, inl, inr, length-append}
use Rattle.std.specs.Prelude.{slice_get}
use Rattle.std.proofs.Math.Numerals.{add-one}
use Rattle.std.proofs.lemmas.Bool.{cases_lt}
use Rattle.std.proofs.lemmas.List.{get_or_append_left, get_or-append_right}
use Rattle.std.proofs.lemmas.List.FromFn.{get_or-map-range_with_len, length-map-range_with_len}
use Rattle.std.proofs.lemmas.Option.{slice_get-get_or, slice_get_within}
use Rattle.bridge_ast.specs.declared.place.ItemPlace.{ItemPlace}
use Rattle.bridge_decl.specs.declared.modules.Item.{Item}
use Rattle.bridge_decl.specs.declared.modules.Item.TheVariants as item
use Rattle.bridge_decl.specs.declared.modules.Module.{Module}
use Rattle.bridge_generate.proofs.FitLemmas.{generated_fits}
use Rattle.bridge_generate.proofs.PathLemmas.{names_opaque, names_struct}
use Rattle.bridge_generate.specs.Generated.{function_numbered, functions_below, generated_items, generated_module, path_to_opaque, path_to_struct, struct_numbered, structs_below, the_opaque}
use Rattle.bridge_order.specs.Catalog.{entry_at, id_of}
use Rattle.bridge_order.specs.declared.catalog.Catalog.{Catalog}
use Rattle.bridge_places.specs.Entries.{IsCatalog}
use Rattle.hir_lowering.specs.Placing.{beside_module, found_at}
use Rattle.hir_naming.proofs.NamingLemmas.{meaning_is_naming}
use Rattle.hir_naming.specs.Meaning.{naming_of}
use Rattle.bridge_measure.specs.Measured.{measured}
use Rattle.bridge_measure.specs.inside.Made.{AreAsMade, IsMadeAt, function_place, opaque_place, struct_place}

-- ---- the items by their numbers

-- what each item is
data IsItem (count n : ℕ) (found : Item) : Type 0 where
  opaque : n ≡ 0 → found ≡ item.Opaque the_opaque → IsItem count n found
  struct : (k : ℕ) → k < count → n ≡ k + 1 → found ≡ item.Struct (struct_numbered k) → IsItem count n found
  function : (k : ℕ) → k < count → n ≡ count + k + 1 → found ≡ item.Function (function_numbered k) → IsItem count n found

-- the number of a struct
struct_length : (count : ℕ) → length (structs_below count) ≡ count
unfolding structs_below
struct_length count = length-map-range_with_len (λ n. item.Struct (struct_numbered n)) 0 count

function_length : (count : ℕ) → length (functions_below count) ≡ count
unfolding functions_below
function_length count = length-map-range_with_len (λ n. item.Function (function_numbered n)) 0 count

-- after the opaque
struct_here : (count k : ℕ) → k < count → slice_get (structs_below count ++ functions_below count) k ≡ Some (item.Struct (struct_numbered k))
unfolding structs_below
struct_here count k within =
    let made_struct : ℕ → Item = λ n. item.Struct (struct_numbered n) in
    let structs = structs_below count in
    let functions = functions_below count in
    let long = struct_length count in
    let all = length-append structs functions in
    slice_get-get_or (structs ++ functions) k (made_struct k) (omega arith)
    ∙ ap Some (get_or_append_left structs functions (made_struct k) k (omega arith)
    ∙ get_or-map-range_with_len made_struct 0 count k k (made_struct k) within (omega arith))

function_here : (count k : ℕ) → k < count → slice_get (structs_below count ++ functions_below count) (count + k) ≡ Some (item.Function (function_numbered k))
unfolding functions_below
function_here count k within =
    let made_function : ℕ → Item = λ n. item.Function (function_numbered n) in
    let structs = structs_below count in
    let functions = functions_below count in
    let long = struct_length count in
    let long' = function_length count in
    let all = length-append structs functions in
    slice_get-get_or (structs ++ functions) (count + k) (made_function k) (omega arith)
    ∙ ap Some (get_or-append_right structs functions count (count + k) (made_function k) long (omega arith)
    ∙ get_or-map-range_with_len made_function 0 count (count + k - count) k (made_function k) (omega arith) (omega arith))

item_is : (count n : ℕ) (found : Item) → slice_get (generated_items count) n ≡ Some found → IsItem count n found
item_is count zero found is = IsItem.opaque refl cc
item_is count (suc n) found is =
    let structs = structs_below count in
    let functions = functions_below count in
    let within = slice_get_within (structs ++ functions) n found is in
    let long = struct_length count in
    let long' = function_length count in
    let all = length-append structs functions in
    elim (cases_lt n count) [
      | inl early ↦ let here = struct_here count n early in IsItem.struct n early (omega arith) cc
      | inr late ↦
          let k = n - count in
          let few : k < count = omega arith in
          let same : count + k ≡ n = omega arith in
          let here : slice_get (structs ++ functions) n ≡ Some (item.Function (function_numbered k))
          = ap (slice_get (structs ++ functions)) (sym same) ∙ function_here count k few in
          IsItem.function k few (omega arith) cc
    ]

-- ---- by their places

module _ (count : ℕ) where
  at_item : (n : ℕ) (found : Module × Item) → found_at (measured count) (record { «module» = 0; item = n }) ≡ Some found
      → (found.0 ≡ generated_module count) × (slice_get (generated_items count) n ≡ Some found.1)
  at_item n found is = elim_option (slice_get (generated_items count) n) is
    where
      elim_option : (o : Option Item) → beside_module (generated_module count) o ≡ Some found → (found.0 ≡ generated_module count) × (o ≡ Some found.1)
      elim_option None e = absurd cc
      elim_option (Some i) e = (cc, cc)

  pub found_is : (place : ItemPlace) (found : Module × Item) → found_at (measured count) place ≡ Some found
      → (found.0 ≡ generated_module count) × IsMadeAt count place found.1
  found_is place found is = by place.«module» place.item refl is
    where
      by : (m n : ℕ) → place ≡ record { «module» = m; item = n } → found_at (measured count) (record { «module» = m; item = n }) ≡ Some found
          → (found.0 ≡ generated_module count) × IsMadeAt count place found.1
      by (suc m) n at e = absurd cc
      by zero n at e =
          let both = at_item n found e in (
            both.0,
            elim (item_is count n found.1 both.1) [
              | IsItem.opaque where_ what ↦ IsMadeAt.opaque (at ∙ ap (λ i. record { «module» = 0; item = i }) where_) what
              | IsItem.struct k within where_ what ↦ IsMadeAt.struct k within (at ∙ ap (λ i. record { «module» = 0; item = i }) where_) what
              | IsItem.function k within where_ what ↦ IsMadeAt.function k within (at ∙ ap (λ i. record { «module» = 0; item = i }) where_) what
            ],
          )

  struct_stands : (k : ℕ) → k < count → slice_get (generated_items count) (k + 1) ≡ Some (item.Struct (struct_numbered k))
  struct_stands k within = ap (slice_get (generated_items count)) (add-one k) ∙ struct_here count k within

  function_stands : (k : ℕ) → k < count → slice_get (generated_items count) (count + k + 1) ≡ Some (item.Function (function_numbered k))
  function_stands k within = ap (slice_get (generated_items count)) (add-one (count + k)) ∙ function_here count k within

  pub struct_found : (k : ℕ) → k < count → found_at (measured count) (struct_place k) ≡ Some (generated_module count, item.Struct (struct_numbered k))
  struct_found k within = ap (beside_module (generated_module count)) (struct_stands k within)

  pub function_found : (k : ℕ) → k < count → found_at (measured count) (function_place count k) ≡ Some (generated_module count, item.Function (function_numbered k))
  function_found k within = ap (beside_module (generated_module count)) (function_stands k within)

  -- ---- what paths mean, and what the catalog has

  pub meets : count < 2 ^ 64 → (catalog : Catalog) → IsCatalog (measured count) catalog → AreAsMade count (naming_of (measured count) 0) catalog
  meets fits catalog is =
      let naming = meaning_is_naming (measured count) (generated_fits count fits) 0 (omega arith) in record {
        opaque_named = (naming.types path_to_opaque.segments (item.Opaque the_opaque) opaque_place).1 (names_opaque count);
        struct_named = λ k within.
            (naming.types (path_to_struct k).segments (item.Struct (struct_numbered k)) (struct_place k)).1 (names_struct count k within);
        opaque_entry = let e = is.entries opaque_place (item.Opaque the_opaque) refl in (id_of (entry_at catalog opaque_place), e.is);
        struct_entry = λ k within.
            let e = is.entries (struct_place k) (item.Struct (struct_numbered k)) (struct_stands k within) in (id_of (entry_at catalog (struct_place k)), e.is);
      }

-- each item is in the module of number 0
pub in_root : (count : ℕ) (place : ItemPlace) (found : Item) → IsMadeAt count place found → place.«module» ≡ 0
in_root count place found (IsMadeAt.opaque there is) = ap (λ p. p.«module») there
in_root count place found (IsMadeAt.struct k within there is) = ap (λ p. p.«module») there
in_root count place found (IsMadeAt.function k within there is) = ap (λ p. p.«module») there
