-- The lifetimes that the types of the made declarations use: nothing is wrong with them, and what their numbers are. The example throughout is
-- `struct S7<'a> { x: &'a O, s: S6<'a> }` with `fn f7<'a, 'b: 'a>(p: S7<'a>, q: &'b O) -> &'a O`.
use Rattle.std.proofs.Common.{◌≡◌, ℕ, ◌-◌, ◌<◌, Bool, true, false, List, [], ◌∷◌, ◌++◌, Some, refl, ap, ◌∙◌, arith}
use Rattle.std.specs.Prelude.{Ok, codes, option_map, if◌then◌else◌}
use Rattle.bridge_decl.specs.declared.lifetimes.Lifetime.TheVariants.{Named}
use Rattle.bridge_decl.specs.declared.structs.Field.{Field}
use Rattle.bridge_decl.specs.declared.structs.Struct.{Struct}
use Rattle.bridge_decl.specs.declared.types.Mutability.TheVariants.{Immutable}
use Rattle.bridge_decl.specs.declared.types.TypeName.TheVariants as type
use Rattle.bridge_generate.specs.Generated.{function_numbered, one_lifetime, opaque_borrowed_for, params_of, path_to_opaque, path_to_struct}
use Rattle.bridge_generate.specs.Generated.{plain_attrs, plain_docs, plain_field, plain_param, struct_by_value, struct_name, two_lifetimes}
use Rattle.bridge_order.specs.declared.catalog.Catalog.{Catalog}
use Rattle.hir_elide.specs.Occurrences.{Counting}
use Rattle.hir_elide.specs.Phases.{Defining, Returning, Using}
use Rattle.hir_life.specs.declared.maybe_static.MaybeStatic.TheVariants.{NonStatic}
use Rattle.hir_number.specs.Breaches.{Anything, Nothing, breaches_of, field_breaches, function_breaches, uses_of, within_limit}
use Rattle.hir_number.specs.Naming.{Naming, type_found}
use Rattle.hir_number.specs.Numbers.{signature_numbers}
use Rattle.hir_number.specs.Shapes.{NumberLists}
use Rattle.hir_number.specs.Signatures.{Placed, Usual, field_uses, function_uses, is_written_level, output_uses, param_uses, placed, without_writer}
use Rattle.hir_number.specs.Uses.{One, Path, Use, level_uses, type_use, type_uses}
use Rattle.bridge_measure.specs.inside.Made.{AreAsMade, opaque_place, struct_place}
use Rattle.bridge_measure.proofs.TypeLemmas.{fold_named, fold_reference, out_reference}

-- ---- structs with and without the second field

-- `s: S6<'a>`, but for the first of each eight structs
abbrev pub second_field : Bool → ℕ → List Field
second_field first number = if first then [] else plain_field (codes "s") (struct_by_value (number - 1)) ∷ []

abbrev pub fields_if : Bool → ℕ → List Field
fields_if first number = plain_field (codes "x") (opaque_borrowed_for (codes "a")) ∷ second_field first number

abbrev pub struct_if : Bool → ℕ → Struct
struct_if first number = record {
  name = struct_name number;
  lifetimes = one_lifetime;
  fields = fields_if first number;
  methods = [];
  output_only = false;
  docs = plain_docs;
  attrs = plain_attrs;
}

-- ---- uses

-- of the opaque's generics, of which there are none, and of a struct's
abbrev pub opaque_use : Use
opaque_use = Path false path_to_opaque (Some (record { place = opaque_place; count = 0 }))

abbrev pub struct_use : ℕ → Use
struct_use k = Path false (path_to_struct k) (Some (record { place = struct_place k; count = 1 }))

-- of a lifetime
abbrev pub use_of : List ℕ → Use
use_of name = One (Named name)

-- those of the fields
abbrev pub uses_if : Bool → ℕ → List Use
uses_if true k = use_of (codes "a") ∷ opaque_use ∷ []
uses_if false k = use_of (codes "a") ∷ opaque_use ∷ struct_use (k - 1) ∷ []

-- those of the function
abbrev pub function_uses_of : ℕ → List Placed
function_uses_of k =
    (Usual (Using Counting), struct_use k)
    ∷ (Usual (Using Counting), use_of (codes "b"))
    ∷ (Usual (Using Counting), opaque_use)
    ∷ (Usual Returning, use_of (codes "a"))
    ∷ (Usual Returning, opaque_use)
    ∷ []

-- ---- their numbers: `'a` is 0 and `'b` is 1

abbrev pub numbers_if : Bool → NumberLists
numbers_if true = (NonStatic 0 ∷ []) ∷ [] ∷ []
numbers_if false = (NonStatic 0 ∷ []) ∷ [] ∷ (NonStatic 0 ∷ []) ∷ []

abbrev pub function_numbers : NumberLists
function_numbers = (NonStatic 0 ∷ []) ∷ (NonStatic 1 ∷ []) ∷ [] ∷ (NonStatic 0 ∷ []) ∷ [] ∷ []

-- neither parameter is a writer
pub no_writer : (k : ℕ) → without_writer (params_of k) ≡ params_of k
no_writer k =
    let last = plain_param (codes "q") (opaque_borrowed_for (codes "b")) in
    ap (λ layer. plain_param (codes "p") (struct_by_value k) ∷ (if is_written_level layer then [] else last ∷ []))
    (out_reference (Named (codes "b")) Immutable (type.Named path_to_opaque))

module _ (count : ℕ) (names : Naming) (catalog : Catalog) (known : AreAsMade count names catalog) where
  opaque_used : type_use names false path_to_opaque ≡ opaque_use
  opaque_used = ap (λ found. Path false path_to_opaque (option_map (λ d. d.0) (type_found found))) known.opaque_named

  struct_used : (k : ℕ) → k < count → type_use names false (path_to_struct k) ≡ struct_use k
  struct_used k within = ap (λ found. Path false (path_to_struct k) (option_map (λ d. d.0) (type_found found))) (known.struct_named k within)

  borrowed_uses : (name : List ℕ) → type_uses names (opaque_borrowed_for name) ≡ use_of name ∷ opaque_use ∷ []
  borrowed_uses name =
      fold_reference (level_uses names) (Named name) Immutable (type.Named path_to_opaque)
      ∙ ap (λ us. use_of name ∷ us) (fold_named (level_uses names) path_to_opaque ∙ ap (λ u. u ∷ []) opaque_used)

  struct_uses : (k : ℕ) → k < count → type_uses names (struct_by_value k) ≡ struct_use k ∷ []
  struct_uses k within = fold_named (level_uses names) (path_to_struct k) ∙ ap (λ u. u ∷ []) (struct_used k within)

  -- ---- of fields

  pub fields_use : (first : Bool) (k : ℕ) → k < count → field_uses names (fields_if first k) ≡ placed (Usual Defining) (uses_if first k)
  fields_use true k within = ap (λ us. placed (Usual Defining) (us ++ [])) (borrowed_uses (codes "a"))
  fields_use false k within =
      ap (λ us. placed (Usual Defining) (us ++ (type_uses names (struct_by_value (k - 1)) ++ []))) (borrowed_uses (codes "a"))
      ∙ ap (λ us. placed (Usual Defining) (use_of (codes "a") ∷ opaque_use ∷ (us ++ []))) (struct_uses (k - 1) (omega arith))

  pub fields_fit : (first : Bool) (k : ℕ) → k < count → field_breaches names (struct_if first k) ≡ []
  fields_fit first k within =
      ap (λ us. within_limit one_lifetime (breaches_of (codes "a" ∷ []) Anything (uses_of us))) (fields_use first k within) ∙ fit first
    where
      fit : (it : Bool) → within_limit one_lifetime (breaches_of (codes "a" ∷ []) Anything (uses_of (placed (Usual Defining) (uses_if it k)))) ≡ []
      fit true = refl
      fit false = refl

  pub fields_numbered : (first : Bool) (k : ℕ) → k < count
      → signature_numbers one_lifetime (field_uses names (fields_if first k)) ≡ Ok (numbers_if first)
  fields_numbered first k within = ap (signature_numbers one_lifetime) (fields_use first k within) ∙ numbered first
    where
      numbered : (it : Bool) → signature_numbers one_lifetime (placed (Usual Defining) (uses_if it k)) ≡ Ok (numbers_if it)
      numbered true = refl
      numbered false = refl

  -- ---- of functions

  pub function_uses_are : (k : ℕ) → k < count → function_uses names (function_numbered k) ≡ function_uses_of k
  function_uses_are k within =
      let counted = placed (Usual (Using Counting)) in
      let returning = placed (Usual Returning) in
      let output = returning (type_uses names (opaque_borrowed_for (codes "a"))) in
      ap (λ params. counted (param_uses names params) ++ returning (output_uses names (function_numbered k).output_type)) (no_writer k)
      ∙ ap (λ us. counted (us ++ (type_uses names (opaque_borrowed_for (codes "b")) ++ [])) ++ output) (struct_uses k within)
      ∙ ap (λ us. counted (struct_use k ∷ (us ++ [])) ++ output) (borrowed_uses (codes "b"))
      ∙ ap (λ us. counted (struct_use k ∷ use_of (codes "b") ∷ opaque_use ∷ []) ++ returning us) (borrowed_uses (codes "a"))

  pub function_fits : (k : ℕ) → k < count → function_breaches names (function_numbered k) ≡ []
  function_fits k within =
      ap (λ us. within_limit two_lifetimes (breaches_of (codes "a" ∷ codes "b" ∷ []) Nothing (uses_of us))) (function_uses_are k within)

  pub function_is_numbered : (k : ℕ) → k < count → signature_numbers two_lifetimes (function_uses names (function_numbered k)) ≡ Ok function_numbers
  function_is_numbered k within = ap (signature_numbers two_lifetimes) (function_uses_are k within)
