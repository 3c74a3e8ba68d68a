-- The numbered types of the made declarations: `&'a O` and `S7<'a>` with the numbers of their lifetimes.
use Rattle.std.proofs.Common.{◌≡◌, ℕ, ◌-◌, ◌<◌, Bool, true, false, List, [], ◌∷◌, map, ap, ◌∙◌, arith}
use Rattle.std.specs.Prelude.{None, Option, Some, codes}
use Rattle.bridge_decl.specs.declared.lifetimes.Lifetime.TheVariants.{Named}
use Rattle.bridge_decl.specs.declared.methods.Param.{Param}
use Rattle.bridge_decl.specs.declared.types.Mutability.TheVariants.{Immutable}
use Rattle.bridge_decl.specs.declared.types.TypeName.TheVariants as type
use Rattle.bridge_generate.specs.Generated.{function_numbered, opaque_borrowed_for, params_of, path_to_opaque, path_to_struct, struct_by_value, two_lifetimes}
use Rattle.bridge_order.specs.declared.catalog.Catalog.{Catalog}
use Rattle.hir_elide.specs.Signature.{environment_of}
use Rattle.hir_life.specs.Environment.{Environment}
use Rattle.hir_life.specs.declared.maybe_static.MaybeStatic.{MaybeStatic}
use Rattle.hir_life.specs.declared.maybe_static.MaybeStatic.TheVariants.{NonStatic, Static}
use Rattle.hir_number.specs.Naming.{Naming, type_found}
use Rattle.hir_number.specs.Occurrences.{signature_with}
use Rattle.hir_number.specs.Shapes.{NumberLists, level_shape, shape, target_shape}
use Rattle.hir_number.specs.Signatures.{function_uses, without_writer}
use Rattle.hir_number.specs.declared.numbered.Kind.TheVariants as kind
use Rattle.hir_number.specs.declared.numbered.NumberedType.{NumberedType, roll-NumberedType}
use Rattle.hir_number.specs.declared.numbered.NumberedType.TheFolds.{fold-roll-NumberedType}
use Rattle.hir_number.specs.declared.numbered.NumberedType.TheOpen.{NumberedType-F}
use Rattle.hir_number.specs.declared.numbered.Target.{Target}
use Rattle.hir_number.specs.declared.signature.NumberedSignature.{NumberedSignature}
use Rattle.hir_stages.specs.Filling.{Fill, fill_each, fill_output, fill_type, first_list, level_fill, others_of, then_made}
use Rattle.hir_stages.specs.Numbering.{filled_fields, filled_function}
use Rattle.bridge_measure.specs.inside.Made.{AreAsMade, opaque_place, struct_place}
use Rattle.bridge_measure.proofs.TypeLemmas.{fold_named, fold_reference}
use Rattle.bridge_measure.proofs.UseLemmas.{function_numbers, no_writer, numbers_if, struct_if}

-- ---- the types

abbrev pub named_type : Target → NumberedType
named_type target = roll-NumberedType (NumberedType-F.Named target)

-- `O`, which has no lifetimes
abbrev pub opaque_target : Target
opaque_target = record { place = opaque_place; kind = kind.Opaque Immutable; lifetimes = [] }

-- `&'a O`, for the lifetime of that number
abbrev pub borrowed_type : MaybeStatic ℕ → NumberedType
borrowed_type n = roll-NumberedType (NumberedType-F.Reference n Immutable (named_type opaque_target))

-- `S7<'a>`, for lifetimes of those numbers
abbrev pub struct_target : ℕ → List (MaybeStatic ℕ) → Target
struct_target k ns = record { place = struct_place k; kind = kind.Struct; lifetimes = ns }

abbrev pub struct_type : ℕ → List (MaybeStatic ℕ) → NumberedType
struct_type k ns = named_type (struct_target k ns)

-- those of the fields
abbrev pub types_if : Bool → ℕ → List NumberedType
types_if true k = borrowed_type (NonStatic 0) ∷ []
types_if false k = borrowed_type (NonStatic 0) ∷ struct_type (k - 1) (NonStatic 0 ∷ []) ∷ []

-- and of the parameters
abbrev pub param_types : ℕ → List NumberedType
param_types k = struct_type k (NonStatic 0 ∷ []) ∷ borrowed_type (NonStatic 1) ∷ []

-- ---- what is filled

named_filled : (target : Target) (ns : NumberLists)
    → fill_type (named_type target) ns ≡ (named_type (record { place = target.place; kind = target.kind; lifetimes = first_list ns }), others_of ns)
named_filled target ns = ap (λ f. f ns) (fold-roll-NumberedType (Fill NumberedType) level_fill (NumberedType-F.Named target))

pub struct_filled : (k : ℕ) (ns : List (MaybeStatic ℕ)) (rest : NumberLists) → fill_type (struct_type k []) (ns ∷ rest) ≡ (struct_type k ns, rest)
struct_filled k ns rest = named_filled (struct_target k []) (ns ∷ rest)

pub borrowed_filled : (n : MaybeStatic ℕ) (rest : NumberLists) → fill_type (borrowed_type Static) ((n ∷ []) ∷ [] ∷ rest) ≡ (borrowed_type n, rest)
borrowed_filled n rest =
    ap (λ f. f ((n ∷ []) ∷ [] ∷ rest))
    (fold-roll-NumberedType (Fill NumberedType) level_fill (NumberedType-F.Reference Static Immutable (named_type opaque_target)))
    ∙ ap (then_made (λ t. roll-NumberedType (NumberedType-F.Reference n Immutable t))) (named_filled opaque_target ([] ∷ rest))

-- what a function takes and returns, with these lifetimes
abbrev pub numbered_with : Environment → List NumberedType → Option NumberedType → NumberedSignature
numbered_with lifetimes params output = record { borrow = None; own = None; params = params; output = output; lifetimes = lifetimes }

-- the next of a list
fill_next : {A : Type 0} (f : Fill A) (fs : List (Fill A)) (ns rest : NumberLists) (x : A) → f ns ≡ (x, rest)
    → fill_each (f ∷ fs) ns ≡ then_made (λ xs. x ∷ xs) (fill_each fs rest)
fill_next f fs ns rest x is = ap (λ made. then_made (λ xs. made.0 ∷ xs) (fill_each fs made.1)) is

module _ (count : ℕ) (names : Naming) (catalog : Catalog) (known : AreAsMade count names catalog) where
  pub borrowed_shape : (name : List ℕ) → shape names (opaque_borrowed_for name) ≡ borrowed_type Static
  borrowed_shape name =
      fold_reference (λ x. roll-NumberedType (level_shape names x)) (Named name) Immutable (type.Named path_to_opaque)
      ∙ ap (λ t. roll-NumberedType (NumberedType-F.Reference Static Immutable t))
      (fold_named (λ x. roll-NumberedType (level_shape names x)) path_to_opaque
      ∙ ap (λ found. roll-NumberedType (target_shape (type_found found) (λ t. NumberedType-F.Named t))) known.opaque_named)

  pub struct_shape : (k : ℕ) → k < count → shape names (struct_by_value k) ≡ struct_type k []
  struct_shape k within =
      fold_named (λ x. roll-NumberedType (level_shape names x)) (path_to_struct k)
      ∙ ap (λ found. roll-NumberedType (target_shape (type_found found) (λ t. NumberedType-F.Named t))) (known.struct_named k within)

  -- ---- fields

  pub fields_filled : (first : Bool) (k : ℕ) → k < count → filled_fields names (struct_if first k) (numbers_if first) ≡ types_if first k
  fields_filled true k within =
      let first = fill_type (borrowed_type Static) in
      ap (λ t. (fill_each (fill_type t ∷ []) (numbers_if true)).0) (borrowed_shape (codes "a"))
      ∙ ap (λ filled. filled.0) (fill_next first [] (numbers_if true) [] (borrowed_type (NonStatic 0)) (borrowed_filled (NonStatic 0) []))
  fields_filled false k within =
      let last : NumberLists = (NonStatic 0 ∷ []) ∷ [] in
      let first = fill_type (borrowed_type Static) in
      let second = fill_type (struct_type (k - 1) []) in
      ap (λ t. (fill_each (fill_type t ∷ fill_type (shape names (struct_by_value (k - 1))) ∷ []) (numbers_if false)).0) (borrowed_shape (codes "a"))
      ∙ ap (λ t. (fill_each (first ∷ fill_type t ∷ []) (numbers_if false)).0) (struct_shape (k - 1) (omega arith))
      ∙ ap (λ filled. filled.0)
      (fill_next first (second ∷ []) (numbers_if false) last (borrowed_type (NonStatic 0)) (borrowed_filled (NonStatic 0) last))
      ∙ ap (λ filled. borrowed_type (NonStatic 0) ∷ filled.0)
      (fill_next second [] last [] (struct_type (k - 1) (NonStatic 0 ∷ [])) (struct_filled (k - 1) (NonStatic 0 ∷ []) []))

  -- ---- parameters, and what is returned

  -- the shapes of parameters
  abbrev pub shapes : List Param → List NumberedType
  shapes params = map (λ param. shape names param.ty) params

  -- what is left for the return
  abbrev returned_numbers : NumberLists
  returned_numbers = (NonStatic 0 ∷ []) ∷ [] ∷ []

  params_filled : (k : ℕ) → k < count
      → fill_each (map fill_type (shapes (without_writer (params_of k)))) function_numbers ≡ (param_types k, returned_numbers)
  params_filled k within =
      let after : NumberLists = (NonStatic 1 ∷ []) ∷ [] ∷ returned_numbers in
      let first = fill_type (struct_type k []) in
      let second = fill_type (borrowed_type Static) in
      ap (λ params. fill_each (map fill_type (shapes params)) function_numbers) (no_writer k)
      ∙ ap (λ t. fill_each (fill_type t ∷ fill_type (shape names (opaque_borrowed_for (codes "b"))) ∷ []) function_numbers) (struct_shape k within)
      ∙ ap (λ t. fill_each (first ∷ fill_type t ∷ []) function_numbers) (borrowed_shape (codes "b"))
      ∙ fill_next first (second ∷ []) function_numbers after (struct_type k (NonStatic 0 ∷ [])) (struct_filled k (NonStatic 0 ∷ []) after)
      ∙ ap (then_made (λ ts. struct_type k (NonStatic 0 ∷ []) ∷ ts))
      (fill_next second [] after returned_numbers (borrowed_type (NonStatic 1)) (borrowed_filled (NonStatic 1) returned_numbers))

  returned_filled : (name : List ℕ) → fill_type (shape names (opaque_borrowed_for name)) returned_numbers ≡ (borrowed_type (NonStatic 0), [])
  returned_filled name = ap (λ t. fill_type t returned_numbers) (borrowed_shape name) ∙ borrowed_filled (NonStatic 0) []

  -- ---- functions

  abbrev pub lifetimes_of : ℕ → Environment
  lifetimes_of k = environment_of (signature_with two_lifetimes (function_uses names (function_numbered k)))

  pub function_filled : (k : ℕ) → k < count
      → filled_function names (function_numbered k) function_numbers
      ≡ numbered_with (lifetimes_of k) (param_types k) (Some (borrowed_type (NonStatic 0)))
  function_filled k within =
      let returned = Some (shape names (opaque_borrowed_for (codes "a"))) in
      ap (λ filled. numbered_with (lifetimes_of k) filled.0 (fill_output returned filled.1).0) (params_filled k within)
      ∙ ap (λ filled. numbered_with (lifetimes_of k) (param_types k) (Some filled.0)) (returned_filled (codes "a"))
