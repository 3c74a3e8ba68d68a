-- What fits has no misfit, and what has none fits.
use Rattle.std.proofs.Common.{◌≡◌, ◌⊎◌, ◌↔◌, inl, inr, ℕ, ◌<◌, List, [], ◌∷◌, length, Option, Some, None, refl, sym, ap, subst, ◌∙◌, arith}
use Rattle.std.proofs.lemmas.Bool.{cases_lt}
use Rattle.std.proofs.lemmas.List.Elements.{All-nil, All-cons}
use Rattle.std.proofs.lemmas.Option.{slice_get_within, slice_get-get_or}
use Rattle.hir_life.specs.Substitution.{IsBelow}
use Rattle.hir_life.specs.declared.maybe_static.MaybeStatic.{MaybeStatic}
use Rattle.hir_life.specs.declared.maybe_static.MaybeStatic.TheVariants.{Static, NonStatic}
use Rattle.hir_ids.specs.declared.ids.SymbolId.{SymbolId}
use Rattle.hir_ids.specs.declared.ids.SymbolId.TheVariants as symbol
use Rattle.hir_ids.specs.declared.ids.TypeId.TheVariants as type
use Rattle.hir_mentions.specs.Mentions.{Mentioned, Path, Plain, Borrow}
use Rattle.hir_fitting.specs.Census.{IsThere, arity_in, none_within}
use Rattle.hir_fitting.specs.Fitting.{IsKnown, Fits, Misfits, OutOfRange, OfOtherArity, OutsideOfEnvironment}
use Rattle.hir_fitting.specs.Parts.{Part, PartFits, PartMisfits, DefinitionFits, DefinitionMisfits}
use Rattle.hir_fitting.specs.declared.census.Census.{Census}
use Rattle.hir_fitting.proofs.Anywhere.{any_here, all_or_any, all_not_any}

-- a value is no want of one, and is one value
none_is_no_some : {A : Type 0} {x : A} → None ≡ Some x → ⊥
none_is_no_some h = cc

same_some : {A : Type 0} {x y : A} → Some x ≡ Some y → x ≡ y
same_some h = cc

-- what has an arity is there
none_is_within : (count place n : ℕ) → none_within count place ≡ Some n → place < count
none_is_within count place n h = elim (cases_lt place count) [ inl lt ↦ lt | inr ge ↦ grind arith ]

within_is_some : (count place : ℕ) → place < count → none_within count place ≡ Some 0
within_is_some count place lt = grind arith

pub there_from_arity : (census : Census) (id : SymbolId) (n : ℕ) → arity_in census id ≡ Some n → IsThere census id
there_from_arity census (symbol.TypeId (type.OutStruct place)) n h = slice_get_within census.out_structs place n h
there_from_arity census (symbol.TypeId (type.Struct place)) n h = slice_get_within census.structs place n h
there_from_arity census (symbol.TypeId (type.Opaque place)) n h = slice_get_within census.opaques place n h
there_from_arity census (symbol.TypeId (type.Enum place)) n h = none_is_within census.enums place n h
there_from_arity census (symbol.TraitId place) n h = slice_get_within census.traits place n h
there_from_arity census (symbol.FunctionId place) n h = none_is_within census.functions place n h

-- what is there has an arity
pub arity_from_there : (census : Census) (id : SymbolId) → IsThere census id → (n : ℕ) × (arity_in census id ≡ Some n)
arity_from_there census (symbol.TypeId (type.OutStruct place)) h = (_, slice_get-get_or census.out_structs place 0 h)
arity_from_there census (symbol.TypeId (type.Struct place)) h = (_, slice_get-get_or census.structs place 0 h)
arity_from_there census (symbol.TypeId (type.Opaque place)) h = (_, slice_get-get_or census.opaques place 0 h)
arity_from_there census (symbol.TypeId (type.Enum place)) h = (0, within_is_some census.enums place h)
arity_from_there census (symbol.TraitId place) h = (_, slice_get-get_or census.traits place 0 h)
arity_from_there census (symbol.FunctionId place) h = (0, within_is_some census.functions place h)

pub not_there : (census : Census) (id : SymbolId) → arity_in census id ≡ None → ¬ IsThere census id
not_there census id none there = let some = arity_from_there census id there in absurd (none_is_no_some (sym none ∙ some.1))

-- a lifetime is known or isn't
below_or_not : (count : ℕ) (l : MaybeStatic ℕ) → IsBelow count l ⊎ (Unit {0} × (¬ IsBelow count l))
below_or_not count Static = inl tt
below_or_not count (NonStatic l) = elim (cases_lt l count) [ inl lt ↦ inl lt | inr ge ↦ inr (tt, λ lt. omega arith) ]

known_or_not : (count : Option ℕ) (l : MaybeStatic ℕ) → IsKnown count l ⊎ (Unit {0} × (¬ IsKnown count l))
known_or_not None l = inl tt
known_or_not (Some count) l = below_or_not count l

module _ (census : Census) (count : Option ℕ) (holder : SymbolId) where
  -- what is decided of a mention
  abbrev pub Decided : Mentioned → Type 0
  Decided m = Fits census count m ⊎ ((named : SymbolId) × Misfits census count holder m named)

  path_known : (id : SymbolId) (lifetimes : List (MaybeStatic ℕ)) → arity_in census id ≡ Some (length lifetimes) → Decided (Path id lifetimes)
  path_known id lifetimes same =
      elim (all_or_any (IsKnown count) (λ l (_ : Unit {0}). ¬ IsKnown count l) (known_or_not count) lifetimes) [
        | inl all ↦ inl (same, all)
        | inr any ↦ inr (holder, OutsideOfEnvironment refl any.1)
      ]

  path_counted : (id : SymbolId) (lifetimes : List (MaybeStatic ℕ)) (arity : ℕ) → arity_in census id ≡ Some arity → Decided (Path id lifetimes)
  path_counted id lifetimes arity is =
      elim (cases_lt arity (length lifetimes)) [
        | inl less ↦ inr (id, OfOtherArity refl refl is (λ e. omega arith))
        | inr ge ↦ elim (cases_lt (length lifetimes) arity) [
          | inl more ↦ inr (id, OfOtherArity refl refl is (λ e. omega arith))
          | inr le ↦ let e : arity ≡ length lifetimes = omega arith in path_known id lifetimes (is ∙ ap (λ n. Some n) e)
        ]
      ]

  path_decided : (id : SymbolId) (lifetimes : List (MaybeStatic ℕ)) (r : Option ℕ) → arity_in census id ≡ r → Decided (Path id lifetimes)
  path_decided id lifetimes None is = inr (id, OutOfRange refl (not_there census id is))
  path_decided id lifetimes (Some arity) is = path_counted id lifetimes arity is

  plain_decided : (id : SymbolId) (r : Option ℕ) → arity_in census id ≡ r → Decided (Plain id)
  plain_decided id None is = inr (id, OutOfRange refl (not_there census id is))
  plain_decided id (Some arity) is = inl (there_from_arity census id arity is)

  borrow_decided : (l : MaybeStatic ℕ) → IsKnown count l ⊎ (Unit {0} × (¬ IsKnown count l)) → Decided (Borrow l)
  borrow_decided l (inl known) = inl known
  borrow_decided l (inr unknown) = inr (holder, OutsideOfEnvironment refl (any_here (λ k. ¬ IsKnown count k) l [] unknown.1))

  pub decided : (m : Mentioned) → Decided m
  decided (Path id lifetimes) = path_decided id lifetimes (arity_in census id) refl
  decided (Plain id) = plain_decided id (arity_in census id) refl
  decided (Borrow l) = borrow_decided l (known_or_not count l)

  -- what fits has no misfit
  path_fits : (id : SymbolId) (lifetimes : List (MaybeStatic ℕ)) (named : SymbolId) → Fits census count (Path id lifetimes) → ¬ Misfits census count holder (Path id lifetimes) named
  path_fits id lifetimes named fits (OutOfRange is none) =
      none (subst (IsThere census) (same_some is) (there_from_arity census id (length lifetimes) fits.0))
  path_fits id lifetimes named fits (OfOtherArity {lifetimes = given} {arity = arity} is gives has other) =
      let same : arity ≡ length lifetimes = same_some (sym has ∙ ap (arity_in census) (sym (same_some is)) ∙ fits.0) in
      other (same ∙ ap (λ ls. length ls) (same_some gives))
  path_fits id lifetimes named fits (OutsideOfEnvironment is any) =
      all_not_any (IsKnown count) (λ l. ¬ IsKnown count l) (λ l known unknown. unknown known) lifetimes fits.1 any

  plain_fits : (id named : SymbolId) → Fits census count (Plain id) → ¬ Misfits census count holder (Plain id) named
  plain_fits id named fits (OutOfRange is none) = none (subst (IsThere census) (same_some is) fits)
  plain_fits id named fits (OfOtherArity is gives has other) = absurd (none_is_no_some gives)
  plain_fits id named fits (OutsideOfEnvironment is any) = let lt = any.2 in omega arith

  borrow_fits : (l : MaybeStatic ℕ) (named : SymbolId) → Fits census count (Borrow l) → ¬ Misfits census count holder (Borrow l) named
  borrow_fits l named fits (OutOfRange is none) = absurd (none_is_no_some is)
  borrow_fits l named fits (OfOtherArity is gives has other) = absurd (none_is_no_some is)
  borrow_fits l named fits (OutsideOfEnvironment is any) =
      all_not_any (IsKnown count) (λ k. ¬ IsKnown count k) (λ k known unknown. unknown known) (l ∷ []) (All-cons (IsKnown count) l [] fits (All-nil (IsKnown count))) any

  pub fits_only : (m : Mentioned) (named : SymbolId) → Fits census count m → ¬ Misfits census count holder m named
  fits_only (Path id lifetimes) named fits = path_fits id lifetimes named fits
  fits_only (Plain id) named fits = plain_fits id named fits
  fits_only (Borrow l) named fits = borrow_fits l named fits

  -- both ways
  pub mention_fits : (m : Mentioned) → (Fits census count m ↔ ((named : SymbolId) → ¬ Misfits census count holder m named))
  mention_fits m = (
    λ fits named. fits_only m named fits,
    λ none. elim (decided m) [ inl fits ↦ fits | inr some ↦ absurd (none some.0 some.1) ],
  )

module _ (census : Census) (holder : SymbolId) where
  part_decided : (part : Part) → PartFits census part ⊎ ((named : SymbolId) × PartMisfits census holder part named)
  part_decided part = all_or_any (Fits census part.lifetimes) (λ m named. Misfits census part.lifetimes holder m named) (decided census part.lifetimes holder) part.mentions

  part_fits_only : (part : Part) (named : SymbolId) → PartFits census part → ¬ PartMisfits census holder part named
  part_fits_only part named =
      all_not_any (Fits census part.lifetimes) (λ m. Misfits census part.lifetimes holder m named) (λ m fits. fits_only census part.lifetimes holder m named fits) part.mentions

  pub parts_fit_only : (parts : List Part) (named : SymbolId) → DefinitionFits census parts → ¬ DefinitionMisfits census holder parts named
  parts_fit_only parts named =
      all_not_any (PartFits census) (λ part. PartMisfits census holder part named) (λ part fits. part_fits_only part named fits) parts

  pub definition_fits : (parts : List Part) → (DefinitionFits census parts ↔ ((named : SymbolId) → ¬ DefinitionMisfits census holder parts named))
  definition_fits parts = (
    λ fits named. parts_fit_only parts named fits,
    λ none. elim (all_or_any (PartFits census) (PartMisfits census holder) part_decided parts) [ inl fits ↦ fits | inr some ↦ absurd (none some.0 some.1) ],
  )
