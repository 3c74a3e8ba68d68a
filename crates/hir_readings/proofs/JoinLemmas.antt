-- Parts of declarations that are joined with what their numbered types stand for.
use Rattle.std.proofs.Common.{◌≡◌, ℕ, zero, suc, List, [], ◌∷◌, map, Option, Some, None, refl, ap, subst, ◌∙◌}
use Rattle.std.specs.Prelude.{IfSome, option_map, slice_get}
use Rattle.std.specs.List.{AllZip}
use Rattle.std.proofs.lemmas.Option.{none-some, same_Some}
use Rattle.hir_form.specs.ParamForms.{all_given}
use Rattle.hir_number.specs.Shapes.{NumberLists}
use Rattle.hir_number.specs.declared.numbered.NumberedType.{NumberedType}
use Rattle.hir_stages.specs.Filling.{fill_each, fill_type}

-- ---- types that are filled with numbers

module _ {D T Y : Type 0} (bare : D → NumberedType) (form : NumberedType → Option T) (read : T → Y) (of : NumberedType → Y)
    (makes : (ty : NumberedType) → IfSome (form ty) (λ t. read t ≡ of ty))
    (joined : List D → List T → List Y) (none : joined [] [] ≡ []) (more : (x : D) (xs : List D) (t : T) (ts : List T) → joined (x ∷ xs) (t ∷ ts) ≡ read t ∷ joined xs ts)
  where
    abbrev filled : List D → NumberLists → List NumberedType
    filled xs ns = (fill_each (map fill_type (map bare xs)) ns).0

    abbrev AreJoined : List D → NumberLists → Type 0
    AreJoined xs ns = (ts : List T) → all_given (map form (filled xs ns)) ≡ Some ts → joined xs ts ≡ map of (filled xs ns)

    next_joined : (x : D) (xs : List D) (ns left : NumberLists) (t : T) → read t ≡ of (fill_type (bare x) ns).0 → AreJoined xs left
        → (rest : Option (List T)) → all_given (map form (filled xs left)) ≡ rest → (ts : List T) → option_map (λ others. t ∷ others) rest ≡ Some ts
        → joined (x ∷ xs) ts ≡ of (fill_type (bare x) ns).0 ∷ map of (filled xs left)
    next_joined x xs ns left t here later None is ts all = absurd (none-some ts all)
    next_joined x xs ns left t here later (Some others) is ts all =
        subst (λ us. joined (x ∷ xs) us ≡ of (fill_type (bare x) ns).0 ∷ map of (filled xs left)) (same_Some (t ∷ others) ts all)
        (more x xs t others ∙ ap (λ y. y ∷ joined xs others) here ∙ ap (λ ys. of (fill_type (bare x) ns).0 ∷ ys) (later others is))

    first_joined : (x : D) (xs : List D) (ns left : NumberLists) (o : Option T) → IfSome o (λ t. read t ≡ of (fill_type (bare x) ns).0) → AreJoined xs left
        → (ts : List T) → all_given (o ∷ map form (filled xs left)) ≡ Some ts → joined (x ∷ xs) ts ≡ of (fill_type (bare x) ns).0 ∷ map of (filled xs left)
    first_joined x xs ns left None here later ts all = absurd (none-some ts all)
    first_joined x xs ns left (Some t) here later ts all = next_joined x xs ns left t here later (all_given (map form (filled xs left))) refl ts all

    pub all_joined : (xs : List D) (ns : NumberLists) → AreJoined xs ns
    all_joined [] ns ts all = subst (λ us. joined [] us ≡ []) (same_Some [] ts all) none
    all_joined (x ∷ xs) ns ts all =
        first_joined x xs ns (fill_type (bare x) ns).1 (form (fill_type (bare x) ns).0) (makes (fill_type (bare x) ns).0) (all_joined xs (fill_type (bare x) ns).1) ts all

-- ---- what is made of each of a list

pub all_zipped : {X D : Type 0} (form : X → Option D) (R : D → X → Type 0) → ((x : X) → IfSome (form x) (λ d. R d x)) → (xs : List X) → IfSome (all_given (map form xs)) (λ ds. AllZip R ds xs)
all_zipped form R makes [] = tt
all_zipped {X} {D} form R makes (x ∷ xs) = first (form x) (makes x) (all_zipped form R makes xs) where
  rest : (d : D) → R d x → (o : Option (List D)) → IfSome o (λ ds. AllZip R ds xs) → IfSome (option_map (λ others. d ∷ others) o) (λ ds. AllZip R ds (x ∷ xs))
  rest d here None later = tt
  rest d here (Some ds) later = (here, later)

  first : (o : Option D) → IfSome o (λ d. R d x) → IfSome (all_given (map form xs)) (λ ds. AllZip R ds xs) → IfSome (all_given (o ∷ map form xs)) (λ ds. AllZip R ds (x ∷ xs))
  first None here later = tt
  first (Some d) here later = rest d here (all_given (map form xs)) later

-- of a list that is known to be made
pub known_made : {A : Type 0} (P : A → Type 0) (o : Option A) (a : A) → o ≡ Some a → IfSome o P → P a
known_made P o a is h = subst (λ p. IfSome p P) is h

-- what stands beside what is at a place
pub zipped_at : {A B : Type 0} (R : A → B → Type 0) (xs : List A) (ys : List B) → AllZip R xs ys → (n : ℕ) (y : B) → slice_get ys n ≡ Some y → (x : A) × ((slice_get xs n ≡ Some x) × R x y)
zipped_at R [] [] all n y is = absurd (none-some y is)
zipped_at R [] (z ∷ zs) all n y is = absurd all
zipped_at R (x ∷ xs) [] all n y is = absurd all
zipped_at R (x ∷ xs) (z ∷ zs) all zero y is = (x, (refl, subst (R x) (same_Some z y is) all.0))
zipped_at R (x ∷ xs) (z ∷ zs) all (suc n) y is = zipped_at R xs zs all.1 n y is

pub zipped_more : {A B : Type 0} (R S : A → B → Type 0) → ((a : A) (b : B) → R a b → S a b) → (xs : List A) (ys : List B) → AllZip R xs ys → AllZip S xs ys
zipped_more R S so [] [] all = tt
zipped_more R S so [] (y ∷ ys) all = absurd all
zipped_more R S so (x ∷ xs) [] all = absurd all
zipped_more R S so (x ∷ xs) (y ∷ ys) all = (so x y all.0, zipped_more R S so xs ys all.1)
