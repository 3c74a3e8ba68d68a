-- A loop that tells what is wrong with each element of a list, and makes a list of what they stand for.
use Rattle.std.proofs.Common.{◌≡◌, ℕ, ◌+◌, ◌<◌, ◌≤◌, List, [], ◌∷◌, ◌++◌, length, length-append, map, take, get_or, Option, Some, None, refl, sym, ap, subst, ◌∙◌}
use Rattle.std.specs.Prelude.{IfSome, IsSome, option_map}
use Rattle.std.specs.List.{flat_map}
use Rattle.std.proofs.lemmas.List.{flat_map_more, map-append, take_all, take_more}
use Rattle.hir_form.specs.ParamForms.{all_given}
use Rattle.hir_reports.proofs.StoreLaws.{added_nothing, added_step}
use Rattle.hir_reports.specs.Store.{Held, Keeps, added}
use Rattle.hir_reports.specs.declared.report.LoweringError.{LoweringError}
use Rattle.hir_fields.specs.Told.{StandsUnlessTold}
use Rattle.hir_heads.specs.Told.{MadeUnlessTold}
use Rattle.hir_fields.specs.inside.Gathering.{given_after}

-- where two lists together have nothing, neither has
pub front_none : {A : Type 0} (xs ys : List A) → xs ++ ys ≡ [] → xs ≡ []
front_none [] ys h = refl
front_none (x ∷ xs) ys h = absurd cc

pub back_none : {A : Type 0} (xs ys : List A) → xs ++ ys ≡ [] → ys ≡ []
back_none [] ys h = h
back_none (x ∷ xs) ys h = absurd cc

-- all of one more
consed : {A : Type 0} (x : A) (xs : Option (List A)) (next : Option A)
    → option_map (λ rest. x ∷ rest) (given_after xs next) ≡ given_after (option_map (λ rest. x ∷ rest) xs) next
consed x None next = refl
consed x (Some xs) None = refl
consed x (Some xs) (Some next) = refl

all_given_more : {A : Type 0} (xs : List (Option A)) (next : Option A) → all_given (xs ++ next ∷ []) ≡ given_after (all_given xs) next
all_given_more [] None = refl
all_given_more [] (Some next) = refl
all_given_more (None ∷ xs) next = refl
all_given_more (Some x ∷ xs) next = ap (option_map (λ rest. x ∷ rest)) (all_given_more xs next) ∙ consed x (all_given xs) next

some_after : {A : Type 0} (made : Option (List A)) (next : Option A) → IsSome made → IsSome next → IsSome (given_after made next)
some_after (Some xs) (Some x) _ _ = refl
some_after None next h _ = absurd cc
some_after (Some xs) None _ h = absurd cc

long_after : {A : Type 0} (made : Option (List A)) (next : Option A) (n : ℕ) → IfSome made (λ parts. length parts ≡ n)
    → IfSome (given_after made next) (λ parts. length parts ≡ n + 1)
long_after None next n h = tt
long_after (Some xs) None n h = tt
long_after (Some xs) (Some x) n h = length-append xs (x ∷ []) ∙ ap (λ k. k + 1) h

module _ {X A : Type 0} (told : X → List LoweringError) (form : X → Option A) where
  -- so far the first elements are told and made
  pub record SoFar (xs : List X) (i : ℕ) (start now : Held) (made : Option (List A)) : Type 0 where
    pub errors : now ≡ added start (flat_map told (take i xs))
    pub given : StandsUnlessTold (flat_map told (take i xs)) (all_given (map form (take i xs))) made
    pub each : IfSome made (λ parts. length parts ≡ length (take i xs))
    pub kept : (earlier : Held) → Keeps earlier start → Keeps earlier now

  pub begins : (xs : List X) (start : Held) → SoFar xs 0 start start (Some [])
  begins xs start = record { errors = added_nothing start; given = λ _. (refl, refl); each = refl; kept = λ _ keeps. keeps }

  told_more : (xs : List X) (i : ℕ) (d : X) → i < length xs → flat_map told (take (i + 1) xs) ≡ flat_map told (take i xs) ++ told (get_or xs i d)
  told_more xs i d within = ap (flat_map told) (take_more xs i d within) ∙ sym (flat_map_more told [] (take i xs) (get_or xs i d))

  given_more : (xs : List X) (i : ℕ) (d : X) → i < length xs
      → all_given (map form (take (i + 1) xs)) ≡ given_after (all_given (map form (take i xs))) (form (get_or xs i d))
  given_more xs i d within =
      ap (λ ys. all_given (map form ys)) (take_more xs i d within) ∙ ap all_given (map-append form (take i xs) (get_or xs i d ∷ []))
      ∙ all_given_more (map form (take i xs)) (form (get_or xs i d))

  pub goes_on : (xs : List X) (i : ℕ) (d : X) (start old new : Held) (made : Option (List A)) (next : Option A) → SoFar xs i start old made → i < length xs
      → new ≡ added old (told (get_or xs i d)) → StandsUnlessTold (told (get_or xs i d)) (form (get_or xs i d)) next
      → ((earlier : Held) → Keeps earlier old → Keeps earlier new) → SoFar xs (i + 1) start new (given_after made next)
  goes_on xs i d start old new made next so within step is keeps = record {
    errors = added_step told start old new xs i d within so.errors step;
    given = λ none.
        let both = sym (told_more xs i d within) ∙ none in
        let before = so.given (front_none (flat_map told (take i xs)) (told (get_or xs i d)) both) in
        let here = is (back_none (flat_map told (take i xs)) (told (get_or xs i d)) both) in (
          some_after made next before.0 here.0,
          given_more xs i d within ∙ ap (λ m. given_after m (form (get_or xs i d))) before.1 ∙ ap (given_after made) here.1,
        );
    each =
        subst (λ k. IfSome (given_after made next) (λ parts. length parts ≡ k))
        (sym (ap length (take_more xs i d within) ∙ length-append (take i xs) (get_or xs i d ∷ [])))
        (long_after made next (length (take i xs)) so.each);
    kept = λ earlier held. keeps earlier (so.kept earlier held);
  }

  -- so, where the element is lent and the list grows by a call
  pub goes_on_at : (xs : List X) (i : ℕ) (x : X) (start old new : Held) (made after : Option (List A)) (next : Option A) → SoFar xs i start old made → i < length xs
      → x ≡ get_or xs i x → new ≡ added old (told x) → StandsUnlessTold (told x) (form x) next → ((earlier : Held) → Keeps earlier old → Keeps earlier new)
      → after ≡ given_after made next → SoFar xs (i + 1) start new after
  goes_on_at xs i x start old new made after next so within is step given keeps grown =
      subst (SoFar xs (i + 1) start new) (sym grown)
      (goes_on xs i x start old new made next so within (subst (λ y. new ≡ added old (told y)) is step) (subst (λ y. StandsUnlessTold (told y) (form y) next) is given) keeps)

  -- all is told
  pub ends : (xs : List X) (i : ℕ) (start now : Held) (made : Option (List A)) → SoFar xs i start now made → length xs ≤ i → now ≡ added start (flat_map told xs)
  ends xs i start now made so past = so.errors ∙ ap (λ ys. added start (flat_map told ys)) (take_all i xs past)

  pub ends_each : (xs : List X) (i : ℕ) (start now : Held) (made : Option (List A)) → SoFar xs i start now made → length xs ≤ i
      → IfSome made (λ parts. length parts ≡ length xs)
  ends_each xs i start now made so past = subst (λ ys. IfSome made (λ parts. length parts ≡ length ys)) (take_all i xs past) so.each

  pub ends_given : (xs : List X) (i : ℕ) (start now : Held) (made : Option (List A)) → SoFar xs i start now made → length xs ≤ i
      → StandsUnlessTold (flat_map told xs) (all_given (map form xs)) made
  ends_given xs i start now made so past = subst (λ ys. StandsUnlessTold (flat_map told ys) (all_given (map form ys)) made) (take_all i xs past) so.given

-- where each element stands for something
all_some : {X A : Type 0} (form : X → A) (xs : List X) → all_given (map (λ x. Some (form x)) xs) ≡ Some (map form xs)
all_some form [] = refl
all_some form (x ∷ xs) = ap (option_map (λ rest. form x ∷ rest)) (all_some form xs)

pub given_made : {A : Type 0} (errors : List LoweringError) (form : A) (made : Option A) → MadeUnlessTold errors form made → StandsUnlessTold errors (Some form) made
given_made errors form made is = λ none. (subst IsSome (sym (is none)) refl, sym (is none))

pub ends_made : {X A : Type 0} (told : X → List LoweringError) (form : X → A) (xs : List X) (i : ℕ) (start now : Held) (made : Option (List A))
    → SoFar told (λ x. Some (form x)) xs i start now made → length xs ≤ i → MadeUnlessTold (flat_map told xs) (map form xs) made
ends_made told form xs i start now made so past =
    λ none. sym (ends_given told (λ x. Some (form x)) xs i start now made so past none).1 ∙ all_some form xs
