-- What holds of each element of lists, and of what is made where there is anything.
use Rattle.std.proofs.Common.{◌≡◌, refl, sym, subst, List, [], ◌∷◌, ◌++◌, map, Option, Some, None}
use Rattle.std.specs.Prelude.{IfSome, option_map}
use Rattle.std.specs.List.{All, flat_map}
use Rattle.std.proofs.lemmas.List.Elements.{All-cons, All-head, All-nil, All-tail}
use Rattle.hir_elide.proofs.BelowLemmas.{Each}
use Rattle.hir_form.specs.ParamForms.{all_given}
use Rattle.hir_form.specs.ReturnForms.{both_given}
use Rattle.hir_number.specs.Uses.{concatenated}
use Rattle.hir_number.proofs.FaultLemmas.{each_both}

pub each_from_all : {A : Type 0} (P : A → Type 0) (xs : List A) → All P xs → Each P xs
each_from_all P [] all = tt
each_from_all P (x ∷ xs) all = (All-head P x xs all, each_from_all P xs (All-tail P x xs all))

pub each_front : {A : Type 0} (P : A → Type 0) (xs ys : List A) → Each P (xs ++ ys) → Each P xs
each_front P [] ys h = tt
each_front P (x ∷ xs) ys h = (h.0, each_front P xs ys h.1)

pub each_back : {A : Type 0} (P : A → Type 0) (xs ys : List A) → Each P (xs ++ ys) → Each P ys
each_back P [] ys h = h
each_back P (x ∷ xs) ys h = each_back P xs ys h.1

-- with nothing behind
pub each_alone : {A : Type 0} (P : A → Type 0) (xs : List A) → Each P xs → Each P (xs ++ [])
each_alone P xs h = each_both P xs [] h tt

-- ---- what is made where there is anything

pub if_made : {A B : Type 0} (Q : A → Type 0) (P : B → Type 0) (f : A → B) → ((a : A) → Q a → P (f a)) → (x : Option A) → IfSome x Q → IfSome (option_map f x) P
if_made Q P f makes (Some a) h = makes a h
if_made Q P f makes None h = tt

pub if_both : {A B C : Type 0} (Q : A → Type 0) (R : B → Type 0) (P : C → Type 0) (f : A → B → C) → ((a : A) (b : B) → Q a → R b → P (f a b))
    → (x : Option A) (y : Option B) → IfSome x Q → IfSome y R → IfSome (both_given f x y) P
if_both Q R P f makes (Some a) (Some b) h k = makes a b h k
if_both Q R P f makes (Some a) None h k = tt
if_both Q R P f makes None y h k = tt

-- all forms, of whose parts a fact holds, where it holds of those of each
module _ {A B N M : Type 0} (Known : N → Type 0) (Good : M → Type 0) (names : A → List N) (form : A → Option B) (parts : B → List M)
    (makes : (x : A) → Each Known (names x) → IfSome (form x) (λ b. Each Good (parts b)))
  where
    next_made : (b : B) (rest : Option (List B)) → Each Good (parts b) → IfSome rest (λ bs. Each Good (flat_map parts bs))
        → IfSome (option_map (λ bs. b ∷ bs) rest) (λ bs. Each Good (flat_map parts bs))
    next_made b (Some bs) h k = each_both Good (parts b) (flat_map parts bs) h k
    next_made b None h k = tt

    one_more : (first : Option B) (rest : List (Option B)) → IfSome first (λ b. Each Good (parts b)) → IfSome (all_given rest) (λ bs. Each Good (flat_map parts bs))
        → IfSome (all_given (first ∷ rest)) (λ bs. Each Good (flat_map parts bs))
    one_more (Some b) rest h k = next_made b (all_given rest) h k
    one_more None rest h k = tt

    pub all_made : (xs : List A) → Each Known (concatenated (map names xs)) → IfSome (all_given (map form xs)) (λ bs. Each Good (flat_map parts bs))
    all_made [] h = tt
    all_made (x ∷ xs) h =
        one_more (form x) (map form xs) (makes x (each_front Known (names x) (concatenated (map names xs)) h))
        (all_made xs (each_back Known (names x) (concatenated (map names xs)) h))

-- all of which a list is made, where a fact holds of each
module _ {A B : Type 0} (P : B → Type 0) (form : A → Option B) (makes : (x : A) → IfSome (form x) P) where
  more_given : (first : Option B) (rest : Option (List B)) (given : List (Option B)) → all_given given ≡ rest → IfSome first P → IfSome rest (All P) → IfSome (all_given (first ∷ given)) (All P)
  more_given (Some b) (Some bs) given is h k = subst (λ r. IfSome (option_map (λ more. b ∷ more) r) (All P)) (sym is) (All-cons P b bs h k)
  more_given (Some b) None given is h k = subst (λ r. IfSome (option_map (λ more. b ∷ more) r) (All P)) (sym is) tt
  more_given None rest given is h k = tt

  pub given_all : (xs : List A) → IfSome (all_given (map form xs)) (All P)
  given_all [] = All-nil P
  given_all (x ∷ xs) = more_given (form x) (all_given (map form xs)) (map form xs) refl (makes x) (given_all xs)
