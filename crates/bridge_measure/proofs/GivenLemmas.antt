-- What holds of each element of a list that is made of others.
use Rattle.std.proofs.Common.{◌≡◌, ℕ, ◌+◌, List, [], ◌∷◌, Bool, true, false, Option, None, Some, map, refl, subst}
use Rattle.std.specs.Prelude.{option_map, if◌then◌else◌}
use Rattle.std.specs.List.{All, enumerate_from, zip}
use Rattle.std.proofs.lemmas.List.Elements.{All-cons, All-head, All-nil, All-tail}
use Rattle.hir_definitions.specs.declared.usage.TypingUseInfo.{TypingUseInfo}
use Rattle.hir_form.specs.ParamForms.{all_given}
use Rattle.hir_form.specs.ReturnForms.{both_given}
use Rattle.hir_methods.specs.Joining.{completed}
use Rattle.hir_usage_notes.specs.Notes.{each_used}

-- ---- what there is

pub none_never : {A B : Type 0} (x : A) → None ≡ Some x → B
none_never x is = cc

pub same_some : {A : Type 0} (x y : A) → Some x ≡ Some y → x ≡ y
same_some x y is = cc

-- what is made of what there is
pub mapped : {A B : Type 0} (P : B → Type 0) (f : A → B) (o : Option A) → ((a : A) → o ≡ Some a → P (f a))
    → (b : B) → option_map f o ≡ Some b → P b
mapped P f None each b is = none_never b is
mapped P f (Some a) each b is = subst P (same_some (f a) b is) (each a refl)

-- of all that are given
module _ {A B : Type 0} (P : B → Type 0) (f : A → Option B) where
  abbrev Gives : A → Type 0
  Gives x = (y : B) → f x ≡ Some y → P y

  first_given : (x : A) (others : List (Option B)) (o : Option B) → Gives x → f x ≡ o → ((rest : List B) → all_given others ≡ Some rest → All P rest)
      → (ys : List B) → all_given (o ∷ others) ≡ Some ys → All P ys
  first_given x others None gives has later ys is = none_never ys is
  first_given x others (Some y) gives has later ys is =
      mapped (All P) (λ rest. y ∷ rest) (all_given others) (λ rest are. All-cons P y rest (gives y has) (later rest are)) ys is

  pub given_all : (xs : List A) → All Gives xs → (ys : List B) → all_given (map f xs) ≡ Some ys → All P ys
  given_all [] each ys is = subst (All P) (same_some [] ys is) (All-nil P)
  given_all (x ∷ xs) each ys is =
      first_given x (map f xs) (f x) (All-head Gives x xs each) refl (given_all xs (All-tail Gives x xs each)) ys is

-- of what all have
pub all_anyway : {A : Type 0} (P : A → Type 0) → ((x : A) → P x) → (xs : List A) → All P xs
all_anyway P each [] = All-nil P
all_anyway P each (x ∷ xs) = All-cons P x xs (each x) (all_anyway P each xs)

-- ---- lists beside one another

pub zip_all : {A B : Type 0} (P : B → Type 0) (xs : List A) (ys : List B) → All P ys → All (λ (pair : A × B). P pair.1) (zip xs ys)
zip_all {A} {B} P [] ys all = All-nil (λ (pair : A × B). P pair.1)
zip_all {A} {B} P (x ∷ xs) [] all = All-nil (λ (pair : A × B). P pair.1)
zip_all {A} {B} P (x ∷ xs) (y ∷ ys) all =
    All-cons (λ (pair : A × B). P pair.1) (x, y) (zip xs ys) (All-head P y ys all) (zip_all P xs ys (All-tail P y ys all))

pub completed_all : {A L W : Type 0} (P : L → Type 0) (Q : W → Type 0) (f : A → L → W) → ((a : A) (l : L) → P l → Q (f a l))
    → (xs : List A) (ys : List L) → All P ys → All Q (completed f xs ys)
completed_all P Q f keeps [] ys all = All-nil Q
completed_all P Q f keeps (x ∷ xs) [] all = All-nil Q
completed_all P Q f keeps (x ∷ xs) (y ∷ ys) all =
    All-cons Q (f x y) (completed f xs ys) (keeps x y (All-head P y ys all)) (completed_all P Q f keeps xs ys (All-tail P y ys all))

-- each with its number
pub numbered_all : {A : Type 0} (P : A → Type 0) (n : ℕ) (xs : List A) → All P xs → All (λ (numbered : ℕ × A). P numbered.1) (enumerate_from n xs)
numbered_all {A} P n [] all = All-nil (λ (numbered : ℕ × A). P numbered.1)
numbered_all {A} P n (x ∷ xs) all =
    All-cons (λ (numbered : ℕ × A). P numbered.1) (n, x) (enumerate_from (n + 1) xs) (All-head P x xs all) (numbered_all P (n + 1) xs (All-tail P x xs all))

-- each with how it is used
pub used_all : {D : Type 0} (P : D → Type 0) (note : TypingUseInfo → D → D) → ((usage : TypingUseInfo) (d : D) → P d → P (note usage d))
    → (usages : List TypingUseInfo) (ds : List D) → All P ds → All P (each_used note usages ds)
used_all P note keeps [] ds all = all
used_all P note keeps (usage ∷ usages) [] all = All-nil P
used_all P note keeps (usage ∷ usages) (d ∷ ds) all =
    All-cons P (note usage d) (each_used note usages ds) (keeps usage d (All-head P d ds all)) (used_all P note keeps usages ds (All-tail P d ds all))

-- ---- what is disabled

-- of two lists of which the second is empty in any case
pub joined_if : {F M D : Type 0} (P : D → Type 0) (f : List F → List M → D) (disabled : Bool) (fields : Option (List F))
    → P (f [] []) → ((fs : List F) → fields ≡ Some fs → P (f fs []))
    → (d : D) → both_given f (if disabled then Some [] else fields) (if disabled then Some [] else Some []) ≡ Some d → P d
joined_if P f true fields empty each d is = subst P (same_some (f [] []) d is) empty
joined_if P f false None empty each d is = none_never d is
joined_if P f false (Some fs) empty each d is = subst P (same_some (f fs []) d is) (each fs refl)

pub either_if : {D : Type 0} (P : D → Type 0) (disabled : Bool) (first second : D) → P first → P second
    → (d : D) → (if disabled then Some first else Some second) ≡ Some d → P d
either_if P true first second one other d is = subst P (same_some first d is) one
either_if P false first second one other d is = subst P (same_some second d is) other
