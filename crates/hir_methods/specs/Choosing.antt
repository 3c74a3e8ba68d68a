-- What is made of several parts, some of which may be absent.
use Rattle.std.specs.Prelude.{List, [], ◌∷◌, ◌++◌, Bool, Option, None, if◌then◌else◌, Result, Ok, Err}
use Rattle.hir_form.specs.ReturnForms.{both_given}

-- both, where there are both
abbrev pub paired : {A B : Type 0} → Option A → Option B → Option (A × B)
paired first second = both_given (λ a b. (a, b)) first second

-- with what is made next, unless there was no memory for that
abbrev pub beside : {A B E : Type 0} → Option A → Result (Option B) E → Result (Option (A × B)) E
beside first (Ok second) = Ok (paired first second)
beside first (Err e) = Err e

-- a list and one more, where there are both
abbrev pub kept_with : {A : Type 0} → Option (List A) → Option A → Option (List A)
kept_with items item = both_given (λ xs x. xs ++ x ∷ []) items item

-- what is made, if it stays
abbrev pub kept_if : {A : Type 0} → Bool → Option A → Option A
kept_if stays made = if stays then made else None
