-- Of lists one after another, that are appended from the first on.
use Rattle.std.proofs.Common.{◌≡◌, List, [], ◌∷◌, ◌++◌, refl, sym, subst, append_assoc}

-- what is said of them as appended from the last on is said of them

pub in_three : {A : Type 0} (P : List A → Type 0) (a b c : List A) → P (a ++ (b ++ c)) → P ((a ++ b) ++ c)
in_three P a b c h = subst P (sym (append_assoc a b c)) h

pub in_four : {A : Type 0} (P : List A → Type 0) (a b c d : List A) → P (a ++ (b ++ (c ++ d))) → P (((a ++ b) ++ c) ++ d)
in_four P a b c d h = in_three P (a ++ b) c d (in_three P a b (c ++ d) h)

pub in_five : {A : Type 0} (P : List A → Type 0) (a b c d e : List A) → P (a ++ (b ++ (c ++ (d ++ e)))) → P ((((a ++ b) ++ c) ++ d) ++ e)
in_five P a b c d e h = in_three P ((a ++ b) ++ c) d e (in_four P a b c (d ++ e) h)

pub in_six : {A : Type 0} (P : List A → Type 0) (a b c d e f : List A) → P (a ++ (b ++ (c ++ (d ++ (e ++ f))))) → P (((((a ++ b) ++ c) ++ d) ++ e) ++ f)
in_six P a b c d e f h = in_three P (((a ++ b) ++ c) ++ d) e f (in_five P a b c d (e ++ f) h)

-- of two lists that are empty together each is

pub first_none : {A : Type 0} (xs ys : List A) → xs ++ ys ≡ [] → xs ≡ []
first_none [] ys h = refl
first_none (x ∷ xs) ys h = absurd cc

pub second_none : {A : Type 0} (xs ys : List A) → xs ++ ys ≡ [] → ys ≡ []
second_none [] ys h = h
second_none (x ∷ xs) ys h = absurd cc
