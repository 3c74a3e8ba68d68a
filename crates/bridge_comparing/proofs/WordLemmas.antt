-- Pieces are taken one after another, and a text is the word exactly where nothing is left after it.
use Rattle.std.proofs.Common.{◌≡◌, ◌+◌, ℕ, Bool, Bor, true, false, cond, List, [], ◌∷◌, ◌++◌, Option, Some, None, length, take, drop, nat_eq, refl, sym, ap, ◌∙◌}
use Rattle.std.specs.Prelude.{◌↔◌, ◌==◌, ◌&&◌, IfSome, IsTrue, MatchOption, option_map}
use Rattle.std.specs.Cmp.Lexicographic.{pointwise}
use Rattle.std.specs.Fmt.{WritesText}
use Rattle.std.specs.Bool.{one_answer}
use Rattle.std.specs.Str.{bytes_eq}
use Rattle.std.proofs.lemmas.Slice.Eq.{bytes_eq-Decides}
use Rattle.std.specs.List.{FoldsTo, concat}
use Rattle.std.proofs.lemmas.Bool.{eq-eqb, eqb-true}
use Rattle.bridge_comparing.specs.Words.{once_taken}

pub after_none : (text : List ℕ) → once_taken text None ≡ None
after_none [] = refl
after_none (x ∷ text) = refl

-- one text after the other
pub after_both : (a b : List ℕ) (left : Option (List ℕ)) → once_taken (a ++ b) left ≡ once_taken b (once_taken a left)
after_both [] b left = refl
after_both (x ∷ a) b None = sym (after_none b)
after_both (x ∷ a) b (Some []) = sym (after_none b)
after_both (x ∷ a) b (Some (y ∷ left)) = by_same (y == x) (after_both a b (Some left)) where
  by_same : (same : Bool) → once_taken (a ++ b) (Some left) ≡ once_taken b (once_taken a (Some left))
      → cond same (once_taken (a ++ b) (Some left)) None ≡ once_taken b (cond same (once_taken a (Some left)) None)
  by_same true rest = rest
  by_same false rest = sym (after_none b)

-- many, one after the other
pub after_all : (texts : List (List ℕ)) (first last : Option (List ℕ)) → FoldsTo (λ old piece new. new ≡ once_taken piece old) first texts last → last ≡ once_taken (concat texts) first
after_all [] first last folds = sym folds
after_all (text ∷ texts) first last folds =
    after_all texts folds.0 last folds.2 ∙ ap (once_taken (concat texts)) folds.1 ∙ sym (after_both text (concat texts) first)

-- nothing is left exactly where the text is the word
pub whole_is : (text word : List ℕ) → once_taken text (Some word) ≡ Some [] → text ≡ word
whole_is [] word is = ap from_some (sym is) where
  from_some : Option (List ℕ) → List ℕ
  from_some None = []
  from_some (Some left) = left
whole_is (x ∷ text) [] is = absurd cc
whole_is (x ∷ text) (y ∷ word) is = by_same (y == x) refl (whole_is text word) is where
  by_same : (same : Bool) → same ≡ (y == x) → (once_taken text (Some word) ≡ Some [] → text ≡ word) → cond same (once_taken text (Some word)) None ≡ Some [] → x ∷ text ≡ y ∷ word
  by_same true same rest left = (λ i. sym (eqb-true y x (sym same)) i ∷ rest left i)
  by_same false same rest left = absurd cc

pub is_whole : (text : List ℕ) → once_taken text (Some text) ≡ Some []
is_whole [] = refl
is_whole (x ∷ text) = ap (λ same. cond same (once_taken text (Some text)) None) (eq-eqb x x refl) ∙ is_whole text

-- a text that was taken whole
pub told_whole : (text word : List ℕ) (left : Option (List ℕ)) → left ≡ once_taken text (Some word) → (whole : Bool) → (IsTrue whole ↔ (left ≡ Some [])) → whole ≡ bytes_eq text word
told_whole text word left taken whole tells =
    one_answer whole (bytes_eq text word)
    ((λ yes. whole_is text word (sym taken ∙ tells.0 yes)), (λ is. tells.1 (taken ∙ ap (λ t. once_taken t (Some word)) is ∙ is_whole word)))
    (bytes_eq-Decides text word)

-- so it is of what is shown
pub shown_is : (o : Option (List ℕ)) (word : List ℕ) (first last : Option (List ℕ)) → first ≡ Some word
    → WritesText (λ old piece new. new ≡ once_taken piece old) first o last → (same : Bool) → (IsTrue same ↔ (last ≡ Some [])) → IfSome o (λ text. same ≡ bytes_eq text word)
shown_is None word first last whole wrote same tells = tt
shown_is (Some text) word first last whole wrote same tells =
    told_whole text word last (after_all wrote.parts first last wrote.calls ∙ ap (λ t. once_taken t first) wrote.whole ∙ ap (once_taken text) whole) same tells

-- ---- a piece at the front

pub stripped : (piece left : List ℕ) → once_taken piece (Some left) ≡ cond (pointwise nat_eq (take (length piece) left) piece) (Some (drop (length piece) left)) None
stripped [] [] = refl
stripped [] (y ∷ left) = refl
stripped (x ∷ piece) [] = refl
stripped (x ∷ piece) (y ∷ left) = by_same (y == x) (stripped piece left) where
  by_same : (same : Bool) → once_taken piece (Some left) ≡ cond (pointwise nat_eq (take (length piece) left) piece) (Some (drop (length piece) left)) None
      → cond same (once_taken piece (Some left)) None ≡ cond (same && pointwise nat_eq (take (length piece) left) piece) (Some (drop (length piece) left)) None
  by_same true rest = rest
  by_same false rest = refl

pub front_taken : (o : Option (Bor (List ℕ))) (piece left : List ℕ)
    → MatchOption o (pointwise nat_eq (take (length piece) left) piece ≡ false)
    (λ rest. (pointwise nat_eq (take (length piece) left) piece ≡ true) × (rest.now ≡ drop (length piece) left) × (length rest.now + length piece ≡ length left))
    → option_map (λ rest. rest.now) o ≡ once_taken piece (Some left)
front_taken None piece left none = sym (stripped piece left ∙ ap (λ b. cond b (Some (drop (length piece) left)) None) none)
front_taken (Some rest) piece left found =
    ap Some found.1 ∙ sym (stripped piece left ∙ ap (λ b. cond b (Some (drop (length piece) left)) None) found.0)

pub nothing_taken : (piece : List ℕ) (left : Option (Bor (List ℕ))) (now : Option (List ℕ)) → option_map (λ rest. rest.now) left ≡ now → left ≡ None → now ≡ once_taken piece now
nothing_taken piece left now seen none =
    let gone : now ≡ None = sym seen ∙ ap (option_map (λ rest. rest.now)) none in
    gone ∙ sym (after_none piece) ∙ ap (once_taken piece) (sym gone)
