-- Looking for a word among others, as a loop does.
use Rattle.std.proofs.Common.{◌≡◌, ℕ, zero, suc, ◌+◌, ◌<◌, Bool, true, false, List, [], ◌∷◌, map, length, get_or, take, Option, Some, None, refl, bytes_eq, add-one, arith, if◌then◌else◌}
use Rattle.bridge_form.specs.Form.{find_word}

not_here : {W : Type 0} (b : Bool) (word : W) (others : Option W) → (if b then Some word else others) ≡ None → (b ≡ false) × (others ≡ None)
not_here true word others e = absurd cc
not_here false word others e = (refl, e)

-- of the entries of a list, each as a word
module _ {X W : Type 0} (shown : X → List ℕ × W) where
  pub found_at : (xs : List X) (i : ℕ) (d : X) (written : List ℕ) → i < length xs → find_word (map shown (take i xs)) written ≡ None → bytes_eq (shown (get_or xs i d)).0 written ≡ true
      → find_word (map shown xs) written ≡ Some (shown (get_or xs i d)).1
  found_at [] i d written lt before e = absurd (omega arith)
  found_at (x ∷ xs) zero d written lt before e = rw e refl
  found_at (x ∷ xs) (suc i) d written lt before e =
      let h = not_here (bytes_eq (shown x).0 written) (shown x).1 (find_word (map shown (take i xs)) written) before in
      rw h.0 (found_at xs i d written (omega arith) h.1 e)

  none_at : (xs : List X) (i : ℕ) (d : X) (written : List ℕ) → i < length xs → find_word (map shown (take i xs)) written ≡ None → bytes_eq (shown (get_or xs i d)).0 written ≡ false
      → find_word (map shown (take (suc i) xs)) written ≡ None
  none_at [] i d written lt before e = absurd (omega arith)
  none_at (x ∷ xs) zero d written lt before e = rw e refl
  none_at (x ∷ xs) (suc i) d written lt before e =
      let h = not_here (bytes_eq (shown x).0 written) (shown x).1 (find_word (map shown (take i xs)) written) before in
      rw h.0 (none_at xs i d written (omega arith) h.1 e)

  pub none_after : (xs : List X) (i : ℕ) (d : X) (written : List ℕ) → i < length xs → find_word (map shown (take i xs)) written ≡ None → bytes_eq (shown (get_or xs i d)).0 written ≡ false
      → find_word (map shown (take (i + 1) xs)) written ≡ None
  none_after xs i d written lt before e = rw add-one (none_at xs i d written lt before e)

  pub found_here : (xs : List X) (i : ℕ) (x : X) (written : List ℕ) → i < length xs → x ≡ get_or xs i x → find_word (map shown (take i xs)) written ≡ None → bytes_eq (shown x).0 written ≡ true
      → find_word (map shown xs) written ≡ Some (shown x).1
  found_here xs i x written lt is before e =
      let at : find_word (map shown xs) written ≡ Some (shown (get_or xs i x)).1 = found_at xs i x written lt before (rw (← is) e) in
      rw is at

  pub none_next : (xs : List X) (i : ℕ) (x : X) (written : List ℕ) → i < length xs → x ≡ get_or xs i x → find_word (map shown (take i xs)) written ≡ None → bytes_eq (shown x).0 written ≡ false
      → find_word (map shown (take (i + 1) xs)) written ≡ None
  none_next xs i x written lt is before e = rw add-one (none_at xs i x written lt before (rw (← is) e))
