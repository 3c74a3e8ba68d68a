-- The first of a list that isn't among some others, and what follows of the order in which a walk gives lifetimes.
use Rattle.std.proofs.Common.{◌≡◌, ℕ, ◌+◌, ◌-◌, ◌≤◌, zero, suc, inl, inr, List, [], ◌∷◌, ◌++◌, length, get_or, take, refl, sym, ◌∙◌, ap, subst, arith, append_assoc, length-append}
use Rattle.std.specs.List.{Contains, flat_map}
use Rattle.std.specs.Iterator.{Yields, Drains}
use Rattle.std.proofs.lemmas.List.{take-append-le}
use Rattle.std.proofs.Math.ListN.{get_or-append}
use Rattle.std.proofs.Math.Seq.{get_or-append_right, take-append-add}
use Rattle.std.proofs.lemmas.List.Elements.{Contains-append_left, Contains-append_right, Contains-append_cases}
use Rattle.std.proofs.lemmas.Bool.{cases_lt}
use Rattle.hir_life.specs.First.{IsFirstNotIn}
use Rattle.hir_life.specs.inside.Firsts.{AreFirstNotIn}
use Rattle.hir_life.specs.Walk.{Walk, GivesNext, Ends, WalksOn}

-- the list goes on behind
pub first_right :
    (given list rest : List ℕ) (l : ℕ) → IsFirstNotIn given list l → IsFirstNotIn given (list ++ rest) l
first_right given list rest l is =
    record {
      before = is.before;
      after = is.after ++ rest;
      split = ap (λ x. x ++ rest) is.split ∙ append_assoc is.before (l ∷ is.after) rest;
      given_before = is.given_before;
    }

-- the list begins with what was given
first_left :
    (given front list : List ℕ) (l : ℕ) → ((k : ℕ) → Contains front k → Contains given k) → IsFirstNotIn given list l
    → IsFirstNotIn given (front ++ list) l
first_left given front list l were is =
    record {
      before = front ++ is.before;
      after = is.after;
      split = ap (λ x. front ++ x) is.split ∙ sym (append_assoc front is.before (l ∷ is.after));
      given_before = λ k h.
          elim (Contains-append_cases front is.before k h) [
            | inl here ↦ were k here
            | inr there ↦ is.given_before k there
          ];
    }

-- the first alone, of a list that begins with it
pub first_alone : (given : List ℕ) (l : ℕ) → AreFirstNotIn given (l ∷ []) (l ∷ [])
first_alone given l zero within =
    record { before = []; after = []; split = refl; given_before = λ k h. absurd (omega (arith, h.1)) }
first_alone given l (suc i) within = absurd (omega (arith, within))

take_into : (xs ys : List ℕ) (i : ℕ) → length xs ≤ i → take i (xs ++ ys) ≡ xs ++ take (i - length xs) ys
take_into xs ys i past =
    let e : i ≡ length xs + (i - length xs) = omega (arith, past) in
    ap (λ n. take n (xs ++ ys)) e ∙ take-append-add xs ys (i - length xs)

-- the firsts of one list, and then those of a second, are those of both together
pub ordered_append :
    (given a b xs ys : List ℕ) → AreFirstNotIn given xs a → ((k : ℕ) → Contains xs k → Contains (given ++ a) k)
    → AreFirstNotIn (given ++ a) ys b → AreFirstNotIn given (xs ++ ys) (a ++ b)
ordered_append given a b xs ys first whole second = λ i within.
    elim (cases_lt i (length a)) [
      | inl below ↦
          let front : take i (a ++ b) ≡ take i a = take-append-le i a b (omega (arith, below)) in
          let here : get_or (a ++ b) i 0 ≡ get_or a i 0 = get_or-append a b 0 i below in
          subst (λ x. IsFirstNotIn (given ++ x) (xs ++ ys) (get_or (a ++ b) i 0)) (sym front)
          (subst (λ x. IsFirstNotIn (given ++ take i a) (xs ++ ys) x) (sym here)
          (first_right (given ++ take i a) xs ys (get_or a i 0) (first i below)))
      | inr past ↦
          let j : ℕ = i - length a in
          let front : given ++ take i (a ++ b) ≡ (given ++ a) ++ take j b =
          ap (λ x. given ++ x) (take_into a b i past) ∙ sym (append_assoc given a (take j b)) in
          let here : get_or (a ++ b) i 0 ≡ get_or b j 0 = get_or-append_right a b i 0 past in
          subst (λ x. IsFirstNotIn x (xs ++ ys) (get_or (a ++ b) i 0)) (sym front)
          (subst (λ x. IsFirstNotIn ((given ++ a) ++ take j b) (xs ++ ys) x) (sym here)
          (first_left ((given ++ a) ++ take j b) xs ys (get_or b j 0)
          (λ k h. Contains-append_left (given ++ a) (take j b) k (whole k h))
          (second j (omega (arith, past, within, length-append a b)))))
    ]

-- what holds of each element of each piece holds of each element of all pieces
pub each_in_pieces :
    (f : ℕ → List ℕ) (xs : List ℕ) (P : ℕ → Type 0) → ((m k : ℕ) → Contains xs m → Contains (f m) k → P k) → (k : ℕ)
    → Contains (flat_map f xs) k → P k
each_in_pieces f [] P each k h = absurd (omega (arith, h.1))
each_in_pieces f (x ∷ xs) P each k h =
    elim (Contains-append_cases (f x) (flat_map f xs) k h) [
      | inl here ↦ each x k (0, omega arith, refl) here
      | inr there ↦ each_in_pieces f xs P (λ m l has. each m l (Contains-append_right (x ∷ []) xs m has)) k there
    ]

abbrev head_or : ℕ → List ℕ → ℕ
head_or d [] = d
head_or d (x ∷ xs) = x

abbrev tail_of : List ℕ → List ℕ
tail_of [] = []
tail_of (x ∷ xs) = xs

-- an element in front of another was given
was_given : (given : List ℕ) (x : ℕ) (xs : List ℕ) → ((k : ℕ) → Contains (x ∷ xs) k → Contains given k) → Contains given x
was_given given x xs were = were x (0, omega arith, refl)

-- a list has one first that wasn't given
one_first :
    (given : List ℕ) (l m : ℕ) (front back : List ℕ) (others rest : List ℕ)
    → front ++ l ∷ back ≡ others ++ m ∷ rest → ((k : ℕ) → Contains front k → Contains given k)
    → ((k : ℕ) → Contains others k → Contains given k) → (Contains given l → ⊥) → (Contains given m → ⊥) → l ≡ m
one_first given l m [] back [] rest e were had fresh new = ap (head_or l) e
one_first given l m [] back (y ∷ others) rest e were had fresh new =
    absurd (fresh (subst (λ x. Contains given x) (sym (ap (head_or l) e)) (was_given given y others had)))
one_first given l m (x ∷ front) back [] rest e were had fresh new =
    absurd (new (subst (λ x. Contains given x) (ap (head_or m) e) (was_given given x front were)))
one_first given l m (x ∷ front) back (y ∷ others) rest e were had fresh new =
    one_first given l m front back others rest (ap tail_of e)
    (λ k h. were k (Contains-append_right (x ∷ []) front k h)) (λ k h. had k (Contains-append_right (y ∷ []) others k h))
    fresh new

-- a walk gives one lifetime next
one_next : (w a b : Walk) (l m : ℕ) → GivesNext w l a → GivesNext w m b → l ≡ m
one_next w a b l m one other =
    one_first w.given l m one.next.before one.next.after other.next.before other.next.after
    (sym one.next.split ∙ other.next.split) one.next.given_before other.next.given_before one.fresh other.fresh

-- a walk that is over gives nothing
gives_no_more : (w a b : Walk) (l : ℕ) → Ends w a → GivesNext w l b → ⊥
gives_no_more w a b l over gives = gives.fresh (over.complete l gives.belongs)

runs_same :
    (xs ys : List ℕ) (w t u s v : Walk) → Yields WalksOn w xs t → Ends t u → Yields WalksOn w ys s → Ends s v → xs ≡ ys
runs_same [] [] w t u s v one over other done = refl
runs_same [] (y ∷ ys) w t u s v one over other done =
    absurd (gives_no_more w u other.0 y (subst (λ x. Ends x u) (sym one) over) other.1)
runs_same (x ∷ xs) [] w t u s v one over other done =
    absurd (gives_no_more w v one.0 x (subst (λ z. Ends z v) (sym other) done) one.1)
runs_same (x ∷ xs) (y ∷ ys) w t u s v one over other done =
    let here : x ≡ y = one_next w one.0 other.0 x y one.1 other.1 in
    let after : one.0 ≡ other.0 =
    one.1.follows ∙ ap (λ z. record w { given = w.given ++ z ∷ [] }) here ∙ sym other.1.follows in
    ap (λ z. z ∷ xs) here
    ∙ ap (λ zs. y ∷ zs)
    (runs_same xs ys one.0 t u s v one.2 over (subst (λ z. Yields WalksOn z ys s) (sym after) other.2) done)

-- two runs of a walk to its end give the same list
pub drains_same : (w : Walk) (xs ys : List ℕ) → Drains WalksOn w xs → Drains WalksOn w ys → xs ≡ ys
drains_same w xs ys one other =
    runs_same xs ys w one.1.0 one.0 other.1.0 other.0 one.1.1 one.1.2 other.1.1 other.1.2

begins_with :
    (given : List ℕ) (s l : ℕ) (rest before after : List ℕ) → given ≡ [] → s ∷ rest ≡ before ++ l ∷ after
    → ((k : ℕ) → Contains before k → Contains given k) → l ≡ s
begins_with given s l rest [] after none e were = sym (ap (head_or l) e)
begins_with given s l rest (x ∷ before) after none e were =
    let has : Contains [] x = subst (λ g. Contains g x) none (was_given given x before were) in
    absurd (omega (arith, has.1))

-- a walk that has given nothing gives its start
pub gives_start : (w after : Walk) (l : ℕ) → GivesNext w l after → w.given ≡ [] → l ≡ w.start
gives_start w after l gives none =
    begins_with w.given w.start l _ gives.next.before gives.next.after none gives.next.split gives.next.given_before
