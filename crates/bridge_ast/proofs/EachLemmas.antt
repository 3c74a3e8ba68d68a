-- Lists that are made element by element, in a loop over the elements.
use Rattle.std.proofs.Common.{◌≡◌, ℕ, suc, ◌+◌, ◌<◌, ◌≤◌, List, [], ◌∷◌, ◌++◌, length, map, take, drop, get_or, refl, sym, ap}
use Rattle.std.proofs.Common.{◌∙◌, arith, subst, append_assoc, length-take, take-append-drop, drop-cons, Result}
use Rattle.std.proofs.lemmas.List.{take_more, take_all, length-map, get_or-map}
use Rattle.bridge_ast.specs.Each.{each_after, each, each_numbered}
use Rattle.bridge_ast.specs.declared.fault.EnvFault.{EnvFault}
use Rattle.bridge_ast.specs.declared.fault.EnvFault.TheVariants.{Bad, NoMemory}
use Rattle.bridge_ast.specs.EnvFaults.{IsFirst, Tells}

append_nil : {A : Type 0} (xs : List A) → xs ++ [] ≡ xs
append_nil [] = refl
append_nil (x ∷ xs) = ap (λ ys. x ∷ ys) (append_nil xs)

-- a list around one of its elements
pub around : {A : Type 0} (xs : List A) (i : ℕ) (x : A) → i < length xs → x ≡ get_or xs i x
    → xs ≡ take i xs ++ (x ∷ drop (suc i) xs)
around xs i x within is =
    sym (take-append-drop i xs) ∙ ap (λ ys. take i xs ++ ys) (drop-cons xs i x within ∙ ap (λ y. y ∷ drop (suc i) xs) (sym is))

module _ {X Y : Type 0} (f : List X → X → List Y) where
  pub each-append : (before xs ys : List X) → each_after f before (xs ++ ys) ≡ each_after f before xs ++ each_after f
      (before ++ xs) ys
  each-append before [] ys = ap (λ zs. each_after f zs ys) (sym (append_nil before))
  each-append before (x ∷ xs) ys =
      ap (λ zs. f before x ++ zs) (each-append (before ++ x ∷ []) xs ys)
      ∙ ap (λ zs. f before x ++ (each_after f (before ++ x ∷ []) xs ++ each_after f zs ys)) (append_assoc before (x ∷ []) xs)
      ∙ sym (append_assoc (f before x) (each_after f (before ++ x ∷ []) xs) (each_after f (before ++ x ∷ xs) ys))

  pub each-push : (xs : List X) (x : X) → each f (xs ++ x ∷ []) ≡ each f xs ++ f xs x
  each-push xs x = each-append [] xs (x ∷ []) ∙ ap (λ zs. each f xs ++ zs) (append_nil (f xs x))

  -- one element more
  pub each_more : (xs : List X) (i : ℕ) (x : X) → i < length xs → x ≡ get_or xs i x
      → each f (take (i + 1) xs) ≡ each f (take i xs) ++ f (take i xs) x
  each_more xs i x within is =
      ap (each f) (take_more xs i x within ∙ ap (λ y. take i xs ++ y ∷ []) (sym is)) ∙ each-push (take i xs) x

  -- what is given up to an element, what that gives, and the rest
  pub each_around : (xs : List X) (i : ℕ) (x : X) → i < length xs → x ≡ get_or xs i x
      → each f xs ≡ each f (take i xs) ++ (f (take i xs) x ++ each_after f (take i xs ++ x ∷ []) (drop (suc i) xs))
  each_around xs i x within is = ap (each f) (around xs i x within is) ∙ each-append [] (take i xs) (x ∷ drop (suc i) xs)

  -- a loop in which no element gave anything so far
  pub each_kept : (xs : List X) (i : ℕ) (x : X) → i < length xs → x ≡ get_or xs i x → each f (take i xs) ≡ []
      → f (take i xs) x ≡ [] → each f (take (i + 1) xs) ≡ []
  each_kept xs i x within is before here = each_more xs i x within is ∙ ap (λ zs. zs ++ f (take i xs) x) before ∙ here

  pub each_all : (xs : List X) (i : ℕ) → length xs ≤ i → each f (take i xs) ≡ [] → each f xs ≡ []
  each_all xs i past so_far = ap (each f) (sym (take_all i xs past)) ∙ so_far

pub length_front : {X : Type 0} (xs : List X) (i : ℕ) → i < length xs → length (take i xs) ≡ i
length_front xs i within = omega (arith, length-take i xs)

-- a each_numbered list with one element more
pub numbered_more : {X Y : Type 0} (g : ℕ → X → Y) (xs : List X) (i : ℕ) (x : X) → i < length xs → x ≡ get_or xs i x
    → each_numbered g (take (i + 1) xs) ≡ each_numbered g (take i xs) ++ g i x ∷ []
numbered_more g xs i x within is =
    each_more (λ before y. g (length before) y ∷ []) xs i x within is
    ∙ ap (λ n. each_numbered g (take i xs) ++ g n x ∷ []) (length_front xs i within)

-- the first of two lists of faults decides, unless it is empty
pub first_front : (fault : EnvFault) (xs ys : List EnvFault) → IsFirst fault xs → IsFirst fault (xs ++ ys)
first_front NoMemory xs ys h = tt
first_front (Bad kind here earlier) [] ys h = absurd cc
first_front (Bad kind here earlier) (x ∷ xs) ys h = h

pub first_after : (fault : EnvFault) (xs ys : List EnvFault) → xs ≡ [] → IsFirst fault ys → IsFirst fault (xs ++ ys)
first_after fault xs ys none h = subst (λ zs. IsFirst fault (zs ++ ys)) (sym none) h

pub tells_after : {X : Type 0} (r : Result X EnvFault) (xs ys : List EnvFault) → xs ≡ [] → Tells r ys → Tells r (xs ++ ys)
tells_after r xs ys none h = subst (λ zs. Tells r (zs ++ ys)) (sym none) h

pub none_after : (xs ys : List EnvFault) → xs ≡ [] → ys ≡ [] → xs ++ ys ≡ []
none_after xs ys none h = ap (λ zs. zs ++ ys) none ∙ h

-- a loop that stops at an element
pub each_stopped : {X : Type 0} (f : List X → X → List EnvFault) (xs : List X) (i : ℕ) (x : X) (fault : EnvFault) → i < length xs
    → x ≡ get_or xs i x → each f (take i xs) ≡ [] → IsFirst fault (f (take i xs) x) → IsFirst fault (each f xs)
each_stopped f xs i x fault within is before here =
    subst (IsFirst fault) (sym (each_around f xs i x within is))
    (first_after fault (each f (take i xs)) (f (take i xs) x ++ each_after f (take i xs ++ x ∷ []) (drop (suc i) xs)) before
    (first_front fault (f (take i xs) x) (each_after f (take i xs ++ x ∷ []) (drop (suc i) xs)) here))

-- an element of a list that a function is mapped over
pub mapped : {A B : Type 0} (g : A → B) (xs : List A) (i : ℕ) (x : A) → i < length xs → x ≡ get_or xs i x
    → (i < length (map g xs)) × (g x ≡ get_or (map g xs) i (g x))
mapped g xs i x within is = (omega (arith, length-map xs g), ap g is ∙ sym (get_or-map g xs i x (g x) within))

-- a loop over elements by their numbers
module _ {X : Type 0} (g : ℕ → List X → X → List EnvFault) (xs : List X) (i : ℕ) (x : X) where
  pub counted_kept : i < length xs → x ≡ get_or xs i x → each (λ before y. g (length before) before y) (take i xs) ≡ []
      → g i (take i xs) x ≡ [] → each (λ before y. g (length before) before y) (take (i + 1) xs) ≡ []
  counted_kept within is before here =
      each_kept (λ earlier y. g (length earlier) earlier y) xs i x within is before
      (ap (λ n. g n (take i xs) x) (length_front xs i within) ∙ here)

  pub counted_stopped : (fault : EnvFault) → i < length xs → x ≡ get_or xs i x
      → each (λ before y. g (length before) before y) (take i xs) ≡ [] → IsFirst fault (g i (take i xs) x)
      → IsFirst fault (each (λ before y. g (length before) before y) xs)
  counted_stopped fault within is before here =
      each_stopped (λ earlier y. g (length earlier) earlier y) xs i x fault within is before
      (subst (λ n. IsFirst fault (g n (take i xs) x)) (sym (length_front xs i within)) here)
