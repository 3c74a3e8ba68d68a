-- The order in which modules are gone through has each of them.
use Rattle.std.proofs.Common.{◌≡◌, ℕ, zero, suc, ◌+◌, ◌<◌, ◌≤◌, Bool, true, false, List, [], ◌∷◌, ◌++◌, length, take, get_or, Some, refl, sym, ap, subst, ◌∙◌, arith, length-take-le}
use Rattle.std.specs.Prelude.{All, Contains, max, ◌==◌, slice_get}
use Rattle.std.proofs.lemmas.Bool.{eq-eqb, eqb-true, eqb-false}
use Rattle.std.proofs.lemmas.List.{append-nil, append_assoc, take_more}
use Rattle.std.proofs.lemmas.List.Elements.{Contains-append_left, Contains-append_right}
use Rattle.bridge_decl.specs.declared.modules.Module.{Module}
use Rattle.bridge_order.specs.Order.{at_depth, deepest, shallower, module_order, where_there}

-- ---- one module more

abbrev one_at : ℕ → ℕ → Module → List ℕ
one_at depth n m = where_there (length m.path == depth) n

at_depth_more : (depth n last : ℕ) (modules : List Module) (m : Module) → n + length modules ≡ last
    → at_depth depth n (modules ++ m ∷ []) ≡ at_depth depth n modules ++ one_at depth last m
at_depth_more depth n last [] m at =
    let same : n ≡ last = omega (arith, at) in
    append-nil (one_at depth n m) ∙ ap (λ k. one_at depth k m) same
at_depth_more depth n last (first ∷ modules) m at =
    ap (λ l. one_at depth n first ++ l) (at_depth_more depth (n + 1) last modules m (omega (arith, at)))
    ∙ sym (append_assoc (one_at depth n first) (at_depth depth (n + 1) modules) (one_at depth last m))

pub depth_next : (depth i : ℕ) (modules : List Module) (m : Module) → i < length modules → m ≡ get_or modules i m
    → at_depth depth 0 (take (i + 1) modules) ≡ at_depth depth 0 (take i modules) ++ one_at depth i m
depth_next depth i modules m lt is =
    ap (at_depth depth 0) (take_more modules i m lt ∙ ap (λ x. take i modules ++ x ∷ []) (sym is))
    ∙ at_depth_more depth 0 i (take i modules) m (omega (arith, length-take-le i modules, lt))

max_of : ℕ → ℕ → ℕ
max_of m n = max m n

deepest_more : (modules : List Module) (m : Module) → deepest (modules ++ m ∷ []) ≡ max (deepest modules) (length m.path)
deepest_more [] m = omega arith
deepest_more (first ∷ modules) m = let e = deepest_more modules m in omega (arith, e)

pub deepest_next : (i : ℕ) (modules : List Module) (m : Module) → i < length modules → m ≡ get_or modules i m
    → deepest (take (i + 1) modules) ≡ max (deepest (take i modules)) (length m.path)
deepest_next i modules m lt is =
    ap deepest (take_more modules i m lt ∙ ap (λ x. take i modules ++ x ∷ []) (sym is)) ∙ deepest_more (take i modules) m

-- ---- each module is gone through

first_at : (depth n : ℕ) (m : Module) → length m.path ≡ depth → Contains (one_at depth n m) n
first_at depth n m is = rw (eq-eqb (length m.path) depth is) (0, omega arith, refl)

found_at_depth : (modules : List Module) (n i : ℕ) (d : Module) → i < length modules
    → Contains (at_depth (length (get_or modules i d).path) n modules) (n + i)
found_at_depth [] n i d lt = absurd (omega (arith, lt))
found_at_depth (m ∷ modules) n zero d lt =
    let same : n ≡ n + 0 = omega arith in
    Contains-append_left (one_at (length m.path) n m) (at_depth (length m.path) (n + 1) modules) (n + 0)
    (subst (Contains (one_at (length m.path) n m)) same (first_at (length m.path) n m refl))
found_at_depth (m ∷ modules) n (suc i) d lt =
    let depth : ℕ = length (get_or modules i d).path in
    let same : n + 1 + i ≡ n + suc i = omega arith in
    Contains-append_right (one_at depth n m) (at_depth depth (n + 1) modules) (n + suc i)
    (subst (Contains (at_depth depth (n + 1) modules)) same (found_at_depth modules (n + 1) i d (omega (arith, lt))))

within_deepest : (modules : List Module) (i : ℕ) (d : Module) → i < length modules → length (get_or modules i d).path ≤ deepest modules
within_deepest [] i d lt = absurd (omega (arith, lt))
within_deepest (m ∷ modules) zero d lt = omega arith
within_deepest (m ∷ modules) (suc i) d lt = let e = within_deepest modules i d (omega (arith, lt)) in omega (arith, e)

last_or_above : (most depth : ℕ) (modules : List Module) (n : ℕ) (is_last : Bool) → depth == most ≡ is_last → Contains (at_depth depth 0 modules) n
    → (depth == most ≡ false → Contains (shallower most modules) n) → Contains (shallower (suc most) modules) n
last_or_above most depth modules n true e h above =
    let same : depth ≡ most = eqb-true depth most e in
    Contains-append_right (shallower most modules) (at_depth most 0 modules) n (subst (λ k. Contains (at_depth k 0 modules) n) same h)
last_or_above most depth modules n false e h above = Contains-append_left (shallower most modules) (at_depth most 0 modules) n (above e)

found_above : (most depth : ℕ) (modules : List Module) (n : ℕ) → depth < most → Contains (at_depth depth 0 modules) n → Contains (shallower most modules) n
found_above zero depth modules n lt h = absurd (omega (arith, lt))
found_above (suc most) depth modules n lt h =
    last_or_above most depth modules n (depth == most) refl h (λ e. found_above most depth modules n (let not_last : ¬ (depth ≡ most) = eqb-false depth most e in omega (arith, not_last, lt)) h)

-- the order has the number of each module
pub all_ordered : (modules : List Module) (i : ℕ) (d : Module) → i < length modules → Contains (module_order modules) i
all_ordered modules i d lt =
    let depth : ℕ = length (get_or modules i d).path in
    let within = within_deepest modules i d lt in
    let same : 0 + i ≡ i = omega arith in
    found_above (suc (deepest modules)) depth modules i (omega (arith, within)) (subst (Contains (at_depth depth 0 modules)) same (found_at_depth modules 0 i d lt))

-- ---- what is found at a number

pub got : {A : Type 0} (xs : List A) (i : ℕ) (x : A) → slice_get xs i ≡ Some x → (i < length xs) × (get_or xs i x ≡ x)
got [] i x e = absurd cc
got (y ∷ xs) zero x e = (omega arith, some_is y x e)
  where
    some_is : {A : Type 0} (x y : A) → Some x ≡ Some y → x ≡ y
    some_is x y e = cc
got (y ∷ xs) (suc i) x e = let rest = got xs i x e in (omega (arith, rest.0), rest.1)

pub all_got : {A : Type 0} (P : A → Type 0) (xs : List A) (i : ℕ) (x : A) → All P xs → slice_get xs i ≡ Some x → P x
all_got P xs i x all e = let at = got xs i x e in subst P at.1 (all i x at.0)

pub get_there : {A : Type 0} (xs : List A) (i : ℕ) (d : A) → i < length xs → slice_get xs i ≡ Some (get_or xs i d)
get_there [] i d lt = absurd (omega (arith, lt))
get_there (x ∷ xs) zero d lt = refl
get_there (x ∷ xs) (suc i) d lt = get_there xs i d (omega (arith, lt))
