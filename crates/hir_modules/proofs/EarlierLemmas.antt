-- In the order of modules a module stands before all that are deeper than it.
use Rattle.std.proofs.Common.{◌≡◌, ◌≢◌, ◌⊎◌, inl, inr, ℕ, zero, suc, ◌+◌, ◌-◌, ◌<◌, ◌≤◌, Bool, true, false, List, [], ◌∷◌, ◌++◌, length, take, get_or, Option, Some, None, refl, sym, ap, subst, ◌∙◌, arith}
use Rattle.std.specs.Prelude.{All, Contains, ◌==◌, slice_get}
use Rattle.std.proofs.lemmas.Bool.{eqb-true}
use Rattle.std.proofs.lemmas.List.{append_assoc, get_or_append_left, get_or-append_right, length-append, take-append-le}
use Rattle.std.proofs.lemmas.List.Elements.{All-append, All-contains, All-cons, All-nil, Contains-append_cases, Contains-append_left}
use Rattle.std.proofs.Math.Seq.{take-append-add}
use Rattle.bridge_decl.specs.declared.modules.Module.{Module}
use Rattle.bridge_order.specs.Order.{at_depth, deepest, module_order, shallower, where_there}

-- the number of segments of the module of a number
abbrev pub path_length : Option Module → ℕ
path_length None = 0
path_length (Some m) = length m.path

abbrev pub depth_at : List Module → ℕ → ℕ
depth_at modules n = path_length (slice_get modules n)

-- ---- how deep the modules of the order are

slice_get_middle : {A : Type 0} (before after : List A) (x : A) → slice_get (before ++ x ∷ after) (length before) ≡ Some x
slice_get_middle [] after x = refl
slice_get_middle (y ∷ before) after x = slice_get_middle before after x

one_deep : (all : List Module) (depth n d : ℕ) (b : Bool) → (d == depth) ≡ b → depth_at all n ≡ d
    → All (λ k. depth_at all k ≡ depth) (where_there b n)
one_deep all depth n d true e at = All-cons (λ k. depth_at all k ≡ depth) n [] (at ∙ eqb-true d depth e) (All-nil (λ k. depth_at all k ≡ depth))
one_deep all depth n d false e at = All-nil (λ k. depth_at all k ≡ depth)

deep : (depth n : ℕ) (before modules : List Module) → length before ≡ n
    → All (λ k. depth_at (before ++ modules) k ≡ depth) (at_depth depth n modules)
deep depth n before [] e = All-nil (λ k. depth_at (before ++ []) k ≡ depth)
deep depth n before (m ∷ modules) e =
    let P : ℕ → Type 0 = λ k. depth_at (before ++ m ∷ modules) k ≡ depth in
    let here : slice_get (before ++ m ∷ modules) n ≡ Some m = subst (λ k. slice_get (before ++ m ∷ modules) k ≡ Some m) e (slice_get_middle before modules m) in
    let more : length (before ++ m ∷ []) ≡ n + 1 = length-append before (m ∷ []) ∙ ap (λ k. k + 1) e in
    let after : All P (at_depth depth (n + 1) modules) =
    subst (λ all. All (λ k. depth_at all k ≡ depth) (at_depth depth (n + 1) modules)) (append_assoc before (m ∷ []) modules) (deep depth (n + 1) (before ++ m ∷ []) modules more) in
    All-append P (where_there (length m.path == depth) n) (at_depth depth (n + 1) modules)
    (one_deep (before ++ m ∷ modules) depth n (length m.path) (length m.path == depth) refl (ap path_length here)) after

all_deep : (depth : ℕ) (modules : List Module) → All (λ k. depth_at modules k ≡ depth) (at_depth depth 0 modules)
all_deep depth modules = deep depth 0 [] modules refl

weaker : (modules : List Module) (depth : ℕ) (ns : List ℕ) (P : ℕ → Type 0) → ((k : ℕ) → P k → depth_at modules k < depth) → All P ns
    → All (λ k. depth_at modules k < depth) ns
weaker modules depth ns P f all = λ i d lt. f (get_or ns i d) (all i d lt)

all_shallow : (depth : ℕ) (modules : List Module) → All (λ k. depth_at modules k < depth) (shallower depth modules)
all_shallow zero modules = All-nil (λ k. depth_at modules k < 0)
all_shallow (suc depth) modules =
    All-append (λ k. depth_at modules k < suc depth) (shallower depth modules) (at_depth depth 0 modules)
    (weaker modules (suc depth) (shallower depth modules) (λ k. depth_at modules k < depth) (λ k lt. omega arith) (all_shallow depth modules))
    (weaker modules (suc depth) (at_depth depth 0 modules) (λ k. depth_at modules k ≡ depth) (λ k e. omega arith) (all_deep depth modules))

-- ---- what stands before a number

below_or_not : (i n : ℕ) → (i < n) ⊎ (n ≤ i)
below_or_not i zero = inr (omega arith)
below_or_not zero (suc n) = inl (omega arith)
below_or_not (suc i) (suc n) = elim (below_or_not i n) [ inl lt ↦ inl (omega arith) | inr le ↦ inr (omega arith) ]

-- a module that is less deep stands before
abbrev StandsBefore : List Module → List ℕ → Type 0
StandsBefore modules ns = (i outer : ℕ) → i < length ns → Contains ns outer → depth_at modules outer < depth_at modules (get_or ns i 0) → Contains (take i ns) outer

module _ (modules : List Module) (depth : ℕ) (above : List ℕ) (level : List ℕ) where
  in_above : All (λ k. depth_at modules k < depth) above → All (λ k. depth_at modules k ≡ depth) level → StandsBefore modules above
      → (i outer : ℕ) → i < length above → Contains (above ++ level) outer → depth_at modules outer < depth_at modules (get_or (above ++ level) i 0)
      → Contains (take i (above ++ level)) outer
  in_above shallow deep before i outer lt here less =
      let same = get_or_append_left above level 0 i lt in
      let shallow_one : depth_at modules (get_or above i 0) < depth = shallow i 0 lt in
      let less_above : depth_at modules outer < depth_at modules (get_or above i 0) = subst (λ k. depth_at modules outer < depth_at modules k) same less in
      subst (λ ns. Contains ns outer) (sym (take-append-le i above level (omega (arith, lt))))
      (elim (Contains-append_cases above level outer here) [
        | inl there ↦ before i outer lt there less_above
        | inr there ↦ let at : depth_at modules outer ≡ depth = All-contains (λ k. depth_at modules k ≡ depth) level outer deep there in absurd (omega (arith, at, less_above, shallow_one))
      ])

  in_level : All (λ k. depth_at modules k < depth) above → All (λ k. depth_at modules k ≡ depth) level
      → (i outer : ℕ) → length above ≤ i → i < length (above ++ level) → Contains (above ++ level) outer
      → depth_at modules outer < depth_at modules (get_or (above ++ level) i 0) → Contains (take i (above ++ level)) outer
  in_level shallow deep i outer le lt here less =
      let j : ℕ = i - length above in
      let split : length above + j ≡ i = omega (arith, le) in
      let inside : j < length level = omega (arith, lt, le, length-append above level) in
      let level_one : depth_at modules (get_or level j 0) ≡ depth = deep j 0 inside in
      let same : get_or (above ++ level) i 0 ≡ get_or level j 0 = get_or-append_right above level (length above) i 0 refl le in
      let less_level : depth_at modules outer < depth = subst (λ k. depth_at modules outer < k) (ap (depth_at modules) same ∙ level_one) less in
      subst (λ n. Contains (take n (above ++ level)) outer) split
      (subst (λ ns. Contains ns outer) (sym (take-append-add above level j))
      (elim (Contains-append_cases above level outer here) [
        | inl there ↦ Contains-append_left above (take j level) outer there
        | inr there ↦ let at : depth_at modules outer ≡ depth = All-contains (λ k. depth_at modules k ≡ depth) level outer deep there in absurd (omega (arith, at, less_level))
      ]))

stands_before : (depth : ℕ) (modules : List Module) → StandsBefore modules (shallower depth modules)
stands_before zero modules i outer lt here less = absurd (omega (arith, lt))
stands_before (suc depth) modules i outer lt here less =
    elim (below_or_not i (length (shallower depth modules))) [
      | inl below ↦ in_above modules depth (shallower depth modules) (at_depth depth 0 modules) (all_shallow depth modules) (all_deep depth modules)
          (stands_before depth modules) i outer below here less
      | inr past ↦ in_level modules depth (shallower depth modules) (at_depth depth 0 modules) (all_shallow depth modules) (all_deep depth modules)
          i outer past lt here less
    ]

pub earlier_in_order : (modules : List Module) → StandsBefore modules (module_order modules)
earlier_in_order modules = stands_before (suc (deepest modules)) modules

-- ---- the numbers of the order are those of modules

inside_one : (depth n d : ℕ) (b : Bool) (most : ℕ) → n < most → All (λ k. k < most) (where_there b n)
inside_one depth n d true most lt = All-cons (λ k. k < most) n [] lt (All-nil (λ k. k < most))
inside_one depth n d false most lt = All-nil (λ k. k < most)

inside_from : (depth n most : ℕ) (modules : List Module) → n + length modules ≡ most → All (λ k. k < most) (at_depth depth n modules)
inside_from depth n most [] e = All-nil (λ k. k < most)
inside_from depth n most (m ∷ modules) e =
    All-append (λ k. k < most) (where_there (length m.path == depth) n) (at_depth depth (n + 1) modules)
    (inside_one depth n depth (length m.path == depth) most (omega (arith, e))) (inside_from depth (n + 1) most modules (omega (arith, e)))

inside_above : (depth : ℕ) (modules : List Module) → All (λ k. k < length modules) (shallower depth modules)
inside_above zero modules = All-nil (λ k. k < length modules)
inside_above (suc depth) modules =
    All-append (λ k. k < length modules) (shallower depth modules) (at_depth depth 0 modules) (inside_above depth modules)
    (inside_from depth 0 (length modules) modules (omega arith))

pub ordered_inside : (modules : List Module) → All (λ k. k < length modules) (module_order modules)
ordered_inside modules = inside_above (suc (deepest modules)) modules
