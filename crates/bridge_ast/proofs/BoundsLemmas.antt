-- Lists of numbers in ascending order, and the lists that they come from.
use Rattle.std.proofs.Common.{◌≡◌, ◌≢◌, ℕ, zero, suc, ◌+◌, ◌-◌, ◌<◌, ◌≤◌, List, [], ◌∷◌, ◌++◌, length, map, take}
use Rattle.std.proofs.Common.{get_or, set, length-take, length-set, refl, sym, ap, ◌∙◌, arith, subst, inl, inr}
use Rattle.std.specs.Prelude.{◌↔◌, ◌⊎◌}
use Rattle.std.specs.List.{Contains}
use Rattle.std.proofs.lemmas.Bool.{cases_eq, cases_lt}
use Rattle.std.proofs.lemmas.List.{take_more, map_more, length-map, get_or_default, get_or-set_same, get_or-set_other}
use Rattle.std.proofs.lemmas.List.{set_past, take_all}
use Rattle.std.proofs.lemmas.List.Elements.{All-push, All-weaker, Contains-append_left, Contains-push, Contains-push_cases}
use Rattle.std.proofs.lemmas.List.Sorted.{IsNonDecreasingBy-push}
use Rattle.bridge_decl.specs.declared.lifetimes.LifetimeNode.{LifetimeNode}
use Rattle.bridge_ast.specs.declared.bounds.Side.{Side}
use Rattle.bridge_ast.specs.Bounds.{listed}
use Rattle.bridge_ast.specs.inside.BoundLists.{Ascends, AddsToEach, AreListers}

contains_more : (xs : List ℕ) (i x : ℕ) (y : ℕ) → i < length xs → x ≡ get_or xs i x
    → Contains (take (i + 1) xs) y ↔ (Contains (take i xs) y ⊎ (y ≡ x))
contains_more xs i x y within is =
    let all : take (i + 1) xs ≡ take i xs ++ x ∷ [] = take_more xs i x within ∙ ap (λ z. take i xs ++ z ∷ []) (sym is) in (
      λ h. elim (Contains-push_cases (take i xs) x y (subst (λ zs. Contains zs y) all h)) [ inl w ↦ inl w | inr w ↦ inr (sym w) ],
      λ h. subst (λ zs. Contains zs y) (sym all) (elim h as (λ _. Contains (take i xs ++ x ∷ []) y) [
        | inl w ↦ Contains-append_left
            (take i xs) (x ∷ []) y w
        | inr w ↦ subst (Contains (take i xs ++ x ∷ [])) (sym w) (Contains-push (take i xs) x)
      ]),
    )

-- what the lists contain, with one list more
list_more : (lists : List (List ℕ)) (last : List ℕ) (from to : ℕ) → Contains (get_or (lists ++ last ∷ []) from []) to
    ↔ (Contains (get_or lists from []) to ⊎ ((from ≡ length lists) × Contains last to))
list_more [] last zero to =
    (λ h. inr (refl, h), λ h. elim h [ inl (k, within, is) ↦ absurd (let e : k < 0 = within in omega arith) | inr w ↦ w.1 ])
list_more [] last (suc from) to =
    (λ h. inl h, λ h. elim h [ inl w ↦ w | inr w ↦ absurd (let e : suc from ≡ 0 = w.0 in omega arith) ])
list_more (list ∷ lists) last zero to =
    (λ h. inl h, λ h. elim h [ inl w ↦ w | inr w ↦ absurd (let e : 0 ≡ suc (length lists) = w.0 in omega arith) ])
list_more (list ∷ lists) last (suc from) to =
    let rest = list_more lists last from to in (
      λ h. elim (rest.0 h) [ inl w ↦ inl w | inr w ↦ inr (ap suc w.0, w.1) ],
      λ h. elim h [
        | inl w ↦ rest.1 (inl w)
        | inr w ↦ rest.1 (inr (
          let e : suc from ≡ suc (length lists) =
              w.0 in omega arith,
          w.1,
        ))
      ],
    )

-- and with the list of one node more
pub node_more : {X : Type 0} (lists : X → List ℕ) (xs : List X) (i : ℕ) (x : X) → i < length xs → x ≡ get_or xs i x
    → (from to : ℕ) → Contains (get_or (map lists (take (i + 1) xs)) from []) to
    ↔ (Contains (get_or (map lists (take i xs)) from []) to ⊎ ((from ≡ i) × Contains (lists x) to))
node_more lists xs i x within is from to =
    let all : map lists (take (i + 1) xs) ≡ map lists (take i xs) ++ lists x ∷ [] =
    map_more lists xs i x within ∙ ap (λ y. map lists (take i xs) ++ lists y ∷ []) (sym is) in
    let place : length (map lists (take i xs)) ≡ i = omega (arith, length-map (take i xs) lists, length-take i xs) in
    let P : List (List ℕ) → ℕ → Type 0 = λ all at. Contains (get_or all from []) to
    ↔ (Contains (get_or (map lists (take i xs)) from []) to ⊎ ((from ≡ at) × Contains (lists x) to)) in
    subst (λ n. P (map lists (take (i + 1) xs)) n) place (subst (λ zs. P zs (length (map lists (take i xs)))) (sym all)
    (list_more (map lists (take i xs)) (lists x) from to))

none_in : (n : ℕ) → Contains [] n → ⊥
none_in n (k, within, _) = let e : k < 0 = within in omega arith

-- ---- one number more at the end of a list

ascends_push : (last : ℕ) (numbers : List ℕ) → Ascends last numbers → Ascends last (numbers ++ last ∷ [])
ascends_push last numbers h = record {
  ascend =
      IsNonDecreasingBy-push (λ x. x) numbers last h.ascend
      (λ d some. h.most (length numbers - 1) d (omega arith));
  most = All-push (λ number. number ≤ last) numbers last h.most (omega arith);
}

pub ascends_up : (last next : ℕ) (numbers : List ℕ) → last ≤ next → Ascends last numbers → Ascends next numbers
ascends_up last next numbers up h = record {
  ascend = h.ascend;
  most = All-weaker (λ number. number ≤ last) (λ number. number ≤ next) (λ number within. omega arith) numbers h.most;
}

pub ascends_none : (last : ℕ) → Ascends last []
ascends_none last = record {
  ascend = λ i j d up within. absurd (let e : j < 0 = within in omega arith);
  most = λ k d within. absurd (let e : k < 0 = within in omega arith);
}

-- ---- and of one of some lists

module _ (old new : List (List ℕ)) (at number : ℕ) (is : new ≡ set old at (get_or old at [] ++ number ∷ [])) where
  one_here : at < length old → get_or new at [] ≡ get_or old at [] ++ number ∷ []
  one_here within =
      ap (λ z. get_or z at []) is ∙ get_or-set_same old at (get_or old at [] ++ number ∷ []) [] within

  one_there : (place : ℕ) → place ≢ at → get_or new place [] ≡ get_or old place []
  one_there place other =
      ap (λ z. get_or z place []) is ∙ get_or-set_other old at place (get_or old at [] ++ number ∷ []) [] other

  one_past : length old ≤ at → new ≡ old
  one_past past = is ∙ set_past old at (get_or old at [] ++ number ∷ []) past

  one_count : length new ≡ length old
  one_count = ap length is ∙ length-set old at (get_or old at [] ++ number ∷ [])

  one_has : (place n : ℕ) → place < length old → Contains (get_or new place []) n
      ↔ (Contains (get_or old place []) n ⊎ ((n ≡ number) × (place ≡ at)))
  one_has place n within = elim (cases_eq place at) [
    | inl here ↦ (let now = one_here (subst (λ p. p < length old) here within) in
        subst (λ p. Contains (get_or new p []) n ↔ (Contains (get_or old p []) n ⊎ ((n ≡ number) × (p ≡ at)))) (sym here) (
          λ h. elim (Contains-push_cases (get_or old at []) number n (subst (λ z. Contains z n) now h)) [
            | inl w ↦ inl w
            | inr w ↦ inr (sym w, refl)
          ],
          λ h. subst (λ z. Contains z n) (sym now) (elim h as (λ _. Contains (get_or old at [] ++ number ∷ []) n) [
            | inl w ↦ Contains-append_left (get_or old at []) (number ∷ []) n w
            | inr w ↦ subst (Contains (get_or old at [] ++ number ∷ [])) (sym w.0) (Contains-push (get_or old at []) number)
          ]),
        ))
    | inr other ↦ (let same = one_there place other in (
      λ h. inl (subst (λ z. Contains z n) same h),
      λ h. elim h [ inl w ↦ subst (λ z. Contains z n) (sym same) w | inr w ↦ absurd (other w.1) ],
    ))
  ]

  one_ascends : (place : ℕ) → Ascends number (get_or old place []) → Ascends number (get_or new place [])
  one_ascends place h = elim (cases_eq place at) [
    | inl here ↦ elim (cases_lt at (length old)) [
      | inl within ↦ subst (λ p. Ascends number (get_or new p [])) (sym here)
          (subst (Ascends number) (sym (one_here within))
          (ascends_push number (get_or old at []) (subst (λ p. Ascends number (get_or old p [])) here h)))
      | inr past ↦ subst (λ z. Ascends number (get_or z place [])) (sym (one_past past)) h
    ]
    | inr other ↦ subst (Ascends number) (sym (one_there place other)) h
  ]

-- a loop that adds a number to the list of each place
pub adds_none : (lists : List (List ℕ)) (number : ℕ) → AddsToEach lists lists [] number
adds_none lists number = record {
  count = refl;
  has = λ place n within.
      (λ h. inl h, λ h. elim h [ inl w ↦ w | inr w ↦ absurd (none_in place w.1) ]);
  ascends = λ place h. h;
}

pub adds_more : (begun old new : List (List ℕ)) (places : List ℕ) (number i : ℕ) → i < length places
    → AddsToEach begun old (take i places) number
    → new ≡ set old (get_or places i 0) (get_or old (get_or places i 0) [] ++ number ∷ [])
    → AddsToEach begun new (take (i + 1) places) number
adds_more begun old new places number i within before now = let at = get_or places i 0 in record {
  count = one_count old new at number now ∙ before.count;
  has = λ place n there.
      let more = one_has old new at number now place n (subst (λ k. place < k) (sym before.count) there) in
      let was = before.has place n there in
      let all = contains_more places i at place within (get_or_default places i 0 at within) in (
        λ h. elim (more.0 h) [
          | inl w ↦ elim (was.0 w) [ inl v ↦ inl v | inr v ↦ inr (v.0, all.1 (inl v.1)) ]
          | inr w ↦ inr (w.0, all.1 (inr w.1))
        ],
        λ h. elim h [
          | inl w ↦ more.1 (inl (was.1 (inl w)))
          | inr w ↦ elim (all.0 w.1) [ inl v ↦ more.1 (inl (was.1 (inr (w.0, v)))) | inr v ↦ more.1 (inr (w.0, v)) ]
        ],
      );
  ascends = λ place h. one_ascends old new at number now place (before.ascends place h);
}

-- ---- the lists of those that list each node

-- the lists of the first nodes
pub record ListFirst (side : Side) (nodes : List LifetimeNode) (i : ℕ) (lists : List (List ℕ)) : Type 0 where
  pub count : length lists ≡ length nodes
  pub ascends : (to : ℕ) → Ascends i (get_or lists to [])
  pub has : (from to : ℕ) → to < length nodes → Contains (get_or lists to []) from
      ↔ Contains (get_or (map (listed side) (take i nodes)) from []) to

pub first_none : (side : Side) (nodes : List LifetimeNode) (lists : List (List ℕ)) → length lists ≡ length nodes
    → ((at : ℕ) → get_or lists at [] ≡ []) → ListFirst side nodes 0 lists
first_none side nodes lists count none = record {
  count = count;
  ascends = λ to. subst (Ascends 0) (sym (none to)) (ascends_none 0);
  has = λ from to within. (
    λ h. absurd (none_in from (subst (λ z. Contains z from) (none to) h)),
    λ h. absurd (none_in to h),
  );
}

pub first_more : (side : Side) (nodes : List LifetimeNode) (i : ℕ) (x : LifetimeNode) (old new : List (List ℕ)) (its : List ℕ)
    → i < length nodes → x ≡ get_or nodes i x → its ≡ listed side x → ListFirst side nodes i old → AddsToEach old new its i
    → ListFirst side nodes (i + 1) new
first_more side nodes i x old new its within is named before adds = record {
  count = adds.count ∙ before.count;
  ascends = λ to. ascends_up i (i + 1) (get_or new to []) (omega arith) (adds.ascends to (before.ascends to));
  has = λ from to there.
      let now = adds.has to from (subst (λ k. to < k) (sym before.count) there) in
      let was = before.has from to there in
      let more = node_more (listed side) nodes i x within is from to in (
        λ h. elim (now.0 h) [ inl w ↦ more.1 (inl (was.0 w)) | inr w ↦ more.1 (inr (w.0, subst (λ ys. Contains ys to) named w.1)) ],
        λ h. elim (more.0 h) [
          | inl w ↦ now.1 (inl (was.1 w))
          | inr w ↦ now.1 (inr (w.0, subst (λ ys. Contains ys to) (sym named) w.1))
        ],
      );
}

pub first_all : (side : Side) (nodes : List LifetimeNode) (i : ℕ) (lists : List (List ℕ)) → length nodes ≤ i
    → ListFirst side nodes i lists → AreListers side nodes lists
first_all side nodes i lists all h = record {
  count = h.count;
  ascends = λ to. (h.ascends to).ascend;
  has = λ from to within. subst (λ z. Contains (get_or lists to []) from ↔ Contains (get_or (map (listed side) z) from []) to)
      (take_all i nodes all) (h.has from to within);
}
