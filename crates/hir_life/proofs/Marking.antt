-- A list of lifetimes beside a flag for each.
use Rattle.std.proofs.Common.{◌≡◌, ℕ, ◌+◌, ◌<◌, ◌⊎◌, inl, inr, Bool, true, false, cond, List, [], ◌∷◌, ◌++◌, length, get_or, set, take, refl, sym, ◌∙◌, ap, subst, arith, get_or-set_other, get_or-set_same, length-append, length-set}
use Rattle.std.specs.List.{Contains, count_by}
use Rattle.std.proofs.lemmas.List.{take_more}
use Rattle.std.proofs.Math.ListN.{get_or-append}
use Rattle.std.proofs.Math.Seq.{get_or-append_seam}
use Rattle.std.proofs.lemmas.List.Sums.{count_by-le-length, sum_by-set}
use Rattle.std.proofs.lemmas.List.Elements.{Contains-get_or, Contains-append_left, Contains-append_right, Contains-push, Contains-push_cases, Contains-append_cases}
use Rattle.std.proofs.lemmas.Grind.{common_steps}
use Rattle.std.proofs.lemmas.Bool.{cases_lt, cases_eq, false≢true}
use Rattle.hir_life.specs.inside.Firsts.{AreFirstNotIn}
use Rattle.hir_life.specs.inside.Reaching.{Marks, Reaches}
use Rattle.hir_life.proofs.Ordering.{first_alone, ordered_append}

-- a flag that is set anew is counted once more
count-set :
    (reached : List Bool) (l : ℕ) → l < length reached → get_or reached l false ≡ false
    → count_by (λ flag. flag) (set reached l true) ≡ count_by (λ flag. flag) reached + 1
count-set reached l within unset =
    let e = sum_by-set (λ (flag : Bool). cond flag 1 0) reached l true false within in
    let one : (Bool → ℕ) = λ flag. cond flag 1 0 in
    let d : one (get_or reached l false) ≡ one false = ap one unset in
    omega (arith, e, d)

-- there is room for a lifetime that was not reached
pub marks_room :
    (order : List ℕ) (reached : List Bool) (l : ℕ) → Marks order reached → l < length reached
    → get_or reached l false ≡ false → length order < length reached
marks_room order reached l marks within unset =
    omega (
      arith,
      marks.counted,
      count-set reached l within unset,
      count_by-le-length (λ (flag : Bool). flag) (set reached l true),
      length-set reached l true,
    )

pub flag_of_new : (reached : List Bool) (l k : ℕ) → l < length reached → l ≡ k → get_or (set reached l true) k false ≡ true
flag_of_new reached l k within e = subst (λ x. get_or (set reached l true) x false ≡ true) e (get_or-set_same reached l true false within)

pub flag_of_old : (reached : List Bool) (l k : ℕ) → l < length reached → get_or reached k false ≡ true → get_or (set reached l true) k false ≡ true
flag_of_old reached l k within h =
    elim (cases_eq l k) [
      | inl e ↦ flag_of_new reached l k within e
      | inr ne ↦ get_or-set_other reached l k true false (λ e. ne (sym e)) ∙ h
    ]

pub flag_was :
    (reached : List Bool) (l k : ℕ) → get_or (set reached l true) k false ≡ true
    → (get_or reached k false ≡ true) ⊎ (l ≡ k)
flag_was reached l k h =
    elim (cases_eq l k) [
      | inl e ↦ inr e
      | inr ne ↦ inl (sym (get_or-set_other reached l k true false (λ e. ne (sym e))) ∙ h)
    ]

-- each number still stands once after one more that wasn't there
pub apart_more :
    (order : List ℕ) (l : ℕ) → (Contains order l → ⊥)
    → ((i j : ℕ) → i < j → j < length order → get_or order i 0 ≡ get_or order j 0 → ⊥) → (i j : ℕ) → i < j
    → j < length (order ++ l ∷ []) → get_or (order ++ l ∷ []) i 0 ≡ get_or (order ++ l ∷ []) j 0 → ⊥
apart_more order l fresh apart i j before within same =
    elim (cases_lt j (length order)) [
      | inl h ↦
          apart i j before h
          (sym (get_or-append order (l ∷ []) 0 i (omega arith)) ∙ same ∙ get_or-append order (l ∷ []) 0 j h)
      | inr h ↦
          let last : j ≡ length order = omega (arith, length-append order (l ∷ [])) in
          let at_last : get_or (order ++ l ∷ []) j 0 ≡ l = rw last (get_or-append_seam order l [] 0) in
          let first : get_or order i 0 ≡ l =
          sym (get_or-append order (l ∷ []) 0 i (omega arith)) ∙ same ∙ at_last in
          fresh (subst (λ x. Contains order x) first (Contains-get_or order i 0 (omega arith)))
    ]

-- a lifetime that was not reached goes to the end, and its flag is set
pub marks_more :
    (order : List ℕ) (reached : List Bool) (l : ℕ) → Marks order reached → l < length reached
    → get_or reached l false ≡ false → Marks (order ++ l ∷ []) (set reached l true)
marks_more order reached l marks within unset =
    record {
      marked = λ k h.
          elim (Contains-push_cases order l k h) [
            | inl old ↦ flag_of_old reached l k within (marks.marked k old)
            | inr e ↦ flag_of_new reached l k within e
          ];
      kept = λ k h.
          elim (flag_was reached l k h) [
            | inl old ↦ Contains-append_left order (l ∷ []) k (marks.kept k old)
            | inr e ↦ subst (λ x. Contains (order ++ l ∷ []) x) e (Contains-push order l)
          ];
      apart = apart_more order l (λ h. false≢true (sym unset ∙ marks.marked l h)) marks.apart;
      counted = omega (arith, length-append order (l ∷ []), marks.counted, count-set reached l within unset);
    }

-- lifetimes are reached one after another
pub reaches_more :
    (old mid new lifetimes : List ℕ) (l : ℕ) → Reaches old mid lifetimes → Reaches mid new (l ∷ [])
    → Reaches old new (lifetimes ++ l ∷ [])
reaches_more old mid new lifetimes l first second =
    record {
      more = first.more ++ second.more;
      grown = second.grown ∙ ap (λ x. x ++ second.more) first.grown ∙ grind (arith, common_steps);
      among = λ k h.
          elim (Contains-append_cases first.more second.more k h) [
            | inl a ↦ Contains-append_left lifetimes (l ∷ []) k (first.among k a)
            | inr a ↦ Contains-append_right lifetimes (l ∷ []) k (second.among k a)
          ];
      ordered =
          ordered_append old first.more second.more lifetimes (l ∷ []) first.ordered
          (λ k h. subst (λ x. Contains x k) first.grown (first.all k h))
          (subst (λ x. AreFirstNotIn x (l ∷ []) second.more) first.grown second.ordered);
      all = λ k h.
          elim (Contains-append_cases lifetimes (l ∷ []) k h) [
            | inl a ↦ subst (λ x. Contains x k) (sym second.grown) (Contains-append_left mid second.more k (first.all k a))
            | inr a ↦ second.all k a
          ];
    }

-- a loop over the lifetimes reaches one more
pub reaches_step :
    (old mid new lifetimes : List ℕ) (i l item : ℕ) → i < length lifetimes → item ≡ get_or lifetimes i item → l ≡ item
    → Reaches old mid (take i lifetimes) → Reaches mid new (l ∷ []) → Reaches old new (take (i + 1) lifetimes)
reaches_step old mid new lifetimes i l item within is same first second =
    let front : take (i + 1) lifetimes ≡ take i lifetimes ++ l ∷ [] =
    take_more lifetimes i item within ∙ ap (λ x. take i lifetimes ++ x ∷ []) (sym is ∙ sym same) in
    subst (λ x. Reaches old new x) (sym front) (reaches_more old mid new (take i lifetimes) l first second)

-- one lifetime goes to the end
pub reaches_new : (old : List ℕ) (l : ℕ) → Reaches old (old ++ l ∷ []) (l ∷ [])
reaches_new old l =
    record {
      more = l ∷ [];
      grown = refl;
      among = λ k h. h;
      ordered = first_alone old l;
      all = λ k h. Contains-append_right old (l ∷ []) k h;
    }

-- a flag that was read
pub flag_read :
    (reached : List Bool) (l : ℕ) (flag : Bool) → flag ≡ false → flag ≡ get_or reached l flag
    → get_or reached l false ≡ false
flag_read reached l flag off is = subst (λ x. get_or reached l x ≡ x) off (sym is)
