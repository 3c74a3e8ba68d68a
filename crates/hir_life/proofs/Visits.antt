-- A visit on its way, from the state before a step to the state after it.
use Rattle.std.proofs.Common.{◌≡◌, ℕ, ◌+◌, ◌-◌, ◌<◌, ◌≤◌, zero, suc, inl, inr, List, [], ◌∷◌, ◌++◌, length, get_or, take, drop, refl, sym, ◌∙◌, ap, subst, arith, append_assoc, length-append}
use Rattle.std.specs.List.{Contains, FoldsTo}
use Rattle.std.proofs.Math.ListN.{get_or-append}
use Rattle.std.proofs.Math.Seq.{get_or-append_right}
use Rattle.std.proofs.lemmas.Fn.{FoldsTo-push}
use Rattle.std.proofs.lemmas.List.{take_all, take_more, take-append-le, get_or_past, length-map, length-take-le, get_or-append-add}
use Rattle.std.proofs.lemmas.List.Elements.{Contains-append_left, Contains-append_cases}
use Rattle.std.proofs.lemmas.Grind.{common_steps, get_or_default_zero}
use Rattle.hir_life.specs.declared.bounds.BoundedLifetime.{BoundedLifetime}
use Rattle.hir_life.specs.declared.walks.Direction.TheVariants.{Longer}
use Rattle.hir_life.specs.Environment.{Environment, IsSound, followed, longer_of}
use Rattle.hir_life.specs.Listing.{IsOnceEach}
use Rattle.hir_life.specs.Outlives.{Linked, Outlives}
use Rattle.hir_life.specs.inside.Queue.{Queue, IsQueue, TakesNext, Begins}
use Rattle.hir_life.specs.Visiting.{Visitor, Visits}
use Rattle.hir_life.specs.inside.Visited.{HasVisited}
use Rattle.hir_life.proofs.Chains.{outlives_itself, outlives_by_longer, closed_has_longer}
use Rattle.hir_life.proofs.Distinct.{distinct_below}
use Rattle.hir_life.proofs.Following.{only}

-- the list after its first part
drop_front : (xs ys : List ℕ) → drop (length xs) (xs ++ ys) ≡ ys
drop_front [] ys = refl
drop_front (x ∷ xs) ys = drop_front xs ys

drop_past : (xs : List ℕ) → drop (length xs) xs ≡ []
drop_past [] = refl
drop_past (x ∷ xs) = drop_past xs

drop_within : (n : ℕ) (xs ys : List ℕ) → n ≤ length xs → drop n (xs ++ ys) ≡ drop n xs ++ ys
drop_within zero xs ys within = refl
drop_within (suc n) [] ys within = absurd (omega (arith, within))
drop_within (suc n) (x ∷ xs) ys within = drop_within n xs ys (omega (arith, within))

-- a place in two lists together, past the first, is one in the second
place_in :
    (xs ys : List ℕ) (i l : ℕ) → length xs ≤ i → i < length xs + length ys → l ≡ get_or (xs ++ ys) i 0
    → get_or ys (i - length xs) l ≡ l
place_in xs ys i l past within is =
    get_or_default_zero ys (i - length xs) l (omega (arith, past, within)) ∙ sym (is ∙ get_or-append_right xs ys i 0 past)

-- what stands once in two lists together isn't in both
apart_parts : (xs ys : List ℕ) (k : ℕ) → IsOnceEach (xs ++ ys) → Contains xs k → Contains ys k → ⊥
apart_parts xs ys k once first second =
    let there : get_or (xs ++ ys) (length xs + second.0) 0 ≡ k =
    get_or-append-add xs ys second.0 0 ∙ sym (get_or_default_zero ys second.0 k second.1) ∙ second.2 in
    let here : get_or (xs ++ ys) first.0 0 ≡ k =
    get_or-append xs ys 0 first.0 first.1 ∙ sym (get_or_default_zero xs first.0 k first.1) ∙ first.2 in
    once first.0 (length xs + second.0) (omega (arith, first.1)) (omega (arith, second.1, length-append xs ys)) (here ∙ sym there)

-- and each of the second stands once there
once_back : (xs ys : List ℕ) → IsOnceEach (xs ++ ys) → IsOnceEach ys
once_back [] ys once = once
once_back (x ∷ xs) ys once =
    once_back xs ys (λ i j before within same. once (suc i) (suc j) (omega (arith, before)) (omega (arith, within)) same)

-- an anonymous lifetime has no bounds
no_bounds : (e : Environment) (k s : ℕ) → length e.bounds ≤ s → Contains (longer_of e s) k → ⊥
no_bounds e k s past h =
    let none : longer_of e s ≡ [] =
    get_or_past _ s [] (omega (arith, past, length-map e.bounds (λ (b : BoundedLifetime). b.longer))) in
    let h' : Contains [] k = subst (λ x. Contains x k) none h in
    omega (arith, h'.1)

-- what outlives an anonymous lifetime is anonymous
anonymous_stays :
    (e : Environment) (l s : ℕ) (chain : List ℕ) → length e.bounds ≤ s → Linked (longer_of e) l chain s
    → length e.bounds ≤ l
anonymous_stays e l s [] past is = omega (arith, past, is)
anonymous_stays e l s (m ∷ chain) past h =
    absurd (no_bounds e l m (anonymous_stays e m s chain past h.1) h.0)

module _ {F : Type 0} (call : F → ℕ → F → Type 0) (v : Visitor F) (s : ℕ) where
  -- from an anonymous lifetime nothing is visited
  pub visits_none : length v.environment.bounds ≤ s → Visits call v s v
  visits_none past =
      record {
        now = [];
        due = λ l. (
          λ h. absurd (omega (arith, h.1)),
          λ h. absurd (omega (arith, h.0, anonymous_stays v.environment l s h.1.chain past h.1.linked)),
        );
        once = λ i j before within same. omega (arith, before, within);
        called = refl;
        noted = grind (arith, common_steps);
        same = refl;
      }

  -- the walk has reached what was visited before, and some of what is due; it was called at those that it gave
  pub record OnVisit (q : Queue) (f : F) : Type 0 where
    pub environment : q.environment ≡ v.environment
    pub longer : q.direction ≡ Longer
    pub sound : IsSound v.environment
    pub visited_named : (k : ℕ) → Contains v.visited k → k < length v.environment.bounds
    pub more : List ℕ
    pub grown : q.reached ≡ v.visited ++ more
    pub among : (k : ℕ) → Contains more k → (k < length v.environment.bounds) × Outlives (longer_of v.environment) k s
    pub start : Contains q.reached s
    pub given : length v.visited ≤ q.given
    pub called : FoldsTo call v.visit_fn (drop (length v.visited) (take q.given q.reached)) f

  -- the start is reached, and nothing is called yet
  pub visit_begins :
      (q after : Queue) (f : F)
      → ◌≡◌ {A = Visitor F} (record { environment = q.environment; visited = q.reached; visit_fn = f }) v → HasVisited q
      → IsSound q.environment → s < length q.environment.bounds → Begins q s after → OnVisit after f
  visit_begins q after f is has sound named begins =
      let environment : q.environment ≡ v.environment = ap (λ x. x.environment) is in
      let visited : q.reached ≡ v.visited = ap (λ x. x.visited) is in
      let grown : after.reached ≡ v.visited ++ begins.reaches.more =
      begins.reaches.grown ∙ ap (λ x. x ++ begins.reaches.more) visited in
      let same : after.environment ≡ q.environment = ap (λ x. x.environment) begins.follows in
      let count : after.given ≡ length v.visited =
      ap (λ x. x.given) begins.follows ∙ has.all_given ∙ ap length visited in
      record {
        environment = same ∙ environment;
        longer = ap (λ x. x.direction) begins.follows ∙ has.longer;
        sound = subst (λ e. IsSound e) environment sound;
        visited_named = λ k h.
            subst (λ e. k < length e.bounds) environment (has.named k (subst (λ x. Contains x k) (sym visited) h));
        more = begins.reaches.more;
        grown = grown;
        among = λ k h.
            let e : s ≡ k = only s k (begins.reaches.among k h) in (
              subst (λ x. x < length v.environment.bounds) e (subst (λ y. s < length y.bounds) environment named),
              subst (λ x. Outlives (longer_of v.environment) x s) e (outlives_itself (longer_of v.environment) s),
            );
        start = begins.reaches.all s (0, omega arith, refl);
        given = omega (arith, count);
        called =
            let none : drop (length v.visited) (take after.given after.reached) ≡ [] =
            ap (λ n. drop (length v.visited) (take n after.reached)) count
            ∙ ap (λ x. drop (length v.visited) (take (length v.visited) x)) grown
            ∙ ap (drop (length v.visited)) (take-append-le (length v.visited) v.visited begins.reaches.more (omega arith) ∙ take_all (length v.visited) v.visited (omega arith))
            ∙ drop_past v.visited in
            subst (λ x. FoldsTo call v.visit_fn x f) (sym none) (sym (ap (λ x. x.visit_fn) is));
      }

  -- one lifetime is given and called at, and its bounds are reached
  pub visit_steps :
      (q after : Queue) (f next : F) (l : ℕ) → OnVisit q f → TakesNext q l after → call f l next → OnVisit after next
  visit_steps q after f next l on step called =
      let n : ℕ = length v.visited in
      let direct : followed q.environment q.direction l ≡ longer_of v.environment l =
      ap (λ d. followed q.environment d l) on.longer ∙ ap (λ e. longer_of e l) on.environment in
      let place : q.given < n + length on.more =
      omega (arith, step.waiting, ap length on.grown, length-append v.visited on.more) in
      let has : Contains on.more l =
      (q.given - n, omega (arith, place, on.given), place_in v.visited on.more q.given l on.given place (step.here ∙ ap (λ x. get_or x q.given 0) on.grown)) in
      let outlives : Outlives (longer_of v.environment) l s = (on.among l has).1 in
      let given : after.given ≡ q.given + 1 = ap (λ x. x.given) step.follows in
      let grown : after.reached ≡ v.visited ++ (on.more ++ step.reaches.more) =
      step.reaches.grown ∙ ap (λ x. x ++ step.reaches.more) on.grown ∙ append_assoc v.visited on.more step.reaches.more in
      let front : take after.given after.reached ≡ take q.given q.reached ++ l ∷ [] =
      ap (λ x. take x after.reached) given ∙ ap (take (q.given + 1)) step.reaches.grown
      ∙ take-append-le (q.given + 1) q.reached step.reaches.more (omega (arith, step.waiting))
      ∙ take_more q.reached q.given 0 step.waiting ∙ ap (λ x. take q.given q.reached ++ x ∷ []) (sym step.here) in
      let within : n ≤ length (take q.given q.reached) =
      omega (arith, on.given, step.waiting, length-take-le q.given q.reached (omega (arith, step.waiting))) in
      record {
        environment = ap (λ x. x.environment) step.follows ∙ on.environment;
        longer = ap (λ x. x.direction) step.follows ∙ on.longer;
        sound = on.sound;
        visited_named = on.visited_named;
        more = on.more ++ step.reaches.more;
        grown = grown;
        among = λ k h.
            elim (Contains-append_cases on.more step.reaches.more k h) [
              | inl was ↦ on.among k was
              | inr now ↦
                  let d : Contains (longer_of v.environment l) k =
                  subst (λ x. Contains x k) direct (step.reaches.among k now) in (
                    on.sound.bounds.longer_named l k d,
                    outlives_by_longer (longer_of v.environment) k l s d outlives,
                  )
            ];
        start = subst (λ x. Contains x s) (sym step.reaches.grown) (Contains-append_left q.reached step.reaches.more s on.start);
        given = omega (arith, on.given, given);
        called =
            subst (λ x. FoldsTo call v.visit_fn x next) (sym (ap (drop n) front ∙ drop_within n (take q.given q.reached) (l ∷ []) within))
            (FoldsTo-push call v.visit_fn (drop n (take q.given q.reached)) f l next on.called called);
      }

  -- all that was due was visited
  pub visit_ends :
      (q after : Queue) (f : F) → OnVisit q f → IsQueue q → (q.given ≡ length q.reached) × (after ≡ q)
      → Visits call v s (record { environment = after.environment; visited = after.reached; visit_fn = f })
  visit_ends q after f on queue over =
      let whole : take q.given q.reached ≡ q.reached = take_all q.given q.reached (omega (arith, over.0)) in
      let once : IsOnceEach (v.visited ++ on.more) = subst (λ x. IsOnceEach x) on.grown queue.once in
      let reached : (l : ℕ) → Outlives (longer_of v.environment) l s → Contains q.reached l =
      λ l o.
      closed_has_longer (longer_of v.environment) (Contains q.reached) s on.start
      (λ k m h d.
      queue.closed k m (subst (λ x. Contains x k) (sym whole) h)
      (subst (λ x. Contains x m) (sym (ap (λ d. followed q.environment d k) on.longer ∙ ap (λ e. longer_of e k) on.environment)) d))
      l o in
      record {
        now = on.more;
        due = λ l. (
          λ h. ((on.among l h).0, (on.among l h).1, λ was. apart_parts v.visited on.more l once was h),
          λ h.
              elim (Contains-append_cases v.visited on.more l (subst (λ x. Contains x l) on.grown (reached l h.1))) [
                | inl was ↦ absurd (h.2 was)
                | inr now ↦ now
              ],
        );
        once = once_back v.visited on.more once;
        called =
            subst (λ x. FoldsTo call v.visit_fn x f)
            (ap (drop (length v.visited)) (whole ∙ on.grown) ∙ drop_front v.visited on.more) on.called;
        noted = ap (λ x. x.reached) over.1 ∙ on.grown;
        same = ap (λ x. x.environment) over.1 ∙ on.environment;
      }

  -- and all that was reached is named
  pub visit_over :
      (q after : Queue) (f : F) → OnVisit q f → (q.given ≡ length q.reached) × (after ≡ q) → HasVisited after
  visit_over q after f on over =
      let visited : HasVisited q =
      record {
        longer = on.longer;
        all_given = over.0;
        named = λ k h.
            subst (λ e. k < length e.bounds) (sym on.environment)
            (elim (Contains-append_cases v.visited on.more k (subst (λ x. Contains x k) on.grown h)) [
              | inl was ↦ on.visited_named k was
              | inr now ↦ (on.among k now).0
            ]);
      } in
      subst (λ x. HasVisited x) (sym over.1) visited

-- a visit's measure falls with each step
pub visit_nearer :
    (q after : Queue) (l : ℕ) → IsQueue q → TakesNext q l after
    → after.environment.count - after.given < q.environment.count - q.given
visit_nearer q after l queue step =
    omega (
      arith,
      distinct_below q.reached q.environment.count queue.once queue.within,
      step.waiting,
      ap (λ x. x.environment.count) step.follows,
      ap (λ x. x.given) step.follows,
    )
