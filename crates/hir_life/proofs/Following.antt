-- A walk on its way, from the state before a step to the state after it.
use Rattle.std.proofs.Common.{◌≡◌, ℕ, ◌+◌, ◌-◌, ◌<◌, ◌≤◌, inl, inr, Bool, false, Option, Some, None, List, [], ◌∷◌, ◌++◌, length, get_or, take, refl, sym, ◌∙◌, ap, subst, arith, length-append}
use Rattle.std.specs.List.{Contains, flat_map}
use Rattle.std.proofs.lemmas.List.{take_more, take-append-le, take_all, get_or-take, length-take-le, get_or_past, flat_map_more}
use Rattle.std.proofs.Math.ListN.{get_or-append}
use Rattle.std.proofs.lemmas.List.Elements.{Contains-get_or, Contains-append_left, Contains-push_cases, Contains-append_cases}
use Rattle.std.proofs.lemmas.Grind.{get_or_default_zero}
use Rattle.std.proofs.lemmas.Bool.{cases_lt, false≢true}
use Rattle.hir_life.specs.declared.walks.Direction.{Direction}
use Rattle.hir_life.specs.declared.walks.Direction.TheVariants.{Longer, Shorter}
use Rattle.hir_life.specs.Environment.{Environment, IsSound, followed}
use Rattle.hir_life.specs.Outlives.{Outlives}
use Rattle.hir_life.specs.Listing.{IsOnceEach}
use Rattle.hir_life.specs.inside.Queue.{Queue, IsQueue, TakesNext, Moves, Begins, IsFromFirst, walk_of}
use Rattle.hir_life.specs.inside.Reaching.{Marks, Reaches}
use Rattle.hir_life.specs.First.{IsFirstNotIn}
use Rattle.hir_life.specs.inside.Firsts.{AreFirstNotIn}
use Rattle.hir_life.specs.Walk.{Walk, GivesNext, Ends, WalksOn, walk_from, candidates}
use Rattle.std.specs.Iterator.{MakesProgress, at_most}
use Rattle.hir_life.proofs.Distinct.{distinct_below}
use Rattle.hir_life.proofs.Ordering.{first_right, ordered_append, each_in_pieces}
use Rattle.hir_life.proofs.Chains.{outlives_itself, outlives_by_longer, closed_has_longer}

-- bounds name lifetimes of the environment
pub bound_within : (e : Environment) (d : Direction) (k l : ℕ) → IsSound e → Contains (followed e d k) l → l < e.count
bound_within e Longer k l sound h = omega (arith, sound.bounds.longer_named k l h, sound.counted)
bound_within e Shorter k l sound h = omega (arith, sound.bounds.shorter_named k l h, sound.counted)

-- a lifetime that was reached has its flag
pub reached_within : (order : List ℕ) (reached : List Bool) (k : ℕ) → Marks order reached → Contains order k → k < length reached
reached_within order reached k marks h =
    elim (cases_lt k (length reached)) [
      | inl below ↦ below
      | inr above ↦ absurd (false≢true (sym (get_or_past reached k false above) ∙ marks.marked k h))
    ]

-- the only element of a list of one
pub only : (s k : ℕ) → Contains (s ∷ []) k → s ≡ k
only s k h = elim (Contains-push_cases [] s k h) [ inl none ↦ absurd (omega (arith, none.1)) | inr e ↦ e ]

no_front : (order : List ℕ) (k : ℕ) → Contains (take 0 order) k → ⊥
no_front order k h = omega (arith, h.1, length-take-le 0 order (omega arith))

-- an element that was read is the number there
pub item_is : (xs : List ℕ) (i item : ℕ) → i < length xs → item ≡ get_or xs i item → item ≡ get_or xs i 0
item_is xs i item within is = is ∙ get_or_default_zero xs i item within

-- the bounds of the lifetime that is given were reached
pub reaches_at :
    (direct : ℕ → List ℕ) (old new : List ℕ) (bounds : List ℕ) (l m : ℕ) → l ≡ m → bounds ≡ direct l
    → Reaches old new bounds → Reaches old new (direct m)
reaches_at direct old new bounds l m e is reaches =
    subst (λ x. Reaches old new x) (is ∙ ap direct e) reaches

-- a list that grew begins as it did
pub first_stays : (old more : List ℕ) → 0 < length old → get_or (old ++ more) 0 0 ≡ get_or old 0 0
first_stays old more some = get_or-append old more 0 0 some

front_stays : (old more : List ℕ) (head : ℕ) → head ≤ length old → take head (old ++ more) ≡ take head old
front_stays old more head within = take-append-le head old more within

front_more : (old more : List ℕ) (head : ℕ) → head < length old → take (head + 1) (old ++ more) ≡ take head old ++ get_or old head 0 ∷ []
front_more old more head within = take-append-le (head + 1) old more (omega arith) ∙ take_more old head 0 within

-- what was given, and then l
front_then :
    (q after : Queue) (l : ℕ) → TakesNext q l after → take (q.given + 1) after.reached ≡ take q.given q.reached ++ l ∷ []
front_then q after l step =
    ap (take (q.given + 1)) step.reaches.grown ∙ front_more q.reached step.reaches.more q.given step.waiting
    ∙ ap (λ x. take q.given q.reached ++ x ∷ []) (sym step.here)

-- a list of lifetimes that has, with each of its first ones, the bounds of this one
abbrev pub Closed : (ℕ → List ℕ) → List ℕ → ℕ → Type 0
Closed direct reached given = (k l : ℕ) → Contains (take given reached) k → Contains (direct k) l → Contains reached l

-- nothing was given yet
pub closed_none : (direct : ℕ → List ℕ) (reached : List ℕ) → Closed direct reached 0
closed_none direct reached = λ k l h d. absurd (no_front reached k h)

-- a further start is reached
pub closed_start :
    (direct : ℕ → List ℕ) (old new lifetimes : List ℕ) (given : ℕ) → given ≤ length old → Closed direct old given
    → Reaches old new lifetimes → Closed direct new given
closed_start direct old new lifetimes given within closed reaches = λ k l h d.
    subst (λ x. Contains x l) (sym reaches.grown)
    (Contains-append_left old reaches.more l
    (closed k l (subst (λ x. Contains x k) (ap (take given) reaches.grown ∙ front_stays old reaches.more given within) h) d))

-- one lifetime more is given, and its bounds are reached
pub closed_step :
    (direct : ℕ → List ℕ) (old new : List ℕ) (given : ℕ) → given < length old → Closed direct old given
    → Reaches old new (direct (get_or old given 0)) → Closed direct new (given + 1)
closed_step direct old new given within closed reaches = λ k l h d.
    let here : ℕ = get_or old given 0 in
    elim (Contains-push_cases (take given old) here k
    (subst (λ x. Contains x k) (ap (take (given + 1)) reaches.grown ∙ front_more old reaches.more given within) h)) [
      | inl was ↦ subst (λ x. Contains x l) (sym reaches.grown) (Contains-append_left old reaches.more l (closed k l was d))
      | inr e ↦ reaches.all l (subst (λ x. Contains (direct x) l) (sym e) d)
    ]

-- the list isn't shorter than it was
pub length_more : (old new lifetimes : List ℕ) → Reaches old new lifetimes → length old ≤ length new
length_more old new lifetimes reaches = omega (arith, ap length reaches.grown, length-append old reaches.more)

-- the first start: all that is reached is the start
module _ (q after : Queue) (s : ℕ) (none : q.reached ≡ []) (begins : Begins q s after) where
  begin_only : (k : ℕ) → Contains after.reached k → s ≡ k
  begin_only k h =
      only s k
      (begins.reaches.among k (subst (λ x. Contains x k) (begins.reaches.grown ∙ ap (λ x. x ++ begins.reaches.more) none) h))

  begin_some : 0 < length after.reached
  begin_some =
      let has : Contains after.reached s = begins.reaches.all s (0, omega arith, refl) in
      omega (arith, has.1)

  begin_first : get_or after.reached 0 0 ≡ s
  begin_first = sym (begin_only (get_or after.reached 0 0) (Contains-get_or after.reached 0 0 begin_some))

  begin_order : AreFirstNotIn [] (candidates (walk_of after)) after.reached
  begin_order =
      let grown : after.reached ≡ begins.reaches.more =
      begins.reaches.grown ∙ ap (λ x. x ++ begins.reaches.more) none in
      let alone : AreFirstNotIn [] (s ∷ []) after.reached =
      subst (λ x. AreFirstNotIn [] (s ∷ []) x) (sym grown)
      (subst (λ x. AreFirstNotIn x (s ∷ []) begins.reaches.more) none begins.reaches.ordered) in
      let rest : List ℕ =
      flat_map (followed after.environment after.direction) (take after.given after.reached) in
      subst (λ x. AreFirstNotIn [] (x ∷ rest) after.reached) (sym begin_first)
      (λ i within. first_right (take i after.reached) (s ∷ []) rest (get_or after.reached i 0) (alone i within))

  pub from_first_begin : IsFromFirst after
  from_first_begin =
      record {
        some = begin_some;
        belong = λ k h.
            subst (λ x. Outlives (followed after.environment after.direction) k x) (sym (begin_only k h) ∙ sym begin_first)
            (outlives_itself (followed after.environment after.direction) k);
        order = begin_order;
      }

  -- nothing was given yet
  pub begin_walk : q.given ≡ 0 → walk_of after ≡ walk_from q.environment q.direction s
  begin_walk zero_given =
      let given : after.given ≡ 0 = ap (λ x. x.given) begins.follows ∙ zero_given in
      let environment : after.environment ≡ q.environment = ap (λ x. x.environment) begins.follows in
      let direction : after.direction ≡ q.direction = ap (λ x. x.direction) begins.follows in
      rw (begin_first, given, environment, direction) (grind arith)

-- the candidates of a walk on its way were reached
candidates_reached :
    (q : Queue) → IsQueue q → IsFromFirst q → (k : ℕ) → Contains (candidates (walk_of q)) k → Contains q.reached k
candidates_reached q queue from k h =
    let direct : (ℕ → List ℕ) = followed q.environment q.direction in
    let start : ℕ = get_or q.reached 0 0 in
    elim (Contains-append_cases (start ∷ []) (flat_map direct (take q.given q.reached)) k h) [
      | inl first ↦
          subst (λ x. Contains q.reached x) (only start k first) (Contains-get_or q.reached 0 0 from.some)
      | inr bound ↦
          each_in_pieces direct (take q.given q.reached) (Contains q.reached) (λ m l. queue.closed m l) k bound
    ]

-- what was reached along the bounds of what outlives the first outlives the first
pub from_first_step :
    (q after : Queue) (l : ℕ) → IsQueue q → IsFromFirst q → TakesNext q l after → IsFromFirst after
from_first_step q after l queue from step =
    let direct : (ℕ → List ℕ) = followed q.environment q.direction in
    let has : Contains q.reached l =
    subst (λ x. Contains q.reached x) (sym step.here) (Contains-get_or q.reached q.given 0 step.waiting) in
    let first : get_or q.reached 0 0 ≡ get_or after.reached 0 0 =
    sym (first_stays q.reached step.reaches.more from.some) ∙ ap (λ x. get_or x 0 0) (sym step.reaches.grown) in
    let front : take (q.given + 1) after.reached ≡ take q.given q.reached ++ l ∷ [] = front_then q after l step in
    let more : candidates (walk_of q) ++ direct l
    ≡ get_or q.reached 0 0 ∷ flat_map direct (take q.given q.reached ++ l ∷ []) =
    flat_map_more direct (get_or q.reached 0 0 ∷ []) (take q.given q.reached) l in
    let next : IsFromFirst (record q { reached = after.reached; given = q.given + 1 }) =
    record {
      some = omega (arith, from.some, length_more q.reached after.reached (direct l) step.reaches);
      belong = λ k h.
          elim (Contains-append_cases q.reached step.reaches.more k (subst (λ x. Contains x k) step.reaches.grown h)) [
            | inl was ↦ subst (λ x. Outlives direct k x) first (from.belong k was)
            | inr now ↦
                subst (λ x. Outlives direct k x) first
                (outlives_by_longer direct k l (get_or q.reached 0 0) (step.reaches.among k now) (from.belong l has))
          ];
      order =
          subst (λ x. AreFirstNotIn [] (get_or after.reached 0 0 ∷ flat_map direct x) after.reached) (sym front)
          (subst (λ x. AreFirstNotIn [] (x ∷ flat_map direct (take q.given q.reached ++ l ∷ [])) after.reached) first
          (subst (λ x. AreFirstNotIn [] x after.reached) more
          (subst (λ x. AreFirstNotIn [] (candidates (walk_of q) ++ direct l) x) (sym step.reaches.grown)
          (ordered_append [] q.reached step.reaches.more (candidates (walk_of q)) (direct l) from.order
          (candidates_reached q queue from) step.reaches.ordered))));
    } in
    subst (λ x. IsFromFirst x) (sym step.follows) next

-- the same for whatever a step answers
pub from_first_moves :
    (q after : Queue) (answer : Option ℕ) → IsQueue q → IsFromFirst q → Moves q answer after → IsFromFirst after
from_first_moves q after None queue from moves = subst (λ x. IsFromFirst x) (sym moves.1) from
from_first_moves q after (Some l) queue from moves = from_first_step q after l queue from moves

fresh_next : (order : List ℕ) (head : ℕ) → IsOnceEach order → head < length order → Contains (take head order) (get_or order head 0) → ⊥
fresh_next order head apart within h =
    let before : h.0 < head = omega (arith, h.1, length-take-le head order (omega arith)) in
    let item : ℕ = get_or order head 0 in
    let same : get_or order h.0 0 ≡ item =
    sym (get_or_default_zero order h.0 item (omega arith)) ∙ sym (get_or-take head order h.0 item before) ∙ h.2 in
    apart h.0 head before within same

-- what a step gives
gives_next : (q after : Queue) (l : ℕ) → IsQueue q → IsFromFirst q → TakesNext q l after → GivesNext (walk_of q) l (walk_of after)
gives_next q after l queue from step =
    let has : Contains q.reached l =
    subst (λ x. Contains q.reached x) (sym step.here) (Contains-get_or q.reached q.given 0 step.waiting) in
    let first : get_or after.reached 0 0 ≡ get_or q.reached 0 0 =
    ap (λ x. get_or x 0 0) step.reaches.grown ∙ first_stays q.reached step.reaches.more from.some in
    let front : take (q.given + 1) after.reached ≡ take q.given q.reached ++ l ∷ [] = front_then q after l step in
    record {
      belongs = from.belong l has;
      within = queue.within l has;
      fresh = λ h. fresh_next q.reached q.given queue.once step.waiting (subst (λ x. Contains (take q.given q.reached) x) step.here h);
      next =
          subst (λ x. IsFirstNotIn (take q.given q.reached) (candidates (walk_of q)) x) (sym step.here)
          (from.order q.given step.waiting);
      follows = ap walk_of step.follows ∙ rw (first, front) refl;
    }

-- what is left when all that was reached is given
ends_here : (q : Queue) → IsQueue q → IsFromFirst q → q.given ≡ length q.reached → Ends (walk_of q) (walk_of q)
ends_here q queue from over =
    let whole : take q.given q.reached ≡ q.reached = take_all q.given q.reached (omega arith) in
    record {
      complete = λ l o.
          subst (λ x. Contains x l) (sym whole)
          (closed_has_longer (followed q.environment q.direction) (Contains q.reached) (get_or q.reached 0 0)
          (Contains-get_or q.reached 0 0 from.some)
          (λ k m h b. queue.closed k m (subst (λ x. Contains x k) (sym whole) h) b) l o);
      stays = refl;
    }

-- a step is one of the walk
pub walks_on :
    (q after : Queue) (answer : Option ℕ) → IsQueue q → IsFromFirst q → Moves q answer after
    → WalksOn (walk_of q) answer (walk_of after)
walks_on q after None queue from moves =
    subst (λ x. Ends (walk_of q) (walk_of x)) (sym moves.1) (ends_here q queue from moves.0)
walks_on q after (Some l) queue from moves = gives_next q after l queue from moves

-- what holds between two steps, by the flags
pub is_queue :
    (q : Queue) (flags : List Bool) → Marks q.reached flags → length flags ≡ q.environment.count
    → q.given ≤ length q.reached → Closed (followed q.environment q.direction) q.reached q.given → IsQueue q
is_queue q flags marks each given closed =
    record {
      given_reached = given;
      within = λ k h. subst (λ n. k < n) each (reached_within q.reached flags k marks h);
      once = marks.apart;
      closed = closed;
    }

-- each step brings the walk nearer to its end
pub walk_goes :
    (can : Walk → Type 0) → ((w : Walk) → can w) → (q after : Queue) (answer : Option ℕ) → IsQueue q
    → Moves q answer after
    → MakesProgress can (λ w. at_most (w.environment.count - length w.given)) (walk_of q) answer (walk_of after)
walk_goes can always q after None queue moves = record { on = λ _. tt; keeps = tt; rests = λ _. tt }
walk_goes can always q after (Some l) queue moves =
    let room = distinct_below q.reached q.environment.count queue.once queue.within in
    let same : after.environment.count ≡ q.environment.count = ap (λ x. x.environment.count) moves.follows in
    let more : after.given ≡ q.given + 1 = ap (λ x. x.given) moves.follows in
    let longer = length_more q.reached after.reached (followed q.environment q.direction l) moves.reaches in
    let before : length (take q.given q.reached) ≡ q.given = length-take-le q.given q.reached (omega (arith, moves.waiting)) in
    let now : length (take after.given after.reached) ≡ after.given =
    length-take-le after.given after.reached (omega (arith, more, longer, moves.waiting)) in
    record {
      on = λ _. (always (walk_of after), tt, omega (arith, room, same, more, before, now, moves.waiting));
      keeps = always (walk_of after);
      rests = λ _. tt;
    }
