-- A loop over a walk to the longer that keeps what is given in a list.
use Rattle.std.proofs.Common.{◌≡◌, ℕ, ◌+◌, ◌<◌, ◌≤◌, zero, suc, inl, inr, Some, List, [], ◌∷◌, ◌++◌, length, get_or, map, refl, sym, ◌∙◌, ap, subst, arith, length-append}
use Rattle.std.specs.List.{Contains, flat_map}
use Rattle.std.proofs.lemmas.List.Concat.{length-flat_map}
use Rattle.std.proofs.lemmas.List.Elements.{Contains-append_left, Contains-append_right, Contains-push_cases}
use Rattle.std.proofs.lemmas.Option.{slice_get-get_or}
use Rattle.hir_life.specs.declared.bounds.BoundedLifetime.{BoundedLifetime}
use Rattle.hir_life.specs.declared.walks.Direction.TheVariants.{Longer}
use Rattle.hir_life.specs.Environment.{Environment, longer_of}
use Rattle.hir_life.specs.Outlives.{Linked, Outlives}
use Rattle.hir_life.specs.Walk.{Walk, GivesNext, Ends}
use Rattle.hir_life.specs.Listing.{IsOnceEach, ListsLonger, bounds_declared}
use Rattle.hir_life.proofs.Marking.{apart_more}
use Rattle.hir_life.proofs.Ordering.{gives_start}
use Rattle.hir_life.proofs.Flagging.{belongs_to, belonging}
use Rattle.hir_life.proofs.Distinct.{distinct_fits, distinct_below}

-- the list is what the walk from s to the longer has given so far
pub record Collected (e : Environment) (s : ℕ) (w : Walk) (ls : List ℕ) : Type 0 where
  pub environment : w.environment ≡ e
  pub direction : w.direction ≡ Longer
  pub start : w.start ≡ s
  pub given : w.given ≡ ls
  pub belong : (k : ℕ) → Contains ls k → Outlives (longer_of e) k s
  pub within : (k : ℕ) → Contains ls k → k < e.count
  pub first : 0 < length ls → get_or ls 0 0 ≡ s
  pub once : IsOnceEach ls

pub collected_none : (e : Environment) (s : ℕ) → Collected e s (record { environment = e; direction = Longer; start = s; given = [] }) []
collected_none e s =
    record {
      environment = refl;
      direction = refl;
      start = refl;
      given = refl;
      belong = λ k h. absurd (omega (arith, h.1));
      within = λ k h. absurd (omega (arith, h.1));
      first = λ some. absurd (omega (arith, some));
      once = λ i j before within same. omega (arith, before, within);
    }

first_more : (ls : List ℕ) (s l : ℕ) → (0 < length ls → get_or ls 0 0 ≡ s) → (ls ≡ [] → l ≡ s) → get_or (ls ++ l ∷ []) 0 0 ≡ s
first_more [] s l was now = now refl
first_more (x ∷ ls) s l was now = was (omega arith)

-- one lifetime more is given and kept
pub collected_more :
    (e : Environment) (s : ℕ) (w after : Walk) (ls : List ℕ) (l : ℕ) → Collected e s w ls → GivesNext w l after
    → Collected e s after (ls ++ l ∷ [])
collected_more e s w after ls l is gives =
    let next : Collected e s (record w { given = w.given ++ l ∷ [] }) (ls ++ l ∷ []) =
    record {
      environment = is.environment;
      direction = is.direction;
      start = is.start;
      given = ap (λ x. x ++ l ∷ []) is.given;
      belong = λ k h.
          elim (Contains-push_cases ls l k h) [
            | inl was ↦ is.belong k was
            | inr now ↦
                subst (λ x. Outlives (longer_of e) x s) now
                (belongs_to e s w l is.environment is.direction is.start gives.belongs)
          ];
      within = λ k h.
          elim (Contains-push_cases ls l k h) [
            | inl was ↦ is.within k was
            | inr now ↦ omega (arith, now, gives.within, ap (λ x. x.count) is.environment)
          ];
      first = λ _. first_more ls s l is.first (λ none. gives_start w after l gives (is.given ∙ none) ∙ is.start);
      once = apart_more ls l (λ h. gives.fresh (subst (λ x. Contains x l) (sym is.given) h)) is.once;
    } in
    subst (λ x. Collected e s x (ls ++ l ∷ [])) (sym gives.follows) next

-- there is room for one more
pub collected_room :
    (e : Environment) (s : ℕ) (w after : Walk) (ls : List ℕ) (l : ℕ) → Collected e s w ls → GivesNext w l after
    → length ls < e.count
collected_room e s w after ls l is gives =
    let more = collected_more e s w after ls l is gives in
    omega (arith, distinct_below (ls ++ l ∷ []) e.count more.once more.within, length-append ls (l ∷ []))

-- when the walk ends the list is whole
pub collected_all :
    (e : Environment) (s : ℕ) (w after : Walk) (ls : List ℕ) → Collected e s w ls → Ends w after
    → ListsLonger e s ls
collected_all e s w after ls is ends =
    let whole : (l : ℕ) → Outlives (longer_of e) l s → Contains ls l =
    λ l o.
    subst (λ x. Contains x l) is.given
    (ends.complete l (belonging e s w l is.environment is.direction is.start o)) in
    let has : Contains ls s = whole s (record { chain = []; linked = refl }) in
    let some : 0 < length ls = omega (arith, has.1) in
    record {
      first = slice_get-get_or ls 0 0 some ∙ ap (λ x. Some x) (is.first some);
      outlive = λ l. (is.belong l, whole l);
      once = is.once;
    }

in_all_bounds :
    (nodes : List BoundedLifetime) (s l : ℕ) → Contains (get_or (map (λ b. b.longer) nodes) s []) l
    → Contains (flat_map (λ b. b.longer) nodes) l
in_all_bounds [] s l h = h
in_all_bounds (b ∷ nodes) zero l h = Contains-append_left b.longer (flat_map (λ b. b.longer) nodes) l h
in_all_bounds (b ∷ nodes) (suc s) l h = Contains-append_right b.longer (flat_map (λ b. b.longer) nodes) l (in_all_bounds nodes s l h)

-- what outlives s is s, or it is a bound
start_or_bound :
    (e : Environment) (l s : ℕ) (chain : List ℕ) → Linked (longer_of e) l chain s
    → Contains (s ∷ flat_map (λ b. b.longer) e.bounds) l
start_or_bound e l s [] is = (0, omega arith, sym is)
start_or_bound e l s (m ∷ chain) h =
    Contains-append_right (s ∷ []) (flat_map (λ b. b.longer) e.bounds) l (in_all_bounds e.bounds m l h.0)

-- no more lifetimes outlive s than there are bounds, and s
pub longer_count :
    (e : Environment) (s : ℕ) (ls : List ℕ) → ListsLonger e s ls → length ls ≤ 1 + bounds_declared e
longer_count e s ls is =
    let fits =
    distinct_fits ls (s ∷ flat_map (λ b. b.longer) e.bounds) is.once
    (λ k h.
    let o : Outlives (longer_of e) k s = (is.outlive k).0 h in
    start_or_bound e k s o.chain o.linked) in
    omega (arith, fits, length-flat_map (λ (b : BoundedLifetime). b.longer) e.bounds)
