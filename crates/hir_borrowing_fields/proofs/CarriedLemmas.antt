-- Lists of lifetimes in which each stands once, one more.
use Rattle.std.proofs.Common.{◌≡◌, ◌<◌, ◌+◌, ℕ, length, take, get_or, Bool, true, false, true≢false, cond, not, ◌||◌, List, [], ◌∷◌, ◌++◌, refl, sym, ap, ◌∙◌}
use Rattle.std.specs.List.{filter}
use Rattle.std.proofs.lemmas.Bool.{eqb-true}
use Rattle.std.proofs.lemmas.List.{append-nil, take_more}
use Rattle.std.proofs.lemmas.List.Elements.{filter-append}
use Rattle.hir_life.specs.declared.maybe_static.MaybeStatic.{MaybeStatic}
use Rattle.hir_life.specs.declared.maybe_static.MaybeStatic.TheVariants.{Static, NonStatic}
use Rattle.hir_skeleton.specs.Leaves.{are_same, each_once}
use Rattle.hir_borrowing_fields.specs.inside.Carried.{is_among, with_once}

same_is_equal : (l m : MaybeStatic ℕ) → are_same l m ≡ true → l ≡ m
same_is_equal Static Static e = refl
same_is_equal Static (NonStatic m) e = absurd (true≢false (sym e))
same_is_equal (NonStatic l) Static e = absurd (true≢false (sym e))
same_is_equal (NonStatic l) (NonStatic m) e = ap (λ n. NonStatic n) (eqb-true l m e)

-- the others of a list
abbrev without : MaybeStatic ℕ → List (MaybeStatic ℕ) → List (MaybeStatic ℕ)
without l ls = filter (λ m. not (are_same l m)) ls

-- without another, m is there as before
kept_there : (x m l : MaybeStatic ℕ) (b : Bool) (ls others : List (MaybeStatic ℕ)) → are_same x l ≡ b → are_same x m ≡ false → is_among m others ≡ is_among m ls
    → is_among m (cond (not b) (l ∷ others) others) ≡ (are_same l m || is_among m ls)
kept_there x m l true ls others is other rest =
    rest ∙ ap (λ t. t || is_among m ls) (sym (ap (λ k. are_same k m) (sym (same_is_equal x l is)) ∙ other))
kept_there x m l false ls others is other rest = ap (λ t. are_same l m || t) rest

among_others : (x m : MaybeStatic ℕ) (ls : List (MaybeStatic ℕ)) → are_same x m ≡ false → is_among m (without x ls) ≡ is_among m ls
among_others x m [] other = refl
among_others x m (l ∷ ls) other =
    kept_there x m l (are_same x l) ls (without x ls) refl other (among_others x m ls other)

-- the others of a list with one behind it
others_behind : (x m : MaybeStatic ℕ) (b : Bool) (ls : List (MaybeStatic ℕ)) → are_same x m ≡ b → without x (ls ++ m ∷ []) ≡ cond b (without x ls) (without x ls ++ m ∷ [])
others_behind x m true ls is =
    filter-append (λ l. not (are_same x l)) ls (m ∷ [])
    ∙ ap (λ t. without x ls ++ cond (not t) (m ∷ []) []) is
    ∙ append-nil (without x ls)
others_behind x m false ls is =
    filter-append (λ l. not (are_same x l)) ls (m ∷ []) ∙ ap (λ t. without x ls ++ cond (not t) (m ∷ []) []) is

first_kept : (x m : MaybeStatic ℕ) (same there : Bool) (ls : List (MaybeStatic ℕ)) → are_same x m ≡ same → is_among m ls ≡ there
    → x ∷ without x (cond there ls (ls ++ m ∷ [])) ≡ cond (same || is_among m (without x ls)) (x ∷ without x ls) (x ∷ (without x ls ++ m ∷ []))
first_kept x m true true ls is among = refl
first_kept x m true false ls is among = ap (λ others. x ∷ others) (others_behind x m true ls is)
first_kept x m false true ls is among =
    sym (ap (λ t. cond t (x ∷ without x ls) (x ∷ (without x ls ++ m ∷ []))) (among_others x m ls is ∙ among))
first_kept x m false false ls is among =
    ap (λ others. x ∷ others) (others_behind x m false ls is)
    ∙ sym (ap (λ t. cond t (x ∷ without x ls) (x ∷ (without x ls ++ m ∷ []))) (among_others x m ls is ∙ among))

pub once_more : (ls : List (MaybeStatic ℕ)) (m : MaybeStatic ℕ) → each_once (ls ++ m ∷ []) ≡ with_once (each_once ls) m
once_more [] m = refl
once_more (x ∷ ls) m =
    ap (λ once. x ∷ without x once) (once_more ls m)
    ∙ first_kept x m (are_same x m) (is_among m (each_once ls)) (each_once ls) refl refl

-- of the first so many of a list, and the next
pub once_next : (ls : List (MaybeStatic ℕ)) (i : ℕ) (m : MaybeStatic ℕ) → i < length ls → m ≡ get_or ls i m → with_once (each_once (take i ls)) m ≡ each_once (take (i + 1) ls)
once_next ls i m within is =
    sym (ap each_once (take_more ls i m within) ∙ ap (λ l. each_once (take i ls ++ l ∷ [])) (sym is) ∙ once_more (take i ls) m)
