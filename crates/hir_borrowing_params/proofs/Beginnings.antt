-- Maps that begin.
use Rattle.std.proofs.Common.{◌≡◌, ◌⊎◌, inl, inr, ℕ, zero, suc, ◌<◌, ◌+◌, ◌||◌, ◌&&◌, nat_eq, Bool, true, false, List, [], ◌∷◌, ◌++◌, Option, Some, None, Result, Ok, Err, arith, ap, subst, sym, refl, ◌∙◌, length, take, slice_get}
use Rattle.std.specs.declared.alloc.AllocError.{AllocError}
use Rattle.std.specs.Prelude.{IfOk, IsSome, slice_index_or, unwrap_or}
use Rattle.std.specs.BTreeMap.{BTreeMap, Updates, is_at}
use Rattle.std.specs.BTreeSet.{BTreeSet}
use Rattle.std.specs.List.{Contains}
use Rattle.std.specs.Map.{lookup}
use Rattle.std.specs.Ordering.{nat_cmp}
use Rattle.std.proofs.lemmas.Bool.{cases_eq}
use Rattle.std.proofs.lemmas.Bool.Decides.{eqb_tells}
use Rattle.std.proofs.lemmas.List.{take_more}
use Rattle.std.proofs.lemmas.List.Elements.{Contains-push, Contains-push_cases, Contains-append_left}
use Rattle.std.proofs.lemmas.Option.{unwrap_or-slice_get}
use Rattle.hir_life.specs.Environment.{Environment, IsSound, longer_of}
use Rattle.hir_life.specs.Outlives.{Linked, Outlives}
use Rattle.hir_life.specs.Flags.{FlagsOutliving}
use Rattle.hir_borrowing_params.specs.Answering.{some_passes}
use Rattle.hir_borrowing_params.specs.Edges.{held_for, info_under, is_in}
use Rattle.hir_borrowing_params.specs.Keys.{HasOutliving, IsStart}
use Rattle.hir_borrowing_params.specs.declared.edges.BorrowedLifetimeInfo.{BorrowedLifetimeInfo}
use Rattle.hir_borrowing_params.specs.inside.Starting.{AddsStart, StartsAt, flag_at}
use Rattle.hir_borrowing_params.proofs.Rows.{get_elsewhere, get_here, get_none}
use Rattle.hir_borrowing_params.proofs.Writing.{at_other}

-- one flag more
pub flags_next : (flags : List Bool) (i : ℕ) (flag : Bool) (before after : BTreeSet ℕ) → i < length flags → flag ≡ slice_index_or flags i flag → ((l : ℕ) → is_in before l ≡ flag_at (take i flags) l)
    → ((l : ℕ) → is_in after l ≡ (is_in before l || nat_eq i l && flag)) → (l : ℕ) → is_in after l ≡ flag_at (take (i + 1) flags) l
flags_next flags i flag before after within is so_far step l = elim (eqb_tells i l) [
  | inl h ↦
      let none : is_in before i ≡ false = so_far i ∙ ap (some_passes (λ f. f)) (get_none flags i flag within is) in
      let now : is_in after i ≡ flag = step i ∙ (ap (λ b. b || nat_eq i i && flag) none ∙ ap (λ b. b && flag) (ap (nat_eq i) h.1 ∙ h.0)) in
      subst (λ x. is_in after x ≡ flag_at (take (i + 1) flags) x) h.1 (now ∙ sym (ap (some_passes (λ f. f)) (get_here flags i flag within is)))
  | inr h ↦
      step l ∙ (ap (λ b. is_in before l || b && flag) h.0 ∙ (or_none (is_in before l) ∙ (so_far l ∙ sym (ap (some_passes (λ f. f)) (get_elsewhere flags i flag within is l (λ e. h.1 (sym e)))))))
] where
  or_none : (b : Bool) → (b || false) ≡ b
  or_none true = refl
  or_none false = refl

at_flag : (flags : List Bool) (l : ℕ) → flag_at flags l ≡ slice_index_or flags l false
at_flag flags l = by_flag (slice_get flags l) ∙ unwrap_or-slice_get flags l false where
  by_flag : (o : Option Bool) → some_passes (λ f. f) o ≡ unwrap_or o false
  by_flag None = refl
  by_flag (Some f) = refl

-- a flag that is set is there
flag_there : (flags : List Bool) (l : ℕ) → slice_index_or flags l false ≡ true → l < length flags
flag_there [] l on = absurd cc
flag_there (f ∷ fs) zero on = omega arith
flag_there (f ∷ fs) (suc l) on = let rest = flag_there fs l on in omega arith

-- what outlives a lifetime of an environment is one of it too
linked_below : (env : Environment) (t : ℕ) → IsSound env → t < env.count → (chain : List ℕ) (l : ℕ) → Linked (longer_of env) l chain t → l < env.count
linked_below env t sound below [] l linked = subst (λ x. x < env.count) (sym linked) below
linked_below env t sound below (m ∷ rest) l linked = let named = sound.bounds.longer_named m l linked.0 in let counted = sound.counted in omega arith

outlives_below : (env : Environment) (t l : ℕ) → IsSound env → t < env.count → Outlives (longer_of env) l t → l < env.count
outlives_below env t l sound below o = linked_below env t sound below o.chain l o.linked

pub outliving : (env : Environment) (t : ℕ) (flags : List Bool) (set : BTreeSet ℕ) → t < env.count → IsSound env → FlagsOutliving env t flags → ((l : ℕ) → is_in set l ≡ flag_at flags l) → HasOutliving env t set
outliving env t flags set below sound tells is l = (
  λ has.
      let on : slice_index_or flags l false ≡ true = sym (at_flag flags l) ∙ (sym (is l) ∙ has) in
      (tells.outlives l (subst (λ n. l < n) tells.each (flag_there flags l on))).0 on,
  λ o. is l ∙ (at_flag flags l ∙ (tells.outlives l (outlives_below env t l sound below o)).1 o),
)

pub outliving_result : (env : Environment) (t : ℕ) (flags lent : List Bool) (r : Result (BTreeSet ℕ) AllocError) → lent ≡ flags → t < env.count → IsSound env → FlagsOutliving env t flags
    → IfOk r (λ set. (l : ℕ) → is_in set l ≡ flag_at lent l) → IfOk r (HasOutliving env t)
outliving_result env t flags lent (Ok set) same below sound tells is = outliving env t flags set below sound tells (subst (λ fs. (l : ℕ) → is_in set l ≡ flag_at fs l) same is)
outliving_result env t flags lent (Err e) same below sound tells is = tt

-- ---- maps

pub adds_start : (env : Environment) (key : ℕ) (old new : BTreeMap ℕ BorrowedLifetimeInfo) (info : BorrowedLifetimeInfo) → Updates nat_cmp old new key (Some info) → IsStart env key (held_for info) → AddsStart env key old new
adds_start env key old new info updates start = record { info = info; here = updates.1; start = start; others = λ t apart. updates.2 t (at_other key t apart) }

none_some : {X : Type 0} (x : X) → None ≡ Some x → ⊥
none_some x e = absurd cc

pub starts_at_none : (env : Environment) (keys : List ℕ) (m : BTreeMap ℕ BorrowedLifetimeInfo) → m.entries ≡ [] → StartsAt env (take 0 keys) m
starts_at_none env keys m empty = record {
  keyed = λ t. (λ some. absurd (none_is (subst IsSome (nothing t) some)), λ h. absurd (omega (arith, h.1)));
  each = λ t info here. absurd (none_some info (sym (nothing t) ∙ here));
} where
  nothing : (t : ℕ) → info_under m t ≡ None
  nothing t = ap (lookup (is_at (nat_cmp t))) empty

  none_is : IsSome {T = BorrowedLifetimeInfo} None → ⊥
  none_is h = absurd cc

pub starts_next : (env : Environment) (keys : List ℕ) (i k : ℕ) (before after : BTreeMap ℕ BorrowedLifetimeInfo) → i < length keys → k ≡ slice_index_or keys i k → StartsAt env (take i keys) before → AddsStart env k before after → StartsAt env (take (i + 1) keys) after
starts_next env keys i k before after within is so_far adds = subst (λ ks. StartsAt env ks after) (sym grown) next where
  grown : take (i + 1) keys ≡ take i keys ++ k ∷ []
  grown = take_more keys i k within ∙ ap (λ y. take i keys ++ y ∷ []) (sym is)

  some_of : {o : Option BorrowedLifetimeInfo} {info : BorrowedLifetimeInfo} → o ≡ Some info → IsSome o
  some_of e = subst IsSome (sym e) refl

  there : (t : ℕ) → (t ≡ k) ⊎ (t ≡ k → ⊥) → IsSome (info_under after t) → Contains (take i keys ++ k ∷ []) t
  there t (inl e) some = subst (Contains (take i keys ++ k ∷ [])) (sym e) (Contains-push (take i keys) k)
  there t (inr apart) some = Contains-append_left (take i keys) (k ∷ []) t ((so_far.keyed t).0 (subst IsSome (adds.others t apart) some))

  back : (t : ℕ) → (t ≡ k) ⊎ (t ≡ k → ⊥) → Contains (take i keys ++ k ∷ []) t → IsSome (info_under after t)
  back t (inl e) h = subst (λ x. IsSome (info_under after x)) (sym e) (some_of adds.here)
  back t (inr apart) h = elim (Contains-push_cases (take i keys) k t h) [
    | inl was ↦ subst IsSome (sym (adds.others t apart)) ((so_far.keyed t).1 was)
    | inr now ↦ absurd (apart (sym now))
  ]

  each : (t : ℕ) (info : BorrowedLifetimeInfo) → (t ≡ k) ⊎ (t ≡ k → ⊥) → info_under after t ≡ Some info → IsStart env t (held_for info)
  each t info (inl e) here =
      let same : adds.info ≡ info = ap (λ o. unwrap_or o info) (sym adds.here ∙ (ap (info_under after) (sym e) ∙ here)) in
      subst (λ x. IsStart env x (held_for info)) (sym e) (subst (λ x. IsStart env k (held_for x)) same adds.start)
  each t info (inr apart) here = so_far.each t info (sym (adds.others t apart) ∙ here)

  next : StartsAt env (take i keys ++ k ∷ []) after
  next = record { keyed = λ t. (there t (cases_eq t k), back t (cases_eq t k)); each = λ t info. each t info (cases_eq t k) }
