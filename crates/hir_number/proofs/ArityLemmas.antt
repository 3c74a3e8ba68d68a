-- The numbers of a use are as many as it has lifetimes.
use Rattle.std.proofs.Common.{◌≡◌, arith, ℕ, suc, ◌+◌, ◌≤◌, List, [], ◌∷◌, ◌++◌, length, map, true, false, Bool, Some, None, Ok, Err, Result, refl, sym, ap, subst, ◌∙◌}
use Rattle.std.specs.Prelude.{⊤, ◌||◌, nat_lt, if◌then◌else◌}
use Rattle.bridge_decl.specs.declared.lifetimes.Lifetime.{Lifetime}
use Rattle.bridge_decl.specs.declared.lifetimes.LifetimeEnv.{LifetimeEnv}
use Rattle.bridge_ast.specs.Each.{each_after}
use Rattle.hir_elide.specs.declared.fault.ElideFault.{ElideFault}
use Rattle.hir_elide.specs.declared.fault.ElideFault.TheVariants as elide
use Rattle.hir_elide.specs.Generics.{all_or_fault, filled, lowered_generics}
use Rattle.hir_elide.specs.Numbering.{Number, lifetime_number, most, one_if_anonymous}
use Rattle.hir_elide.specs.Occurrences.{Occurrence, Own, Role, Signature, is_own, numbers_with, used_as}
use Rattle.hir_elide.specs.Phases.{Phase, Using, Returning, Defining, lowered, occurring}
use Rattle.hir_life.specs.declared.maybe_static.MaybeStatic.{MaybeStatic}
use Rattle.hir_elide.proofs.ArityLemmas.{Long, all_long, filled_long, generics_long, meets_at}
use Rattle.hir_number.specs.declared.fault.NumberFault.{NumberFault}
use Rattle.hir_number.specs.declared.fault.NumberFault.TheVariants as fault
use Rattle.hir_number.specs.Arity.{HaveArity, arity_of_use}
use Rattle.hir_number.specs.Breaches.{uses_of}
use Rattle.hir_number.specs.Faults.{of_elided}
use Rattle.hir_number.specs.Numbers.{Answer, all_answers, answers, signature_numbers, use_answer, with_answer}
use Rattle.hir_number.specs.Occurrences.{has_own, signature_with}
use Rattle.hir_number.specs.Shapes.{NumberLists}
use Rattle.hir_number.specs.Signatures.{Placed, phase_of}
use Rattle.hir_number.specs.Uses.{Use, One, Path}
use Rattle.hir_elide.proofs.BelowLemmas.{Each}
use Rattle.hir_number.proofs.FlatLemmas.{has_push, told, told_push}
use Rattle.hir_number.proofs.RoleLemmas.{meets_same, own_told, phase_meets, use_told}

-- ---- lists

elided_long : (n : ℕ) (r : Result (List (MaybeStatic ℕ)) ElideFault) → Long n r → Long n (of_elided r)
elided_long n (Ok xs) h = h
elided_long n (Err e) h = tt

so_long : (n : ℕ) (rs : List Number) → length rs ≡ n → Long n (of_elided (all_or_fault rs))
so_long n rs h = elided_long n (all_or_fault rs) (subst (λ m. Long m (all_or_fault rs)) h (all_long rs))

-- ---- the generics of `Self`

abbrev counted : Bool → ℕ → ℕ
counted true n = suc n
counted false n = n

-- how many of these are generics of `Self`
abbrev owns : List Occurrence → ℕ
owns [] = 0
owns (o ∷ os) = counted (is_own o.role) (owns os)

counted_add : (b : Bool) (m n : ℕ) → counted b (m + n) ≡ counted b m + n
counted_add true m n = omega arith
counted_add false m n = refl

owns_append : (xs ys : List Occurrence) → owns (xs ++ ys) ≡ owns xs + owns ys
owns_append [] ys = omega arith
owns_append (x ∷ xs) ys = ap (counted (is_own x.role)) (owns_append xs ys) ∙ counted_add (is_own x.role) (owns xs) (owns ys)

owns_own : (ls : List Lifetime) → owns (occurring Own ls) ≡ length ls
owns_own [] = refl
owns_own (l ∷ ls) = ap suc (owns_own ls)

owns_none : (role : Role) → is_own role ≡ false → (ls : List Lifetime) → owns (occurring role ls) ≡ 0
owns_none role h [] = refl
owns_none role h (l ∷ ls) = ap (λ b. counted b (owns (occurring role ls))) h ∙ owns_none role h ls

if_long : (b : Bool) (r : Number) (rest : List Number) (n : ℕ) → length rest ≡ n → length ((if b then r ∷ [] else []) ++ rest) ≡ counted b n
if_long true r rest n h = ap suc h
if_long false r rest n h = h

with_long : (names : List (List ℕ)) (c : ℕ) (os : List Occurrence) → length (numbers_with is_own names c os) ≡ owns os
with_long names c [] = refl
with_long names c (o ∷ os) =
    if_long (is_own o.role) (lifetime_number names c o.lifetime) (numbers_with is_own names (one_if_anonymous o.lifetime c) os) (owns os) (with_long names (one_if_anonymous o.lifetime c) os)

used_long : (s : Signature) → length (used_as is_own s) ≡ owns s.occurrences
used_long s = with_long _ _ s.occurrences

-- ---- uses

-- no part but for `Self` itself has the role of its generics
abbrev pub IsApart : Phase → Type 0
IsApart (Using role) = is_own role ≡ false
IsApart Returning = ⊤
IsApart Defining = ⊤

-- a use names something and doesn't write too many; and what is `Self`, but for that of a definition, declares c lifetimes
abbrev pub IsFit : ℕ → Phase → Use → Type 0
IsFit c phase (One l) = ⊤
IsFit c phase (Path is_self path None) = ⊥
IsFit c phase (Path is_self path (Some found)) = (length path.lifetimes ≤ found.count) × (meets_at phase is_self ≡ true → found.count ≡ c)

abbrev pub PlacedFit : ℕ → Placed → Type 0
PlacedFit c p = IsApart (phase_of p.0) × IsFit c (phase_of p.0) p.1

abbrev owned : ℕ → Bool → ℕ
owned c true = c
owned c false = 0

stays_owned : (c : ℕ) (met : Bool) (n : ℕ) → n ≡ 0 → owned c met + n ≡ owned c (met || false)
stays_owned c true n h = omega (arith, h)
stays_owned c false n h = omega (arith, h)

own_owned : (c : ℕ) (met : Bool) (ls : List Lifetime) → length ls ≡ c → owned c met + owns (own_told met ls) ≡ owned c (met || true)
own_owned c true ls h = omega arith
own_owned c false ls h = let all = owns_own ls in omega (arith, all, h)

step_owned : (c : ℕ) (met : Bool) (phase : Phase) (u : Use) → IsApart phase → IsFit c phase u → owned c met + owns (use_told met phase u) ≡ owned c (met || phase_meets phase u)
step_owned c met (Using role) (One l) apart fit = stays_owned c met _ (owns_none role apart (l ∷ []))
step_owned c met (Using role) (Path is_self path None) apart fit = absurd fit
step_owned c met (Using role) (Path true path (Some found)) apart fit = own_owned c met (filled path.lifetimes found.count) (filled_long path.lifetimes found.count fit.0 ∙ fit.1 refl)
step_owned c met (Using role) (Path false path (Some found)) apart fit = stays_owned c met _ (owns_none role apart (filled path.lifetimes found.count))
step_owned c met Returning (One l) apart fit = stays_owned c met 0 refl
step_owned c met Returning (Path is_self path None) apart fit = absurd fit
step_owned c met Returning (Path true path (Some found)) apart fit = own_owned c met (filled path.lifetimes found.count) (filled_long path.lifetimes found.count fit.0 ∙ fit.1 refl)
step_owned c met Returning (Path false path (Some found)) apart fit = stays_owned c met 0 refl
step_owned c met Defining u apart fit = stays_owned c met 0 refl

-- ---- answers

-- the lists are as long as the uses have lifetimes, if there are any
abbrev AreLong : List Use → Result NumberLists NumberFault → Type 0
AreLong us (Ok nss) = map length nss ≡ map arity_of_use us
AreLong us (Err e) = ⊤

arity_long : (n : ℕ) (b : Bool) (r : Answer) → Long n r → Long n (if b then Err fault.LifetimeArity else r)
arity_long n true r h = tt
arity_long n false r h = h

with_answer_long : (u : Use) (us : List Use) (ns : List (MaybeStatic ℕ)) (r : Result NumberLists NumberFault) → length ns ≡ arity_of_use u → AreLong us r → AreLong (u ∷ us) (with_answer ns r)
with_answer_long u us ns (Ok nss) h k = ap (λ n. n ∷ map length nss) h ∙ ap (λ xs. arity_of_use u ∷ xs) k
with_answer_long u us ns (Err e) h k = tt

then_long : (u : Use) (us : List Use) (r : Answer) (rs : List Answer) → Long (arity_of_use u) r → AreLong us (all_answers rs) → AreLong (u ∷ us) (all_answers (r ∷ rs))
then_long u us (Ok ns) rs h k = with_answer_long u us ns (all_answers rs) h k
then_long u us (Err e) rs h k = tt

module _ (declared : LifetimeEnv) (c : ℕ) where
  -- what stands of `Self` after these
  abbrev Owned : List Placed → Type 0
  Owned before = owns (told before) ≡ owned c (has_own before)

  owned_push : (before : List Placed) (p : Placed) → Owned before → PlacedFit c p → Owned (before ++ p ∷ [])
  owned_push before p h fit =
      ap owns (told_push before p)
      ∙ owns_append (told before) (use_told (has_own before) (phase_of p.0) p.1)
      ∙ ap (λ n. n + owns (use_told (has_own before) (phase_of p.0) p.1)) h
      ∙ step_owned c (has_own before) (phase_of p.0) p.1 fit.0 fit.1
      ∙ ap (λ b. owned c (has_own before || b)) (sym (meets_same p.0 p.1))
      ∙ ap (owned c) (sym (has_push before p))

  use_long : (before : List Placed) (p : Placed) → Owned before → PlacedFit c p → Long (arity_of_use p.1) (use_answer (phase_of p.0) (signature_with declared before) p.1)
  use_long before (part, One l) h fit = so_long 1 (lowered (phase_of part) (signature_with declared before) l ∷ []) refl
  use_long before (part, Path is_self path None) h fit = absurd fit.1
  use_long before (part, Path is_self path (Some found)) h fit =
      let s : Signature = signature_with declared before in
      let rs : List Number = lowered_generics (phase_of part) is_self s (filled path.lifetimes found.count) in
      arity_long found.count (nat_lt found.count (length path.lifetimes)) (of_elided (all_or_fault rs))
      (so_long found.count rs (generics_long (phase_of part) is_self s (filled path.lifetimes found.count) found.count (filled_long path.lifetimes found.count fit.1.0)
      (λ own met. used_long s ∙ h ∙ ap (owned c) met ∙ sym (fit.1.1 own))))

  answers_long : (before ps : List Placed) → Owned before → Each (PlacedFit c) ps
      → AreLong (uses_of ps) (all_answers (each_after (λ b p. use_answer (phase_of p.0) (signature_with declared b) p.1 ∷ []) before ps))
  answers_long before [] h fit = refl
  answers_long before (p ∷ ps) h fit =
      then_long p.1 (uses_of ps) (use_answer (phase_of p.0) (signature_with declared before) p.1)
      (each_after (λ b q. use_answer (phase_of q.0) (signature_with declared b) q.1 ∷ []) (before ++ p ∷ []) ps)
      (use_long before p h fit.0) (answers_long (before ++ p ∷ []) ps (owned_push before p h fit.0) fit.1)

  few_long : (us : List Use) (b : Bool) (r : Result NumberLists NumberFault) → AreLong us r → AreLong us (if b then Err (fault.Elide elide.TooManyLifetimes) else r)
  few_long us true r h = tt
  few_long us false r h = h

  -- the numbers of a signature are as many as its uses have lifetimes
  pub numbers_arity : (ps : List Placed) (nss : NumberLists) → Each (PlacedFit c) ps → signature_numbers declared ps ≡ Ok nss → HaveArity ps nss
  numbers_arity ps nss fit is =
      subst (AreLong (uses_of ps)) is (few_long (uses_of ps) (nat_lt most (length declared.nodes)) (all_answers (answers declared ps)) (answers_long [] ps refl fit))
