-- Lists of lifetimes, lowered one after another.
use Rattle.std.proofs.Common.{◌≡◌, arith, ℕ, suc, ◌+◌, ◌-◌, ◌<◌, List, [], ◌∷◌, ◌++◌, take, drop, get_or, length, map, replicate, Ok, Err, Result, refl, sym, ap, subst, ◌∙◌, append_assoc}
use Rattle.std.proofs.lemmas.List.{append-nil, drop_more, replicate-append-replicate, take-append-drop, take_more, map-append}
use Rattle.bridge_decl.specs.declared.lifetimes.Lifetime.{Lifetime}
use Rattle.bridge_decl.specs.declared.lifetimes.Lifetime.TheVariants as written
use Rattle.bridge_decl.specs.Lifetimes.{lifetime_names}
use Rattle.hir_elide.specs.declared.fault.ElideFault.{ElideFault}
use Rattle.hir_elide.specs.declared.fault.ElideFault.TheVariants as fault
use Rattle.hir_elide.specs.Generics.{TellsFault, all_or_fault, with_first}
use Rattle.hir_elide.specs.Numbering.{Number, lifetime_numbers, one_if_anonymous}
use Rattle.hir_elide.specs.Occurrences.{Occurrence, Signature, count_of}
use Rattle.hir_elide.specs.Phases.{Defining, Phase, Returning, Using, defined, lowered, lowered_each, occurring, returned, with_uses}
use Rattle.hir_elide.proofs.OccurrenceLemmas.{count_used, numbers_more}
use Rattle.hir_life.specs.declared.maybe_static.MaybeStatic.{MaybeStatic}

-- ---- a list of numbers and faults

pub all_ok : (ns : List (MaybeStatic ℕ)) → all_or_fault (map Ok ns) ≡ Ok ns
all_ok [] = refl
all_ok (n ∷ ns) = ap (with_first n) (all_ok ns)

first_err : (ns : List (MaybeStatic ℕ)) (e : ElideFault) (rest : List Number) → all_or_fault (map Ok ns ++ Err e ∷ rest) ≡ Err e
first_err [] e rest = refl
first_err (n ∷ ns) e rest = ap (with_first n) (first_err ns e rest)

of_rest : (n : MaybeStatic ℕ) (r : Result (List (MaybeStatic ℕ)) ElideFault) (e : ElideFault) → with_first n r ≡ Err e → r ≡ Err e
of_rest n (Ok ns) e h = absurd cc
of_rest n (Err d) e h = h

err_more : (xs ys : List Number) (e : ElideFault) → all_or_fault xs ≡ Err e → all_or_fault (xs ++ ys) ≡ Err e
err_more [] ys e h = absurd cc
err_more (Ok n ∷ xs) ys e h = ap (with_first n) (err_more xs ys e (of_rest n (all_or_fault xs) e h))
err_more (Err d ∷ xs) ys e h = h

-- a fault tells itself
pub tells : {A : Type 0} (e : ElideFault) (r : Result A ElideFault) → r ≡ Err e → TellsFault e r
tells fault.NoMemory r h = tt
tells fault.LifetimeUnknown r h = h
tells fault.AnonymousInDefinition r h = h
tells fault.ElisionNoSource r h = h
tells fault.ElisionAmbiguous r h = h
tells fault.TooManyLifetimes r h = h
tells fault.BadIdent r h = h

-- ---- two lists, one after the other

each_more : (phase : Phase) (s : Signature) (ls ks : List Lifetime) → lowered_each phase s (ls ++ ks) ≡ lowered_each phase s ls ++ lowered_each phase (with_uses phase s ls) ks
each_more (Using role) s ls ks =
    numbers_more (lifetime_names s.declared) (count_of s) ls ks
    ∙ ap (λ count. lifetime_numbers (lifetime_names s.declared) (count_of s) ls ++ lifetime_numbers (lifetime_names s.declared) count ks) (sym (count_used s role ls))
each_more Returning s ls ks = map-append (returned s) ls ks
each_more Defining s ls ks = map-append (defined s) ls ks

uses_more : (phase : Phase) (s : Signature) (ls ks : List Lifetime) → with_uses phase s (ls ++ ks) ≡ with_uses phase (with_uses phase s ls) ks
uses_more (Using role) s ls ks =
    ap {B = Signature} (λ (os : List Occurrence). record { declared = s.declared; occurrences = os; has_self = s.has_self })
    (ap (λ ps. s.occurrences ++ ps) (map-append (λ l. record { lifetime = l; role = role }) ls ks)
    ∙ sym (append_assoc s.occurrences (occurring role ls) (occurring role ks)))
uses_more Returning s ls ks = refl
uses_more Defining s ls ks = refl

first_is : (phase : Phase) (s : Signature) (l : Lifetime) (ks : List Lifetime) → (rest : List Number) × (lowered_each phase s (l ∷ ks) ≡ lowered phase s l ∷ rest)
first_is (Using role) s l ks = (lifetime_numbers (lifetime_names s.declared) (one_if_anonymous l (count_of s)) ks, refl)
first_is Returning s l ks = (map (returned s) ks, refl)
first_is Defining s l ks = (map (defined s) ks, refl)

only_is : (phase : Phase) (s : Signature) (l : Lifetime) → lowered_each phase s (l ∷ []) ≡ lowered phase s l ∷ []
only_is (Using role) s l = refl
only_is Returning s l = refl
only_is Defining s l = refl

-- a fault of the first of two lists is one of both
pub fault_more : (phase : Phase) (s : Signature) (ls ks : List Lifetime) (e : ElideFault) → all_or_fault (lowered_each phase s ls) ≡ Err e
    → TellsFault e (all_or_fault (lowered_each phase s (ls ++ ks)))
fault_more phase s ls ks e h =
    tells e (all_or_fault (lowered_each phase s (ls ++ ks)))
    (ap all_or_fault (each_more phase s ls ks) ∙ err_more (lowered_each phase s ls) (lowered_each phase (with_uses phase s ls) ks) e h)

-- ---- a list that a loop goes through: up to its lifetime l, and from there on

pub up_to : (ls : List Lifetime) (i : ℕ) (l : Lifetime) → i < length ls → l ≡ get_or ls i l → take (i + 1) ls ≡ take i ls ++ l ∷ []
up_to ls i l within is = take_more ls i l within ∙ ap (λ k. take i ls ++ k ∷ []) (sym is)

pub around : (ls : List Lifetime) (i : ℕ) (l : Lifetime) → i < length ls → l ≡ get_or ls i l → take i ls ++ l ∷ drop (i + 1) ls ≡ ls
around ls i l within is = ap (λ k. take i ls ++ k ∷ drop (i + 1) ls) is ∙ ap (λ xs. take i ls ++ xs) (sym (drop_more ls i l within)) ∙ take-append-drop i ls

-- so many anonymous lifetimes, and one more
pub one_more : (n : ℕ) → replicate n written.Anonymous ++ written.Anonymous ∷ [] ≡ replicate (n + 1) written.Anonymous
one_more n = replicate-append-replicate n 1 written.Anonymous

pub split_at : (n m : ℕ) → n < m → (k : ℕ) × (replicate n written.Anonymous ++ written.Anonymous ∷ replicate k written.Anonymous ≡ replicate m written.Anonymous)
split_at n m less =
    let k : ℕ = m - n - 1 in
    (k, replicate-append-replicate n (suc k) written.Anonymous ∙ ap (λ j. replicate j written.Anonymous) (omega (arith, less)))

-- ---- a loop that lowers a list

-- nothing was lowered
pub at_start : (phase : Phase) (s : Signature) (P : Signature → Type 0) → P s → (lowered_each phase s [] ≡ map Ok []) × P (with_uses phase s [])
at_start (Using role) s P h = (refl, subst P (ap {B = Signature} (λ (os : List Occurrence). record { declared = s.declared; occurrences = os; has_self = s.has_self }) (sym (append-nil s.occurrences))) h)
at_start Returning s P h = (refl, h)
at_start Defining s P h = (refl, h)

module _ (phase : Phase) (s : Signature) (ls : List Lifetime) (ns : List (MaybeStatic ℕ)) (l : Lifetime) (so_far : lowered_each phase s ls ≡ map Ok ns) where
  -- goes one lifetime on
  pub goes_on : (n : MaybeStatic ℕ) (P : Signature → Type 0) → Ok n ≡ lowered phase (with_uses phase s ls) l → P (with_uses phase (with_uses phase s ls) (l ∷ []))
      → (all : List Lifetime) → ls ++ l ∷ [] ≡ all → (made : List (MaybeStatic ℕ)) → made ≡ ns ++ n ∷ []
      → (lowered_each phase s all ≡ map Ok made) × P (with_uses phase s all)
  goes_on n P told kept all is made made_is = (
    ap (lowered_each phase s) (sym is) ∙ each_more phase s ls (l ∷ []) ∙ ap (λ xs. xs ++ lowered_each phase (with_uses phase s ls) (l ∷ [])) so_far
        ∙ ap (λ xs. map Ok ns ++ xs) (only_is phase (with_uses phase s ls) l) ∙ ap (λ x. map Ok ns ++ x ∷ []) (sym told)
        ∙ sym (map-append Ok ns (n ∷ [])) ∙ ap (map Ok) (sym made_is),
    subst (λ ks. P (with_uses phase s ks)) is (subst P (sym (uses_more phase s ls (l ∷ []))) kept),
  )

  -- or stops there
  pub stops : (rest : List Lifetime) (e : ElideFault) → Err e ≡ lowered phase (with_uses phase s ls) l → (all : List Lifetime) → ls ++ l ∷ rest ≡ all
      → all_or_fault (lowered_each phase s all) ≡ Err e
  stops rest e told all is =
      let first : (more : List Number) × (lowered_each phase (with_uses phase s ls) (l ∷ rest) ≡ lowered phase (with_uses phase s ls) l ∷ more) = first_is phase (with_uses phase s ls) l rest in
      ap (λ ks. all_or_fault (lowered_each phase s ks)) (sym is) ∙ ap all_or_fault (each_more phase s ls (l ∷ rest))
      ∙ ap (λ xs. all_or_fault (xs ++ lowered_each phase (with_uses phase s ls) (l ∷ rest))) so_far
      ∙ ap (λ xs. all_or_fault (map Ok ns ++ xs)) first.1 ∙ ap (λ x. all_or_fault (map Ok ns ++ x ∷ first.0)) (sym told) ∙ first_err ns e first.0
