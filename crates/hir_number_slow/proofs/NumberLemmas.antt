-- Numbers of lifetimes, one after another.
use Rattle.std.proofs.Common.{◌≡◌, ℕ, ◌+◌, ◌<◌, Bool, true, false, cond, List, [], ◌∷◌, ◌++◌, length, map, take, get_or, Result, Ok, Err, refl, sym, ap, ◌∙◌, append_assoc}
use Rattle.std.proofs.lemmas.List.{append-nil, map-append}
use Rattle.bridge_decl.specs.declared.lifetimes.Lifetime.{Lifetime}
use Rattle.bridge_decl.specs.declared.lifetimes.LifetimeEnv.{LifetimeEnv}
use Rattle.bridge_decl.specs.Lifetimes.{lifetime_names}
use Rattle.hir_elide.specs.declared.fault.ElideFault.{ElideFault}
use Rattle.hir_elide.specs.Generics.{with_first}
use Rattle.hir_elide.specs.Numbering.{Number, lifetime_number, lifetime_numbers}
use Rattle.hir_elide.specs.Occurrences.{Occurrence, Role, Signature, count_of, used_as}
use Rattle.hir_elide.specs.Phases.{Phase, Using, Returning, Defining, defined, lowered, lowered_each, occurring, returned, with_uses}
use Rattle.hir_elide.proofs.OccurrenceLemmas.{count_used, numbers_more, used_otherwise, used_so}
use Rattle.hir_life.specs.declared.maybe_static.MaybeStatic.{MaybeStatic}
use Rattle.hir_number.specs.declared.fault.NumberFault.{NumberFault}
use Rattle.hir_number.specs.Numbers.{with_answer}
use Rattle.hir_number.specs.Occurrences.{Appearance, elide_occurrence, elide_role}
use Rattle.hir_number_slow.specs.declared.occurrences.Occurrence.{Occurrence as Occurring}
use Rattle.hir_number_slow.specs.Seen.{appearance_seen, role_seen, signature_seen, written_seen}
use Rattle.hir_number_slow.proofs.StepLemmas.{after, map_more}

-- ---- lifetimes that are used next

abbrev with_more : Signature → List Occurrence → Signature
with_more s os = record { declared = s.declared; occurrences = os; has_self = s.has_self }

pub lowered_none : (phase : Phase) (s : Signature) → lowered_each phase s [] ≡ []
lowered_none (Using role) s = refl
lowered_none Returning s = refl
lowered_none Defining s = refl

pub used_none : (phase : Phase) (s : Signature) → with_uses phase s [] ≡ s
used_none (Using role) s = ap (with_more s) (append-nil s.occurrences)
used_none Returning s = refl
used_none Defining s = refl

pub lowered_more : (phase : Phase) (s : Signature) (ls : List Lifetime) (l : Lifetime)
    → lowered_each phase s (ls ++ l ∷ []) ≡ lowered_each phase s ls ++ lowered phase (with_uses phase s ls) l ∷ []
lowered_more (Using role) s ls l =
    numbers_more (lifetime_names s.declared) (count_of s) ls (l ∷ [])
    ∙ ap (λ count. lifetime_numbers (lifetime_names s.declared) (count_of s) ls ++ lifetime_numbers (lifetime_names s.declared) count (l ∷ [])) (sym (count_used s role ls))
lowered_more Returning s ls l = map-append (returned s) ls (l ∷ [])
lowered_more Defining s ls l = map-append (defined s) ls (l ∷ [])

pub used_more : (phase : Phase) (s : Signature) (ls : List Lifetime) (l : Lifetime) → with_uses phase s (ls ++ l ∷ []) ≡ with_uses phase (with_uses phase s ls) (l ∷ [])
used_more (Using role) s ls l =
    ap (with_more s)
    (ap (λ ps. s.occurrences ++ ps) (map-append (λ k. record { lifetime = k; role = role }) ls (l ∷ []))
    ∙ sym (append_assoc s.occurrences (occurring role ls) (occurring role (l ∷ []))))
used_more Returning s ls l = refl
used_more Defining s ls l = refl

pub lowered_one : (phase : Phase) (s : Signature) (l : Lifetime) → lowered_each phase s (l ∷ []) ≡ lowered phase s l ∷ []
lowered_one (Using role) s l = refl
lowered_one Returning s l = refl
lowered_one Defining s l = refl

-- a loop that lowers all of these, and has come as far as l
module _ (phase : Phase) (s : Signature) (ls all : List Lifetime) (l : Lifetime) (at : Signature) (is : all ≡ ls ++ l ∷ []) (used : at ≡ with_uses phase s ls) where
  pub numbers_on : (numbers made : List Number) (number : Number) → numbers ≡ lowered_each phase s ls → number ≡ lowered phase at l → made ≡ numbers ++ number ∷ []
      → made ≡ lowered_each phase s all
  numbers_on numbers made number so_far told pushed =
      pushed ∙ ap (λ n. numbers ++ n ∷ []) (told ∙ ap (λ t. lowered phase t l) used)
      ∙ ap (λ ns. ns ++ lowered phase (with_uses phase s ls) l ∷ []) so_far ∙ sym (lowered_more phase s ls l) ∙ ap (lowered_each phase s) (sym is)

  pub used_on : (next : Signature) → next ≡ with_uses phase at (l ∷ []) → next ≡ with_uses phase s all
  used_on next added = added ∙ ap (λ t. with_uses phase t (l ∷ [])) used ∙ sym (used_more phase s ls l) ∙ ap (with_uses phase s) (sym is)

-- ---- those in a role

abbrev pub number_if : Bool → Number → List Number
number_if b number = cond {A = List Number} b (number ∷ []) []

pub role_more : (has_role : Role → Bool) (s : Signature) (o : Occurrence)
    → used_as has_role (with_more s (s.occurrences ++ o ∷ [])) ≡ used_as has_role s ++ number_if (has_role o.role) (lifetime_number (lifetime_names s.declared) (count_of s) o.lifetime)
role_more has_role s o = by (has_role o.role) refl
  where
    by : (b : Bool) → has_role o.role ≡ b
        → used_as has_role (with_more s (s.occurrences ++ o ∷ [])) ≡ used_as has_role s ++ number_if (has_role o.role) (lifetime_number (lifetime_names s.declared) (count_of s) o.lifetime)
    by true same = used_so has_role o.role s (o.lifetime ∷ []) same ∙ ap (λ b. used_as has_role s ++ number_if b (lifetime_number (lifetime_names s.declared) (count_of s) o.lifetime)) (sym same)
    by false other =
        used_otherwise has_role o.role s (o.lifetime ∷ []) other ∙ sym (append-nil (used_as has_role s))
        ∙ ap (λ b. used_as has_role s ++ number_if b (lifetime_number (lifetime_names s.declared) (count_of s) o.lifetime)) (sym other)

abbrev elided_seen : List Occurring → List Occurrence
elided_seen os = map elide_occurrence (map appearance_seen os)

elided_more : (os : List Occurring) (i : ℕ) (o : Occurring) → i < length os → o ≡ get_or os i o
    → elided_seen (take (i + 1) os) ≡ elided_seen (take i os) ++ elide_occurrence (appearance_seen o) ∷ []
elided_more os i o within is = ap (map elide_occurrence) (map_more appearance_seen os i o within is) ∙ map-append elide_occurrence (map appearance_seen (take i os)) (appearance_seen o ∷ [])

-- a loop that has come as far as o
module _ (has_role : Role → Bool) (declared : LifetimeEnv) (os : List Occurring) (i : ℕ) (o : Occurring) (within : i < length os) (is : o ≡ get_or os i o) (numbers : List Number)
    (so_far : numbers ≡ used_as has_role (signature_seen declared (take i os) false)) where
  abbrev its_number : Number
  its_number = lifetime_number (lifetime_names declared) (count_of (signature_seen declared (take i os) false)) (written_seen o.lifetime)

  next_is : (b : Bool) → has_role (elide_role (role_seen o.role)) ≡ b → numbers ++ number_if b its_number ≡ used_as has_role (signature_seen declared (take (i + 1) os) false)
  next_is b same =
      ap (λ ns. ns ++ number_if b its_number) so_far
      ∙ ap (λ c. used_as has_role (signature_seen declared (take i os) false) ++ number_if c its_number) (sym same)
      ∙ sym (role_more has_role (signature_seen declared (take i os) false) (elide_occurrence (appearance_seen o)))
      ∙ ap (λ ps. used_as has_role (with_more (signature_seen declared (take i os) false) ps)) (sym (elided_more os i o within is))

  pub wanted_on : (made : List Number) (number : Number) → true ≡ has_role (elide_role (role_seen o.role)) → number ≡ its_number → made ≡ numbers ++ number ∷ []
      → made ≡ used_as has_role (signature_seen declared (take (i + 1) os) false)
  wanted_on made number wanted told pushed = pushed ∙ ap (λ n. numbers ++ n ∷ []) told ∙ next_is true (sym wanted)

  pub passed_on : (made : List Number) → false ≡ has_role (elide_role (role_seen o.role)) → made ≡ numbers
      → made ≡ used_as has_role (signature_seen declared (take (i + 1) os) false)
  passed_on made other kept = kept ∙ sym (append-nil numbers) ∙ next_is false (sym other)

-- the lifetimes of occurrences
pub lifetimes_seen : (os : List Occurring) → map (λ o. o.lifetime) (elided_seen os) ≡ map (λ o. written_seen o.lifetime) os
lifetimes_seen [] = refl
lifetimes_seen (o ∷ os) = ap (λ ls. written_seen o.lifetime ∷ ls) (lifetimes_seen os)

-- a signature by what it has
pub signature_is : (declared : LifetimeEnv) (os : List Occurring) (met : Bool) (appearances : List Appearance) (has_self : Bool) → map appearance_seen os ≡ appearances → met ≡ has_self
    → signature_seen declared os met ≡ record { declared = declared; occurrences = map elide_occurrence appearances; has_self = has_self }
signature_is declared os met appearances has_self same kept =
    ap {B = Signature} (λ (es : List Appearance). record { declared = declared; occurrences = map elide_occurrence es; has_self = met }) same
    ∙ ap {B = Signature} (λ (b : Bool). record { declared = declared; occurrences = map elide_occurrence appearances; has_self = b }) kept

-- ---- all, or the first fault

pub first_after : (ns : List (MaybeStatic ℕ)) (n : MaybeStatic ℕ) (r : Result (List (MaybeStatic ℕ)) ElideFault) → after ns (with_first n r) ≡ after (ns ++ n ∷ []) r
first_after ns n (Ok ms) = ap Ok (sym (append_assoc ns (n ∷ []) ms))
first_after ns n (Err e) = refl

pub answer_after : {A : Type 0} (xs : List A) (x : A) (r : Result (List A) NumberFault) → after xs (with_answer x r) ≡ after (xs ++ x ∷ []) r
answer_after xs x (Ok ys) = ap Ok (sym (append_assoc xs (x ∷ []) ys))
answer_after xs x (Err e) = refl
