-- What a lowerer keeps of a signature after more lifetimes are used.
use Rattle.std.proofs.Common.{◌≡◌, ℕ, Bool, true, false, List, [], ◌∷◌, ◌++◌, map, Option, Some, None, Result, Ok, Err, length, refl, sym, ap, ◌∙◌, subst}
use Rattle.std.specs.Prelude.{IfOk, OnOk}
use Rattle.bridge_decl.specs.Lifetimes.{lifetime_names}
use Rattle.bridge_decl.specs.declared.lifetimes.Lifetime.{Lifetime}
use Rattle.hir_elide.specs.declared.fault.ElideFault.{ElideFault}
use Rattle.hir_elide.specs.declared.numbering.Numbering.{Numbering}
use Rattle.hir_elide.specs.declared.source.ElisionSource.{ElisionSource}
use Rattle.hir_elide.specs.declared.source.ElisionSource.TheVariants as source
use Rattle.hir_elide.specs.Elision.{elided_by}
use Rattle.hir_elide.specs.Generics.{all_or_fault, met, own_numbers, with_own}
use Rattle.hir_elide.specs.Numbering.{Number, one_if_anonymous}
use Rattle.hir_elide.specs.Occurrences.{Borrow, Counting, Own, Role, Signature, is_borrow, is_counting, is_own, numbers_with, used_as}
use Rattle.hir_elide.specs.Phases.{Using, lowered, lowered_each, with_uses}
use Rattle.hir_elide.specs.inside.Sources.{IsSource, elided_from, with_counting}
use Rattle.hir_elide.specs.inside.Standing.{IsOwn, Numbers}
use Rattle.hir_elide.proofs.GenericLemmas.{all_ok}
use Rattle.hir_elide.proofs.OccurrenceLemmas.{count_used, used_otherwise, used_so}
use Rattle.hir_life.specs.declared.maybe_static.MaybeStatic.{MaybeStatic}
use Rattle.hir_life.specs.Declarations.{bounded}
use Rattle.hir_life.specs.Environment.{Environment}

-- where the count is what it is to be
pub numbers_used : (it : Numbering) (s : Signature) (role : Role) (l : Lifetime) (made : Environment) → Numbers it s
    → made ≡ record { bounds = it.lifetimes.bounds; count = one_if_anonymous l it.lifetimes.count }
    → Numbers (record { names = it.names; lifetimes = made; own = it.own }) (with_uses (Using role) s (l ∷ []))
numbers_used it s role l made numbers is = record {
  names = numbers.names;
  lifetimes =
      is ∙ ap (λ (e : Environment). record { bounds = e.bounds; count = one_if_anonymous l e.count }) numbers.lifetimes
      ∙ ap (λ (n : ℕ). record { bounds = map bounded s.declared.nodes; count = n }) (sym (count_used s role (l ∷ [])));
}

-- any other lifetime leaves the count as it is
pub numbers_same : (it : Numbering) (s : Signature) (role : Role) (l : Lifetime) → Numbers it s → one_if_anonymous l it.lifetimes.count ≡ it.lifetimes.count
    → Numbers it (with_uses (Using role) s (l ∷ []))
numbers_same it s role l numbers same =
    numbers_used it s role l it.lifetimes numbers (ap (λ (n : ℕ). record { bounds = it.lifetimes.bounds; count = n }) (sym same))

-- ---- the generics of `Self`

-- a lifetime of another role leaves them as they are
pub own_otherwise : (own : Option (List (MaybeStatic ℕ))) (s : Signature) (role : Role) (ls : List Lifetime) → is_own role ≡ false → IsOwn own s → IsOwn own (with_uses (Using role) s ls)
own_otherwise None s role ls other own = (own.0, used_otherwise is_own role s ls other ∙ own.1)
own_otherwise (Some ns) s role ls other own = (own.0, used_otherwise is_own role s ls other ∙ own.1)

-- where they were met, they are these
pub own_again : (s : Signature) (ls : List Lifetime) (ns : List (MaybeStatic ℕ)) → IsOwn (Some ns) s → all_or_fault (own_numbers s.has_self s ls) ≡ Ok ns
own_again s ls ns own = ap (λ b. all_or_fault (own_numbers b s ls)) own.0 ∙ ap all_or_fault own.1 ∙ all_ok ns

-- where they weren't, they are met
first_with : (s : Signature) (ls : List Lifetime) → IsOwn None s → met (with_uses (Using Own) s ls) ≡ with_own s.has_self s ls
first_with s ls own = ap (λ b. with_own b s ls) (sym own.0)

own_met : (s : Signature) (ls : List Lifetime) (ns : List (MaybeStatic ℕ)) → IsOwn None s → lowered_each (Using Own) s ls ≡ map Ok ns
    → IsOwn (Some ns) (with_own s.has_self s ls)
own_met s ls ns own is =
    subst (IsOwn (Some ns)) (first_with s ls own) (refl, used_so is_own Own s ls refl ∙ ap (λ xs. xs ++ lowered_each (Using Own) s ls) own.1 ∙ is)

pub first_met : (r : Result (List (MaybeStatic ℕ)) ElideFault) (own : Option (List (MaybeStatic ℕ))) (s : Signature) (ls : List Lifetime) → IsOwn None s
    → IfOk r (λ ns. (own ≡ Some ns) × (lowered_each (Using Own) s ls ≡ map Ok ns)) → OnOk r (IsOwn own (with_own s.has_self s ls))
first_met (Ok ns) own s ls unmet h = subst (λ o. IsOwn o (with_own s.has_self s ls)) (sym h.0) (own_met s ls ns unmet h.1)
first_met (Err e) own s ls unmet h = tt

-- ---- the source of elision

pub elided_source : (src : ElisionSource) (bs cs : List Number) → IsSource src bs cs → elided_from src ≡ elided_by bs cs
elided_source source.NoBorrows bs cs h = rw (h.0, h.1) refl
elided_source (source.SelfParam b) bs cs h = rw h.1 refl
elided_source (source.OneParam c) bs cs h = rw (h.0, h.1) refl
elided_source source.MultipleBorrows bs cs h = rw (h.0, h.4) refl

pub source_counting : (src : ElisionSource) (bs cs : List Number) (n : MaybeStatic ℕ) → IsSource src bs cs → IsSource (with_counting src n) bs (cs ++ Ok n ∷ [])
source_counting source.NoBorrows bs cs n h = (h.0, ap (λ xs. xs ++ Ok n ∷ []) h.1)
source_counting (source.SelfParam b) bs cs n h = h
source_counting (source.OneParam c) bs cs n h = (h.0, Ok c, Ok n, [], ap (λ xs. xs ++ Ok n ∷ []) h.1)
source_counting source.MultipleBorrows bs cs n h = (h.0, h.1, h.2, h.3 ++ Ok n ∷ [], ap (λ xs. xs ++ Ok n ∷ []) h.4)

-- the generics of `Self` leave it as it is
own_uses : (has_self : Bool) (s : Signature) (ls : List Lifetime) → (used_as is_borrow (with_own has_self s ls) ≡ used_as is_borrow s) × (used_as is_counting (with_own has_self s ls) ≡ used_as is_counting s)
own_uses true s ls = (refl, refl)
own_uses false s ls = (used_otherwise is_borrow Own s ls refl, used_otherwise is_counting Own s ls refl)

pub source_own : (src : ElisionSource) (s : Signature) (ls : List Lifetime) → IsSource src (used_as is_borrow s) (used_as is_counting s)
    → IsSource src (used_as is_borrow (with_own s.has_self s ls)) (used_as is_counting (with_own s.has_self s ls))
source_own src s ls h =
    let same : (used_as is_borrow (with_own s.has_self s ls) ≡ used_as is_borrow s) × (used_as is_counting (with_own s.has_self s ls) ≡ used_as is_counting s) = own_uses s.has_self s ls in
    subst (λ bs. IsSource src bs (used_as is_counting (with_own s.has_self s ls))) (sym same.0) (subst (λ cs. IsSource src (used_as is_borrow s) cs) (sym same.1) h)

-- one more lifetime that counts
pub source_used : (src : ElisionSource) (s : Signature) (l : Lifetime) (n : MaybeStatic ℕ) → Ok n ≡ lowered (Using Counting) s l
    → IsSource src (used_as is_borrow s) (used_as is_counting s)
    → IsSource (with_counting src n) (used_as is_borrow (with_uses (Using Counting) s (l ∷ []))) (used_as is_counting (with_uses (Using Counting) s (l ∷ [])))
source_used src s l n told h =
    subst (λ bs. IsSource (with_counting src n) bs (used_as is_counting (with_uses (Using Counting) s (l ∷ [])))) (sym (used_otherwise is_borrow Counting s (l ∷ []) refl))
    (subst (λ cs. IsSource (with_counting src n) (used_as is_borrow s) cs)
    (ap (λ x. used_as is_counting s ++ x ∷ []) told ∙ sym (used_so is_counting Counting s (l ∷ []) refl))
    (source_counting src (used_as is_borrow s) (used_as is_counting s) n h))

-- the receiver's borrow, where nothing was used before it
pub none_used : (has_role : Role → Bool) (s : Signature) → s.occurrences ≡ [] → used_as has_role s ≡ []
none_used has_role s unused = ap (λ os. numbers_with has_role (lifetime_names s.declared) (length s.declared.nodes) os) unused

pub source_borrow : (s : Signature) (l : Lifetime) (n : MaybeStatic ℕ) → Ok n ≡ lowered (Using Borrow) s l → s.occurrences ≡ []
    → IsSource (source.SelfParam n) (used_as is_borrow (with_uses (Using Borrow) s (l ∷ []))) (used_as is_counting (with_uses (Using Borrow) s (l ∷ [])))
source_borrow s l n told unused = (
  [],
  used_so is_borrow Borrow s (l ∷ []) refl ∙ ap (λ xs. xs ++ lowered (Using Borrow) s l ∷ []) (none_used is_borrow s unused) ∙ ap (λ x. x ∷ []) (sym told),
)

-- ---- answers

pub on_ok : {A E : Type 0} (r : Result A E) (P : Type 0) → P → OnOk r P
on_ok (Ok x) P h = h
on_ok (Err e) P h = tt

pub on_ok_both : {A E : Type 0} (r : Result A E) (P Q R : Type 0) → OnOk r P → OnOk r Q → (P → Q → R) → OnOk r R
on_ok_both (Ok x) P Q R p q f = f p q
on_ok_both (Err e) P Q R p q f = tt
