-- A definition whose uses of lifetimes have numbers has no breach that numbers ask about: each path names something and gives no more
-- lifetimes than that has.
use Rattle.std.proofs.Common.{◌≡◌, ℕ, List, [], ◌∷◌, ◌++◌, length, Bool, true, false, Some, None, Result, Ok, Err, refl}
use Rattle.std.specs.Prelude.{nat_lt, if◌then◌else◌}
use Rattle.std.proofs.lemmas.Bool.{ltb-false}
use Rattle.bridge_ast.specs.Each.{each_after}
use Rattle.bridge_decl.specs.declared.lifetimes.LifetimeEnv.{LifetimeEnv}
use Rattle.hir_elide.proofs.BelowLemmas.{Each}
use Rattle.hir_elide.specs.Numbering.{most}
use Rattle.hir_elide.specs.Occurrences.{Signature}
use Rattle.hir_elide.specs.Phases.{Defining}
use Rattle.hir_life.specs.declared.maybe_static.MaybeStatic.{MaybeStatic}
use Rattle.hir_number.proofs.ArityLemmas.{PlacedFit}
use Rattle.hir_number.specs.Numbers.{Answer, all_answers, answers, signature_numbers, use_answer, with_answer}
use Rattle.hir_number.specs.Occurrences.{signature_with}
use Rattle.hir_number.specs.Shapes.{NumberLists}
use Rattle.hir_number.specs.Signatures.{Placed, Usual, phase_of, placed}
use Rattle.hir_number.specs.Uses.{Use, One, Path}
use Rattle.hir_number.specs.declared.fault.NumberFault.{NumberFault}

-- an answer isn't a fault
no_fault : {A : Type 0} {x : A} {e : NumberFault} → Err e ≡ Ok x → ⊥
no_fault h = cc

-- of a choice that gives an answer, the fault wasn't chosen
not_refused : {A : Type 0} (b : Bool) (e : NumberFault) (r : Result A NumberFault) (x : A) → (if b then Err e else r) ≡ Ok x → (b ≡ false) × (r ≡ Ok x)
not_refused true e r x h = absurd (no_fault h)
not_refused false e r x h = (refl, h)

-- ---- all answers

others_ok : (ns : List (MaybeStatic ℕ)) (r : Result NumberLists NumberFault) (nss : NumberLists) → with_answer ns r ≡ Ok nss → (others : NumberLists) × (r ≡ Ok others)
others_ok ns (Ok others) nss h = (others, refl)
others_ok ns (Err e) nss h = absurd (no_fault h)

first_ok : (a : Answer) (rest : List Answer) (nss : NumberLists) → all_answers (a ∷ rest) ≡ Ok nss → ((ns : List (MaybeStatic ℕ)) × (a ≡ Ok ns)) × ((others : NumberLists) × (all_answers rest ≡ Ok others))
first_ok (Ok ns) rest nss h = ((ns, refl), others_ok ns (all_answers rest) nss h)
first_ok (Err e) rest nss h = absurd (no_fault h)

-- ---- uses in a definition

use_defined : (s : Signature) (u : Use) (ns : List (MaybeStatic ℕ)) → use_answer Defining s u ≡ Ok ns → PlacedFit 0 (Usual Defining, u)
use_defined s (One l) ns h = (tt, tt)
use_defined s (Path is_self path None) ns h = absurd (no_fault h)
use_defined s (Path is_self path (Some found)) ns h =
    (tt, (ltb-false found.count (length path.lifetimes) (not_refused (nat_lt found.count (length path.lifetimes)) _ _ ns h).0, λ own. absurd cc))

uses_defined : (declared : LifetimeEnv) (before : List Placed) (us : List Use) (nss : NumberLists)
    → all_answers (each_after (λ b p. use_answer (phase_of p.0) (signature_with declared b) p.1 ∷ []) before (placed (Usual Defining) us)) ≡ Ok nss → Each (PlacedFit 0) (placed (Usual Defining) us)
uses_defined declared before [] nss h = tt
uses_defined declared before (u ∷ us) nss h =
    let later = before ++ (Usual Defining, u) ∷ [] in
    let parts = first_ok (use_answer Defining (signature_with declared before) u)
    (each_after (λ b p. use_answer (phase_of p.0) (signature_with declared b) p.1 ∷ []) later (placed (Usual Defining) us)) nss h in
    (use_defined (signature_with declared before) u parts.0.0 parts.0.1, uses_defined declared later us parts.1.0 parts.1.1)

pub definition_fit : (declared : LifetimeEnv) (us : List Use) (nss : NumberLists) → signature_numbers declared (placed (Usual Defining) us) ≡ Ok nss → Each (PlacedFit 0) (placed (Usual Defining) us)
definition_fit declared us nss is =
    uses_defined declared [] us nss (not_refused (nat_lt most (length declared.nodes)) _ (all_answers (answers declared (placed (Usual Defining) us))) nss is).1
