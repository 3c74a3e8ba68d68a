-- The numbers of a signature's lifetimes: those of each use are a function of the declared names and of the uses before it.
use Rattle.std.specs.Prelude.{ℕ, List, [], ◌∷◌, length, Some, None, Result, Ok, Err, nat_lt, if◌then◌else◌}
use Rattle.bridge_decl.specs.declared.lifetimes.LifetimeEnv.{LifetimeEnv}
use Rattle.bridge_ast.specs.Each.{each}
use Rattle.hir_elide.specs.declared.fault.ElideFault.TheVariants as elide
use Rattle.hir_elide.specs.Generics.{all_or_fault, filled, lowered_generics}
use Rattle.hir_elide.specs.Numbering.{most}
use Rattle.hir_elide.specs.Occurrences.{Signature}
use Rattle.hir_elide.specs.Phases.{Phase, lowered}
use Rattle.hir_life.specs.declared.maybe_static.MaybeStatic.{MaybeStatic}
use Rattle.hir_number.specs.declared.fault.NumberFault.{NumberFault}
use Rattle.hir_number.specs.declared.fault.NumberFault.TheVariants as fault
use Rattle.hir_number.specs.Faults.{of_elided}
use Rattle.hir_number.specs.Occurrences.{signature_with}
use Rattle.hir_number.specs.Signatures.{Placed, phase_of}
use Rattle.hir_number.specs.Uses.{Use, One, Path}

-- the numbers of a use's lifetimes, or what is broken
abbrev pub Answer : Type 0
Answer = Result (List (MaybeStatic ℕ)) NumberFault

-- the answer of a use after that signature: more generics than the definition has are refused
abbrev pub use_answer : Phase → Signature → Use → Answer
use_answer phase s (One l) = of_elided (all_or_fault (lowered phase s l ∷ []))
use_answer phase s (Path is_self path None) = Err fault.UnresolvedPath
use_answer phase s (Path is_self path (Some found)) =
    if nat_lt found.count (length path.lifetimes) then Err fault.LifetimeArity
    else of_elided (all_or_fault (lowered_generics phase is_self s (filled path.lifetimes found.count)))

-- the answer of each use: in `fn f(&self, x: &'a O, y: &O) -> &O` these are 1, 0, 2 and 1, where `'a` is declared
abbrev pub answers : LifetimeEnv → List Placed → List Answer
answers declared ps = each (λ before p. use_answer (phase_of p.0) (signature_with declared before) p.1 ∷ []) ps

-- what there is before these, or their fault
abbrev pub with_answer : {A : Type 0} → A → Result (List A) NumberFault → Result (List A) NumberFault
with_answer x (Ok xs) = Ok (x ∷ xs)
with_answer x (Err e) = Err e

-- all answers, or the first fault
abbrev pub all_answers : {A : Type 0} → List (Result A NumberFault) → Result (List A) NumberFault
all_answers [] = Ok []
all_answers (Ok x ∷ rest) = with_answer x (all_answers rest)
all_answers (Err e ∷ rest) = Err e

-- the numbers of all uses of a signature or a definition, a list for each use, or the first fault: it may declare no more than
-- there may be lifetimes
abbrev pub signature_numbers : LifetimeEnv → List Placed → Result (List (List (MaybeStatic ℕ))) NumberFault
signature_numbers declared ps =
    if nat_lt most (length declared.nodes) then Err (fault.Elide elide.TooManyLifetimes)
    else all_answers (answers declared ps)
