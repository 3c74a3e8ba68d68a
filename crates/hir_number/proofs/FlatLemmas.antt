-- Numbering as it goes gives each use the answer that it has after the uses before it.
use Rattle.std.proofs.Common.{◌≡◌, ℕ, List, [], ◌∷◌, ◌++◌, map, true, false, Bool, Some, None, Ok, Err, Result, refl, sym, ap, ◌∙◌, append_assoc}
use Rattle.std.specs.Prelude.{◌||◌}
use Rattle.std.proofs.lemmas.List.{append-nil, map-append}
use Rattle.bridge_decl.specs.declared.lifetimes.Lifetime.{Lifetime}
use Rattle.bridge_decl.specs.declared.lifetimes.LifetimeEnv.{LifetimeEnv}
use Rattle.bridge_decl.specs.declared.paths.PathType.{PathType}
use Rattle.bridge_ast.specs.Each.{each_after}
use Rattle.bridge_ast.proofs.EachLemmas.{each-push}
use Rattle.hir_elide.specs.Generics.{all_or_fault, filled, with_generics}
use Rattle.hir_elide.specs.Numbering.{Number}
use Rattle.hir_elide.specs.Occurrences.{Occurrence, Signature}
use Rattle.hir_elide.specs.Phases.{Phase, Using, Returning, Defining, lowered, with_uses}
use Rattle.hir_life.specs.declared.maybe_static.MaybeStatic.{MaybeStatic}
use Rattle.hir_number.specs.declared.fault.NumberFault.{NumberFault}
use Rattle.hir_number.specs.Faults.{of_elided}
use Rattle.hir_number.specs.Naming.{Definition}
use Rattle.hir_number.specs.Numbers.{Answer, all_answers, answers, use_answer, with_answer}
use Rattle.hir_number.specs.Occurrences.{elide_occurrence, has_own, meets_self, occurrences, signature_with, use_occurrences}
use Rattle.hir_number.specs.Shapes.{NumberLists}
use Rattle.hir_number.specs.Signatures.{Placed, phase_of}
use Rattle.hir_number.specs.Uses.{One, Path}
use Rattle.hir_number.specs.inside.Threads.{Run, run_next, given, standing}
use Rattle.hir_number.proofs.RoleLemmas.{meets_same, phase_meets, use_same, use_told}
use Rattle.hir_number.proofs.UsesLemmas.{use_run, uses_run}

-- a use in its part of the signature, on its way
abbrev pub placed_run : Placed → Run (List (MaybeStatic ℕ))
placed_run p = use_run (phase_of p.0) p.1

or_false : (b : Bool) → (b || false) ≡ b
or_false true = refl
or_false false = refl

or_true : (b : Bool) → (b || true) ≡ true
or_true true = refl
or_true false = refl

or_assoc : (a b c : Bool) → (a || (b || c)) ≡ ((a || b) || c)
or_assoc true b c = refl
or_assoc false b c = refl

pub has_push : (ps : List Placed) (p : Placed) → has_own (ps ++ p ∷ []) ≡ (has_own ps || meets_self p)
has_push [] p = or_false (meets_self p)
has_push (q ∷ ps) p = ap (λ b. meets_self q || b) (has_push ps p) ∙ or_assoc (meets_self q) (has_own ps) (meets_self p)

-- the signature with these
abbrev pub made : LifetimeEnv → List Occurrence → Bool → Signature
made declared os met = record { declared = declared; occurrences = os; has_self = met }

-- what elision is told of these
abbrev pub told : List Placed → List Occurrence
told ps = map elide_occurrence (occurrences ps)

pub told_push : (ps : List Placed) (p : Placed) → told (ps ++ p ∷ []) ≡ told ps ++ use_told (has_own ps) (phase_of p.0) p.1
told_push ps p =
    ap (map elide_occurrence) (each-push (λ before q. use_occurrences (has_own before) q) ps p)
    ∙ map-append elide_occurrence (occurrences ps) (use_occurrences (has_own ps) p)
    ∙ ap (λ os. told ps ++ os) (use_same (has_own ps) p.0 p.1)

-- one use more
abbrev grown : LifetimeEnv → List Placed → Placed → Signature
grown declared ps p = made declared (told ps ++ use_told (has_own ps) (phase_of p.0) p.1) (has_own ps || phase_meets (phase_of p.0) p.1)

pub grows : (declared : LifetimeEnv) (ps : List Placed) (p : Placed) → grown declared ps p ≡ signature_with declared (ps ++ p ∷ [])
grows declared ps p =
    ap (λ os. made declared os (has_own ps || phase_meets (phase_of p.0) p.1)) (sym (told_push ps p))
    ∙ ap (λ b. made declared (told (ps ++ p ∷ [])) b) (sym (has_push ps p ∙ ap (λ b. has_own ps || b) (meets_same p.0 p.1)))

-- nothing more occurs
stays : (declared : LifetimeEnv) (os : List Occurrence) (met : Bool) → made declared os met ≡ made declared (os ++ []) (met || false)
stays declared os met = ap (λ xs. made declared xs met) (sym (append-nil os)) ∙ ap (λ b. made declared (os ++ []) b) (sym (or_false met))

module _ (declared : LifetimeEnv) (os : List Occurrence) where
  pub one_grows : (met : Bool) (phase : Phase) (l : Lifetime) → with_uses phase (made declared os met) (l ∷ [])
      ≡ made declared (os ++ use_told met phase (One l)) (met || phase_meets phase (One l))
  one_grows met (Using role) l = ap (λ b. made declared (os ++ use_told met (Using role) (One l)) b) (sym (or_false met))
  one_grows met Returning l = stays declared os met
  one_grows met Defining l = stays declared os met

  pub path_grows : (met is_self : Bool) (phase : Phase) (path : PathType) (found : Definition) → with_generics phase is_self (made declared os met) (filled path.lifetimes found.count)
      ≡ made declared (os ++ use_told met phase (Path is_self path (Some found))) (met || phase_meets phase (Path is_self path (Some found)))
  path_grows met false (Using role) path found = ap (λ b. made declared (os ++ use_told met (Using role) (Path false path (Some found))) b) (sym (or_false met))
  path_grows true true (Using role) path found = ap (λ xs. made declared xs true) (sym (append-nil os))
  path_grows false true (Using role) path found = refl
  path_grows met false Returning path found = stays declared os met
  path_grows true true Returning path found = ap (λ xs. made declared xs true) (sym (append-nil os))
  path_grows false true Returning path found = refl
  path_grows met false Defining path found = stays declared os met
  path_grows met true Defining path found = stays declared os met

one_answer : (t : Signature) (r : Number) → run_next (standing t (of_elided r)) (λ n. given (n ∷ [])) ≡ standing t (of_elided (all_or_fault (r ∷ [])))
one_answer t (Ok n) = refl
one_answer t (Err e) = refl

-- a use has its answer, and then it stands too
step : (declared : LifetimeEnv) (before : List Placed) (p : Placed)
    → placed_run p (signature_with declared before) ≡ standing (signature_with declared (before ++ p ∷ [])) (use_answer (phase_of p.0) (signature_with declared before) p.1)
step declared before (part, One l) =
    let phase : Phase = phase_of part in
    one_answer (with_uses phase (signature_with declared before) (l ∷ [])) (lowered phase (signature_with declared before) l)
    ∙ ap (λ t. standing t (use_answer phase (signature_with declared before) (One l)))
    (one_grows declared (told before) (has_own before) phase l ∙ grows declared before (part, One l))
step declared before (part, Path is_self path None) = refl
step declared before (part, Path is_self path (Some found)) =
    let phase : Phase = phase_of part in
    ap (λ t. standing t (use_answer phase (signature_with declared before) (Path is_self path (Some found))))
    (path_grows declared (told before) (has_own before) is_self phase path found ∙ grows declared before (part, Path is_self path (Some found)))

-- the answers of these after those
abbrev answers_after : LifetimeEnv → List Placed → List Placed → List Answer
answers_after declared before ps = each_after (λ b p. use_answer (phase_of p.0) (signature_with declared b) p.1 ∷ []) before ps

rest_answers : (v : Signature) (x : List (MaybeStatic ℕ)) (q : Result NumberLists NumberFault) → run_next (standing v q) (λ xs. given (x ∷ xs)) ≡ standing v (with_answer x q)
rest_answers v x (Ok xs) = refl
rest_answers v x (Err e) = refl

then_answers : (t v : Signature) (r : Answer) (rest : List Answer) (run : Run NumberLists) → run t ≡ standing v (all_answers rest)
    → run_next (standing t r) (λ x. λ s. run_next (run s) (λ xs. given (x ∷ xs))) ≡ standing v (all_answers (r ∷ rest))
then_answers t v (Ok x) rest run h = ap (λ q. run_next q (λ xs. given (x ∷ xs))) h ∙ rest_answers v x (all_answers rest)
then_answers t v (Err e) rest run h = refl

pub flat_after : (declared : LifetimeEnv) (before ps : List Placed)
    → uses_run placed_run ps (signature_with declared before) ≡ standing (signature_with declared (before ++ ps)) (all_answers (answers_after declared before ps))
flat_after declared before [] = ap (λ ps. Ok ([], signature_with declared ps)) (sym (append-nil before))
flat_after declared before (p ∷ ps) =
    let next : Run NumberLists = uses_run placed_run ps in
    let r = use_answer (phase_of p.0) (signature_with declared before) p.1 in
    ap (λ q. run_next q (λ x. λ s. run_next (next s) (λ xs. given (x ∷ xs)))) (step declared before p)
    ∙ then_answers (signature_with declared (before ++ p ∷ [])) (signature_with declared ((before ++ p ∷ []) ++ ps)) r (answers_after declared (before ++ p ∷ []) ps) next
    (flat_after declared (before ++ p ∷ []) ps)
    ∙ ap (λ qs. standing (signature_with declared qs) (all_answers (answers_after declared before (p ∷ ps)))) (append_assoc before (p ∷ []) ps)

-- all uses of a signature, from its beginning on
pub flat_all : (declared : LifetimeEnv) (ps : List Placed) → uses_run placed_run ps (signature_with declared []) ≡ standing (signature_with declared ps) (all_answers (answers declared ps))
flat_all declared ps = flat_after declared [] ps
