-- Each number of a signature is one of its lifetimes.
use Rattle.std.proofs.Common.{◌≡◌, arith, ℕ, ◌≤◌, List, [], ◌∷◌, ◌++◌, length, map, true, false, Bool, Some, None, Ok, Err, Result, sym, ap, subst, ◌∙◌, append_assoc}
use Rattle.std.specs.Prelude.{nat_lt, if◌then◌else◌, ⊤, IfOk}
use Rattle.std.specs.List.{All}
use Rattle.std.proofs.lemmas.List.{append-nil, map-append}
use Rattle.bridge_decl.specs.declared.lifetimes.Lifetime.{Lifetime}
use Rattle.bridge_decl.specs.declared.lifetimes.LifetimeEnv.{LifetimeEnv}
use Rattle.bridge_ast.specs.Each.{each_after}
use Rattle.hir_elide.specs.declared.fault.ElideFault.{ElideFault}
use Rattle.hir_elide.specs.declared.fault.ElideFault.TheVariants as elide
use Rattle.hir_elide.specs.Generics.{all_or_fault, filled, lowered_generics, with_generics}
use Rattle.hir_elide.specs.Numbering.{Number, count_after, most}
use Rattle.hir_elide.specs.Occurrences.{Occurrence, Signature, count_of}
use Rattle.hir_elide.specs.Phases.{Phase, lowered, with_uses}
use Rattle.hir_elide.proofs.OccurrenceLemmas.{count_more}
use Rattle.hir_elide.specs.Signature.{environment_of}
use Rattle.hir_elide.proofs.BelowLemmas.{AllBelow, Below, Each, all_below, count_grows, each_all, generics_below, lowered_below, weaker, within_more}
use Rattle.hir_life.specs.Environment.{Environment}
use Rattle.hir_life.specs.Substitution.{IsBelow}
use Rattle.hir_life.specs.declared.maybe_static.MaybeStatic.{MaybeStatic}
use Rattle.hir_number.specs.declared.fault.NumberFault.{NumberFault}
use Rattle.hir_number.specs.declared.fault.NumberFault.TheVariants as fault
use Rattle.hir_number.specs.Faults.{of_elided}
use Rattle.hir_number.specs.Numbered.{AreWithin}
use Rattle.hir_number.specs.Numbers.{Answer, all_answers, answers, signature_numbers, use_answer, with_answer}
use Rattle.hir_number.specs.Occurrences.{has_own, signature_with}
use Rattle.hir_number.specs.Signatures.{Placed, phase_of}
use Rattle.hir_number.specs.Uses.{One, Path}
use Rattle.hir_number.proofs.FlatLemmas.{grows, one_grows, path_grows, told, told_push}
use Rattle.hir_number.proofs.RoleLemmas.{use_told}

-- ---- answers

-- the numbers of an answer are all below
abbrev Holds : ℕ → Answer → Type 0
Holds c (Ok ns) = Each (IsBelow c) ns
Holds c (Err e) = ⊤

elided_hold : (c : ℕ) (r : Result (List (MaybeStatic ℕ)) ElideFault) → AllBelow c r → Holds c (of_elided r)
elided_hold c (Ok ns) h = h
elided_hold c (Err e) h = tt

all_hold : (c : ℕ) (ns : List Number) → Each (Below c) ns → Holds c (of_elided (all_or_fault ns))
all_hold c ns h = elided_hold c (all_or_fault ns) (all_below c ns h)

arity_holds : (c : ℕ) (b : Bool) (r : Answer) → Holds c r → Holds c (if b then Err fault.LifetimeArity else r)
arity_holds c true r h = tt
arity_holds c false r h = h

holds_more : (c d : ℕ) → c ≤ d → (r : Answer) → Holds c r → Holds d r
holds_more c d le (Ok ns) h = weaker (IsBelow c) (IsBelow d) (within_more c d le) ns h
holds_more c d le (Err e) h = tt

module _ (declared : LifetimeEnv) where
  abbrev counted : List Placed → ℕ
  counted ps = count_of (signature_with declared ps)

  use_holds : (before : List Placed) (p : Placed) → Holds (count_of (signature_with declared (before ++ p ∷ []))) (use_answer (phase_of p.0) (signature_with declared before) p.1)
  use_holds before (part, One l) =
      let phase : Phase = phase_of part in
      subst (λ t. Holds (count_of t) (use_answer phase (signature_with declared before) (One l)))
      (one_grows declared (told before) (has_own before) phase l ∙ grows declared before (part, One l))
      (all_hold (count_of (with_uses phase (signature_with declared before) (l ∷ []))) (lowered phase (signature_with declared before) l ∷ []) (lowered_below (signature_with declared before) phase l, tt))
  use_holds before (part, Path is_self path None) = tt
  use_holds before (part, Path is_self path (Some found)) =
      let phase : Phase = phase_of part in
      let ls : List Lifetime = filled path.lifetimes found.count in
      let s : Signature = signature_with declared before in
      subst (λ t. Holds (count_of t) (use_answer phase s (Path is_self path (Some found))))
      (path_grows declared (told before) (has_own before) is_self phase path found ∙ grows declared before (part, Path is_self path (Some found)))
      (arity_holds (count_of (with_generics phase is_self s ls)) (nat_lt found.count (length path.lifetimes)) (of_elided (all_or_fault (lowered_generics phase is_self s ls)))
      (all_hold (count_of (with_generics phase is_self s ls)) (lowered_generics phase is_self s ls) (generics_below phase is_self s ls)))

  step_grows : (before : List Placed) (p : Placed) → counted before ≤ counted (before ++ p ∷ [])
  step_grows before p =
      let f : Occurrence → Lifetime = λ o. o.lifetime in
      let more : List Occurrence = use_told (has_own before) (phase_of p.0) p.1 in
      let same : counted (before ++ p ∷ []) ≡ count_after (counted before) (map f more) =
      ap (λ os. count_after (length declared.nodes) (map f os)) (told_push before p)
      ∙ ap (count_after (length declared.nodes)) (map-append f (told before) more)
      ∙ count_more (length declared.nodes) (map f (told before)) (map f more) in
      subst (λ c. counted before ≤ c) (sym same) (count_grows (counted before) (map f more))

  all_grow : (before ps : List Placed) → counted before ≤ counted (before ++ ps)
  all_grow before [] = subst (λ ps. counted before ≤ counted ps) (sym (append-nil before)) (omega arith)
  all_grow before (p ∷ ps) =
      let one = step_grows before p in
      let rest : counted (before ++ p ∷ []) ≤ counted (before ++ p ∷ ps) = subst (λ qs. counted (before ++ p ∷ []) ≤ counted qs) (append_assoc before (p ∷ []) ps) (all_grow (before ++ p ∷ []) ps) in
      omega (arith, one, rest)

  answers_hold : (before ps : List Placed) → Each (Holds (counted (before ++ ps))) (each_after (λ b p. use_answer (phase_of p.0) (signature_with declared b) p.1 ∷ []) before ps)
  answers_hold before [] = tt
  answers_hold before (p ∷ ps) = (
    holds_more (counted (before ++ p ∷ [])) (counted (before ++ p ∷ ps))
        (subst (λ qs. counted (before ++ p ∷ []) ≤ counted qs) (append_assoc before (p ∷ []) ps) (all_grow (before ++ p ∷ []) ps))
        (use_answer (phase_of p.0) (signature_with declared before) p.1) (use_holds before p),
    subst (λ qs. Each (Holds (counted qs)) (each_after (λ b q. use_answer (phase_of q.0) (signature_with declared b) q.1 ∷ []) (before ++ p ∷ []) ps)) (append_assoc before (p ∷ []) ps)
        (answers_hold (before ++ p ∷ []) ps),
  )

-- all lists of numbers are within
abbrev AllHold : ℕ → Result (List (List (MaybeStatic ℕ))) NumberFault → Type 0
AllHold c (Ok nss) = Each (Each (IsBelow c)) nss
AllHold c (Err e) = ⊤

answer_holds : (c : ℕ) (ns : List (MaybeStatic ℕ)) (r : Result (List (List (MaybeStatic ℕ))) NumberFault) → Each (IsBelow c) ns → AllHold c r → AllHold c (with_answer ns r)
answer_holds c ns (Ok nss) h k = (h, k)
answer_holds c ns (Err e) h k = tt

all_answers_hold : (c : ℕ) (rs : List Answer) → Each (Holds c) rs → AllHold c (all_answers rs)
all_answers_hold c [] h = tt
all_answers_hold c (Ok ns ∷ rs) h = answer_holds c ns (all_answers rs) h.0 (all_answers_hold c rs h.1)
all_answers_hold c (Err e ∷ rs) h = tt

if_holds : (c : ℕ) (b : Bool) (r : Result (List (List (MaybeStatic ℕ))) NumberFault) → AllHold c r → AllHold c (if b then Err (fault.Elide elide.TooManyLifetimes) else r)
if_holds c true r h = tt
if_holds c false r h = h

numbers_hold : (declared : LifetimeEnv) (us : List Placed) → AllHold (count_of (signature_with declared us)) (signature_numbers declared us)
numbers_hold declared us =
    if_holds (count_of (signature_with declared us)) (nat_lt most (length declared.nodes)) (all_answers (answers declared us))
    (all_answers_hold (count_of (signature_with declared us)) (answers declared us) (answers_hold declared [] us))

-- the numbers of a signature are within the count of its lifetimes
pub numbers_within : (declared : LifetimeEnv) (us : List Placed) (nss : List (List (MaybeStatic ℕ))) (env : Environment) → signature_numbers declared us ≡ Ok nss
    → env ≡ environment_of (signature_with declared us) → AreWithin env.count nss
numbers_within declared us nss env is same =
    let here : Each (Each (IsBelow (count_of (signature_with declared us)))) nss = subst (AllHold (count_of (signature_with declared us))) is (numbers_hold declared us) in
    subst (λ e. AreWithin e.count nss) (sym same)
    (each_all (All (IsBelow (count_of (signature_with declared us)))) nss
    (weaker (Each (IsBelow (count_of (signature_with declared us)))) (All (IsBelow (count_of (signature_with declared us)))) (each_all (IsBelow (count_of (signature_with declared us)))) nss here))

pub if_ok_so : {A E : Type 0} (P Q : A → Type 0) (r : Result A E) → ((x : A) → P x → Q x) → IfOk r P → IfOk r Q
if_ok_so P Q (Ok x) k h = k x h
if_ok_so P Q (Err e) k h = tt
