-- Why a signature or a definition has no numbers is what the rules on elision and on anonymous lifetimes say.
use Rattle.std.proofs.Common.{◌≡◌, ◌≤◌, inl, inr, List, [], ◌∷◌, length, false, Result, Ok, Err, if◌then◌else◌, refl, sym, subst, ap, ◌∙◌}
use Rattle.std.specs.Prelude.{nat_lt}
use Rattle.std.specs.List.{Contains}
use Rattle.bridge_decl.specs.declared.lifetimes.LifetimeEnv.{LifetimeEnv}
use Rattle.bridge_telling.proofs.ExactLemmas.{in_cases, in_first, in_none, in_one, in_rest}
use Rattle.hir_elide.specs.Elision.{elided, elided_by}
use Rattle.hir_elide.specs.Numbering.{Number, most}
use Rattle.hir_elide.specs.Occurrences.{is_counting, used_as}
use Rattle.hir_elide.specs.Phases.{Defining, Returning, Using}
use Rattle.hir_elide.specs.declared.fault.ElideFault.{ElideFault}
use Rattle.hir_elide.specs.declared.fault.ElideFault.TheVariants as elide
use Rattle.hir_number.proofs.FaultLemmas.{FineBy, IsLowered, answers_lowered}
use Rattle.hir_number.specs.Faults.{FaultTold, IsOfElision}
use Rattle.hir_number.specs.Numbers.{all_answers, answers, signature_numbers, use_answer, with_answer}
use Rattle.hir_number.specs.Occurrences.{signature_with}
use Rattle.hir_number.specs.Signatures.{Placed, Section, TraitReturn, Usual, phase_of}
use Rattle.hir_number.specs.Uses.{Use}
use Rattle.hir_number.specs.declared.fault.NumberFault.{NumberFault}
use Rattle.hir_number.specs.declared.fault.NumberFault.TheVariants as fault
use Rattle.hir_reports.specs.Texts.{plain_error}
use Rattle.hir_reports.specs.declared.report.LoweringError.{LoweringError}
use Rattle.hir_reports.specs.declared.rule.Rule.TheVariants as rule
use Rattle.hir_signatures.specs.Errors.{number_errors}
use Rattle.hir_rules.specs.LeftOut.{Elides, StandsAfter}
use Rattle.hir_rules.specs.Types.{NumbersBreak}
use Rattle.hir_rules.proofs.CountLemmas.{some_of_many, too_many_of}
use Rattle.hir_rules.proofs.LeftOutLemmas.{IsOut, Several, UseCause, answer_of_use, elision_cause, out_fault, use_answered, use_cause}

-- ---- all answers

abbrev faulty : (A : Type 0) → NumberFault → Result A NumberFault
faulty A e = Err e

err_is : (A : Type 0) (e f : NumberFault) → faulty A e ≡ Err f → e ≡ f
err_is A e f h = cc

ok_no_err : {A : Type 0} (x : A) (f : NumberFault) → ¬ (Ok x ≡ Err f)
ok_no_err x f h = cc

with_fault : {A : Type 0} (x : A) (r : Result (List A) NumberFault) (f : NumberFault) → with_answer x r ≡ Err f → r ≡ Err f
with_fault x (Ok xs) f h = absurd (ok_no_err (x ∷ xs) f h)
with_fault {A} x (Err e) f h = ap Err (err_is (List A) e f h)

-- the fault of all is one of them
pub fault_among : {A : Type 0} (rs : List (Result A NumberFault)) (f : NumberFault) → all_answers rs ≡ Err f → Contains rs (Err f)
fault_among [] f h = absurd (ok_no_err [] f h)
fault_among (Ok x ∷ rs) f h = in_rest (Ok x) rs (Err f) (fault_among rs f (with_fault x (all_answers rs) f h))
fault_among {A} (Err e ∷ rs) f h = subst (λ y. Contains (Err e ∷ rs) (Err y)) (err_is (List A) e f h) (in_first (Err e) rs)

-- all are there where none is a fault
with_all : {A : Type 0} (x : A) (r : Result (List A) NumberFault) (xs : List A) → with_answer x r ≡ Ok xs → (ys : List A) × (r ≡ Ok ys)
with_all x (Ok ys) xs h = (ys, refl)
with_all x (Err e) xs h = absurd (ok_no_err xs e (sym h))

pub none_among : {A : Type 0} (rs : List (Result A NumberFault)) (f : NumberFault) (xs : List A) → Contains rs (Err f) → ¬ (all_answers rs ≡ Ok xs)
none_among [] f xs c h = in_none (Err f) c
none_among (Ok x ∷ rs) f xs c h = elim (in_cases (Ok x) rs (Err f) c) [
  | inl is ↦ ok_no_err x f (sym is)
  | inr more ↦ (let rest = with_all x (all_answers rs) xs h in none_among rs f rest.0 more rest.1)
]
none_among (Err e ∷ rs) f xs c h = ok_no_err xs e (sym h)

-- ---- what is told of a fault

-- one that comes of a use of lifetimes alone is told
pub told_fault : (f : NumberFault) → IsOfElision f → IsLowered f → (e : LoweringError) × Contains (number_errors f) e
told_fault fault.UnresolvedPath h k = absurd h
told_fault fault.LifetimeArity h k = absurd h
told_fault (fault.Elide elide.LifetimeUnknown) h k = absurd h
told_fault (fault.Elide elide.AnonymousInDefinition) h k = (plain_error rule.AnonymousInDefinition, in_first (plain_error rule.AnonymousInDefinition) [])
told_fault (fault.Elide elide.ElisionNoSource) h k = (plain_error rule.ElisionNoSource, in_first (plain_error rule.ElisionNoSource) [])
told_fault (fault.Elide elide.ElisionAmbiguous) h k = (plain_error rule.ElisionAmbiguous, in_first (plain_error rule.ElisionAmbiguous) [])
told_fault (fault.Elide elide.TooManyLifetimes) h k = (plain_error rule.TooManyLifetimes, in_first (plain_error rule.TooManyLifetimes) [])
told_fault (fault.Elide elide.BadIdent) h k = absurd k
told_fault (fault.Elide elide.NoMemory) h k = absurd k
told_fault fault.NoMemory h k = absurd k

-- ---- from a fault to the rules

never_elided : {cs : List Number} → ¬ (Several cs elide.AnonymousInDefinition)
never_elided h = elim h [ inl c ↦ absurd (first_apart c.1) | inr c ↦ absurd (second_apart c.1.1.1.1) ]
  where
    first_apart : ¬ (elide.AnonymousInDefinition ≡ elide.ElisionNoSource)
    first_apart k = cc

    second_apart : ¬ (elide.AnonymousInDefinition ≡ elide.ElisionAmbiguous)
    second_apart k = cc

both_apart : ¬ (elide.ElisionNoSource ≡ elide.ElisionAmbiguous)
both_apart h = cc

source_apart : ¬ (elide.ElisionNoSource ≡ elide.AnonymousInDefinition)
source_apart h = cc

ambiguous_apart : ¬ (elide.ElisionAmbiguous ≡ elide.AnonymousInDefinition)
ambiguous_apart h = cc

no_source : (cs : List Number) → Several cs elide.ElisionNoSource → cs ≡ []
no_source cs h = elim h [ inl c ↦ c.0 | inr c ↦ absurd (both_apart c.1.1.1.1) ]

several : (cs : List Number) → Several cs elide.ElisionAmbiguous → (one : Number) × ((another : Number) × ((more : List Number) × (cs ≡ one ∷ another ∷ more)))
several cs h = elim h [ inl c ↦ absurd (both_apart (sym c.1)) | inr c ↦ (c.0, (c.1.0, (c.1.1.0, c.1.1.1.0))) ]

module _ (declared : LifetimeEnv) (few : length declared.nodes ≤ most) (us : List Placed) where
  -- a lifetime is left out in a definition
  out_of_definition : (part : Section) (before : List Placed) (it : Use) (e : LoweringError) → StandsAfter us before part it
      → UseCause (phase_of part) (signature_with declared before) it elide.AnonymousInDefinition → e ≡ plain_error rule.AnonymousInDefinition → NumbersBreak declared us e
  out_of_definition (Usual (Using role)) before it e stands cause told = absurd cause.1.0
  out_of_definition (Usual Returning) before it e stands cause told =
      absurd (never_elided (elision_cause (signature_with declared before) elide.AnonymousInDefinition tt cause.1.0).1)
  out_of_definition (Usual Defining) before it e stands cause told = inl (inl (record { before = before; it = it; stands = stands; out = cause.0; told = told }))
  out_of_definition TraitReturn before it e stands cause told = absurd cause.1.0

  -- it is elided without a source
  without_source : (part : Section) (before : List Placed) (it : Use) (e : LoweringError) → StandsAfter us before part it
      → UseCause (phase_of part) (signature_with declared before) it elide.ElisionNoSource → e ≡ plain_error rule.ElisionNoSource → NumbersBreak declared us e
  without_source (Usual (Using role)) before it e stands cause told = absurd cause.1.0
  without_source (Usual Returning) before it e stands cause told =
      let why = elision_cause (signature_with declared before) elide.ElisionNoSource tt cause.1.0 in
      inl (inr (record {
        before = before;
        elides = record { it = it; stands = stands; other = cause.1.1 refl; out = cause.0 };
        unborrowed = why.0;
        none = no_source (used_as is_counting (signature_with declared before)) why.1;
        told = told;
      }))
  without_source (Usual Defining) before it e stands cause told = absurd (source_apart cause.1.0)
  without_source TraitReturn before it e stands cause told = absurd cause.1.0

  -- or with several
  with_several : (part : Section) (before : List Placed) (it : Use) (e : LoweringError) → StandsAfter us before part it
      → UseCause (phase_of part) (signature_with declared before) it elide.ElisionAmbiguous → e ≡ plain_error rule.ElisionAmbiguous → NumbersBreak declared us e
  with_several (Usual (Using role)) before it e stands cause told = absurd cause.1.0
  with_several (Usual Returning) before it e stands cause told =
      let why = elision_cause (signature_with declared before) elide.ElisionAmbiguous tt cause.1.0 in
      let many = several (used_as is_counting (signature_with declared before)) why.1 in
      inr (inl (record {
        before = before;
        elides = record { it = it; stands = stands; other = cause.1.1 refl; out = cause.0 };
        unborrowed = why.0;
        one = many.0;
        another = many.1.0;
        more = many.1.1.0;
        several = many.1.1.1;
        told = told;
      }))
  with_several (Usual Defining) before it e stands cause told = absurd (ambiguous_apart cause.1.0)
  with_several TraitReturn before it e stands cause told = absurd cause.1.0

  cause_of : (why : ElideFault) → IsOut why → (h : Contains (answers declared us) (Err (fault.Elide why))) → (let it = answer_of_use declared us (Err (fault.Elide why)) h in UseCause (phase_of it.part) (signature_with declared it.before) it.it why)
  cause_of why out h =
      let it = answer_of_use declared us (Err (fault.Elide why)) h in
      use_cause (phase_of it.part) (signature_with declared it.before) it.it why out (sym it.same)

  -- what is told of a use's fault is what the rules say
  pub fault_breaks : (f : NumberFault) (e : LoweringError) → Contains (answers declared us) (Err f) → Contains (number_errors f) e → NumbersBreak declared us e
  fault_breaks fault.UnresolvedPath e c h = absurd (in_none e h)
  fault_breaks fault.LifetimeArity e c h = absurd (in_none e h)
  fault_breaks (fault.Elide elide.LifetimeUnknown) e c h = absurd (in_none e h)
  fault_breaks (fault.Elide elide.AnonymousInDefinition) e c h =
      let it = answer_of_use declared us (Err (fault.Elide elide.AnonymousInDefinition)) c in
      out_of_definition it.part it.before it.it e it.stands (cause_of elide.AnonymousInDefinition tt c) (in_one (plain_error rule.AnonymousInDefinition) e h)
  fault_breaks (fault.Elide elide.ElisionNoSource) e c h =
      let it = answer_of_use declared us (Err (fault.Elide elide.ElisionNoSource)) c in
      without_source it.part it.before it.it e it.stands (cause_of elide.ElisionNoSource tt c) (in_one (plain_error rule.ElisionNoSource) e h)
  fault_breaks (fault.Elide elide.ElisionAmbiguous) e c h =
      let it = answer_of_use declared us (Err (fault.Elide elide.ElisionAmbiguous)) c in
      with_several it.part it.before it.it e it.stands (cause_of elide.ElisionAmbiguous tt c) (in_one (plain_error rule.ElisionAmbiguous) e h)
  fault_breaks (fault.Elide elide.TooManyLifetimes) e c h = inr (inr (too_many_of declared few us c, in_one (plain_error rule.TooManyLifetimes) e h))
  fault_breaks (fault.Elide elide.BadIdent) e c h = absurd (in_none e h)
  fault_breaks (fault.Elide elide.NoMemory) e c h = absurd (in_none e h)
  fault_breaks fault.NoMemory e c h = absurd (in_none e h)

  -- ---- and back

  faulty_use : (before : List Placed) (part : Section) (it : Use) → StandsAfter us before part it → (f : NumberFault) → use_answer (phase_of part) (signature_with declared before) it ≡ Err f
      → (g : NumberFault) × Contains (answers declared us) (Err g)
  faulty_use before part it stands f is = (f, subst (Contains (answers declared us)) is (use_answered declared us before part it stands))

  elided_use : (before : List Placed) (elides : Elides us before) (why : ElideFault) → elided (signature_with declared before) ≡ Err why → (g : NumberFault) × Contains (answers declared us) (Err g)
  elided_use before elides why is =
      let out = out_fault Returning (signature_with declared before) elides.it why (inl (refl, elides.other)) is elides.out in
      faulty_use before (Usual Returning) elides.it elides.stands out.0 out.1

  -- where a rule on numbers is broken, a use has no number
  pub numberless : (e : LoweringError) → NumbersBreak declared us e → (f : NumberFault) × Contains (answers declared us) (Err f)
  numberless e h = elim h [
    | inl c ↦ (elim c [
      | inl a ↦ (let out = out_fault Defining (signature_with declared a.before) a.it elide.AnonymousInDefinition (inr refl) refl a.out in faulty_use a.before (Usual Defining) a.it a.stands out.0 out.1)
      | inr n ↦ (let s = signature_with declared n.before in elided_use n.before n.elides elide.ElisionNoSource (ap (λ bs. elided_by bs (used_as is_counting s)) n.unborrowed ∙ ap (elided_by []) n.none))
    ])
    | inr c ↦ (elim c [
      | inl m ↦ (let s = signature_with declared m.before in elided_use m.before m.elides elide.ElisionAmbiguous (ap (λ bs. elided_by bs (used_as is_counting s)) m.unborrowed ∙ ap (elided_by []) m.several))
      | inr t ↦ some_of_many declared few us t.0
    ])
  ]

-- ---- the numbers of a whole

-- where not too many are declared, they are all answers
pub numbers_are : (declared : LifetimeEnv) (us : List Placed) → nat_lt most (length declared.nodes) ≡ false → signature_numbers declared us ≡ all_answers (answers declared us)
numbers_are declared us few = ap (λ b. if b then Err (fault.Elide elide.TooManyLifetimes) else all_answers (answers declared us)) few

pub fault_lowered : (declared : LifetimeEnv) (us : List Placed) (f : NumberFault) → all_answers (answers declared us) ≡ Err f → IsLowered f
fault_lowered declared us f h = subst (FineBy IsLowered) h (answers_lowered declared us)

-- such a fault is told by the calls that number
pub fault_is_told : {A : Type 0} (declared : LifetimeEnv) (f : NumberFault) (r : Result A NumberFault) → IsLowered f → r ≡ Err f → FaultTold declared f r
fault_is_told declared fault.UnresolvedPath r k h = h
fault_is_told declared fault.LifetimeArity r k h = h
fault_is_told declared (fault.Elide elide.LifetimeUnknown) r k h = h
fault_is_told declared (fault.Elide elide.AnonymousInDefinition) r k h = h
fault_is_told declared (fault.Elide elide.ElisionNoSource) r k h = h
fault_is_told declared (fault.Elide elide.ElisionAmbiguous) r k h = h
fault_is_told declared (fault.Elide elide.TooManyLifetimes) r k h = h
fault_is_told declared (fault.Elide elide.BadIdent) r k h = absurd k
fault_is_told declared (fault.Elide elide.NoMemory) r k h = absurd k
fault_is_told declared fault.NoMemory r k h = absurd k
