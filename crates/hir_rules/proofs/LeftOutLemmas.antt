-- Why a use of lifetimes has no number is that it leaves one out where none may be, or where there is nothing, or too much, to borrow from.
use Rattle.std.proofs.Common.{◌≡◌, ◌⊎◌, inl, inr, ℕ, List, [], ◌∷◌, ◌++◌, length, map, Bool, true, false, Option, Some, None, Result, Ok, Err, if◌then◌else◌, refl, sym, subst, ap, ◌∙◌}
use Rattle.std.specs.Prelude.{⊤, nat_lt}
use Rattle.std.specs.List.{Contains}
use Rattle.std.proofs.lemmas.List.Elements.{Contains-append_cases}
use Rattle.bridge_ast.specs.Each.{each_after}
use Rattle.bridge_decl.specs.Lifetimes.{lifetime_names}
use Rattle.bridge_decl.specs.declared.lifetimes.Lifetime.{Lifetime}
use Rattle.bridge_decl.specs.declared.lifetimes.Lifetime.TheVariants as written
use Rattle.bridge_decl.specs.declared.lifetimes.LifetimeEnv.{LifetimeEnv}
use Rattle.bridge_telling.proofs.ExactLemmas.{in_cases, in_first, in_none, in_one, in_rest}
use Rattle.bridge_telling.proofs.GivenLemmas.{in_map, mapped}
use Rattle.bridge_text.specs.NameIndex.{number_of}
use Rattle.hir_elide.specs.Elision.{elided, elided_by}
use Rattle.hir_elide.specs.Generics.{all_or_fault, filled, lowered_generics, own_numbers, with_first}
use Rattle.hir_elide.specs.Numbering.{Number, lifetime_number, lifetime_numbers, most, name_number, one_if_anonymous, within_most}
use Rattle.hir_elide.specs.Occurrences.{Occurrence, Role, Signature, count_of, is_borrow, is_counting, is_own, numbers_with, used_as}
use Rattle.hir_elide.specs.Phases.{Defining, Phase, Returning, Using, defined, lowered, lowered_each, returned}
use Rattle.hir_elide.specs.declared.fault.ElideFault.{ElideFault}
use Rattle.hir_elide.specs.declared.fault.ElideFault.TheVariants as elide
use Rattle.hir_life.specs.declared.maybe_static.MaybeStatic.{MaybeStatic}
use Rattle.hir_life.specs.declared.maybe_static.MaybeStatic.TheVariants.{NonStatic}
use Rattle.hir_number.specs.Faults.{of_elide, of_elided}
use Rattle.hir_number.specs.Numbers.{Answer, answers, use_answer}
use Rattle.hir_number.specs.Occurrences.{is_own_use, signature_with}
use Rattle.hir_number.specs.Signatures.{Placed, Section, phase_of}
use Rattle.hir_number.specs.Uses.{One, Path, Use}
use Rattle.hir_number.specs.declared.fault.NumberFault.{NumberFault}
use Rattle.hir_number.specs.declared.fault.NumberFault.TheVariants as fault
use Rattle.hir_rules.specs.LeftOut.{LeavesOut, StandsAfter}
use Rattle.hir_rules.proofs.PathLemmas.{not_false}

-- ---- what a lifetime that has a number of its own is never refused for

-- a number, or a fault that has nothing to do with what is left out
abbrev Plain : Number → Type 0
Plain (Ok n) = ⊤
Plain (Err elide.LifetimeUnknown) = ⊤
Plain (Err elide.TooManyLifetimes) = ⊤
Plain (Err elide.AnonymousInDefinition) = ⊥
Plain (Err elide.ElisionNoSource) = ⊥
Plain (Err elide.ElisionAmbiguous) = ⊥
Plain (Err elide.BadIdent) = ⊥
Plain (Err elide.NoMemory) = ⊥

within_plain : (n : ℕ) → Plain (within_most n)
within_plain n = elim (nat_lt n most) as (λ b. Plain (if b then Ok (NonStatic n) else Err elide.TooManyLifetimes)) [ true ↦ tt | false ↦ tt ]

name_plain : (o : Option ℕ) → Plain (name_number o)
name_plain None = tt
name_plain (Some place) = within_plain place

number_plain : (names : List (List ℕ)) (count : ℕ) (l : Lifetime) → Plain (lifetime_number names count l)
number_plain names count written.Static = tt
number_plain names count (written.Named name) = name_plain (number_of names name)
number_plain names count written.Anonymous = within_plain count

abbrev AllPlain : List Number → Type 0
AllPlain ns = (n : Number) → Contains ns n → Plain n

none_plain : AllPlain []
none_plain n h = absurd (in_none n h)

more_plain : (m : Number) (ns : List Number) → Plain m → AllPlain ns → AllPlain (m ∷ ns)
more_plain m ns p ps n h = elim (in_cases m ns n h) [ inl is ↦ subst Plain (sym is) p | inr c ↦ ps n c ]

numbers_plain : (names : List (List ℕ)) (count : ℕ) (ls : List Lifetime) → AllPlain (lifetime_numbers names count ls)
numbers_plain names count [] = none_plain
numbers_plain names count (l ∷ ls) =
    more_plain (lifetime_number names count l) (lifetime_numbers names (one_if_anonymous l count) ls) (number_plain names count l) (numbers_plain names (one_if_anonymous l count) ls)

role_plain : (b : Bool) (m : Number) (ns : List Number) → Plain m → AllPlain ns → AllPlain ((if b then m ∷ [] else []) ++ ns)
role_plain true m ns p ps = more_plain m ns p ps
role_plain false m ns p ps = ps

with_plain : (has_role : Role → Bool) (names : List (List ℕ)) (count : ℕ) (os : List Occurrence) → AllPlain (numbers_with has_role names count os)
with_plain has_role names count [] = none_plain
with_plain has_role names count (o ∷ os) =
    role_plain (has_role o.role) (lifetime_number names count o.lifetime) (numbers_with has_role names (one_if_anonymous o.lifetime count) os) (number_plain names count o.lifetime)
    (with_plain has_role names (one_if_anonymous o.lifetime count) os)

used_plain : (has_role : Role → Bool) (s : Signature) → AllPlain (used_as has_role s)
used_plain has_role s = with_plain has_role (lifetime_names s.declared) (length s.declared.nodes) s.occurrences

own_plain : (met : Bool) (s : Signature) (ls : List Lifetime) → AllPlain (own_numbers met s ls)
own_plain true s ls = used_plain is_own s
own_plain false s ls = numbers_plain (lifetime_names s.declared) (count_of s) ls

-- ---- faults of what is left out

-- such a fault
abbrev pub IsOut : ElideFault → Type 0
IsOut elide.ElisionNoSource = ⊤
IsOut elide.ElisionAmbiguous = ⊤
IsOut elide.AnonymousInDefinition = ⊤
IsOut _ = ⊥

not_plain : (e : ElideFault) → IsOut e → ¬ (Plain (Err e))
not_plain elide.LifetimeUnknown h p = h
not_plain elide.AnonymousInDefinition h p = p
not_plain elide.ElisionNoSource h p = p
not_plain elide.ElisionAmbiguous h p = p
not_plain elide.TooManyLifetimes h p = h
not_plain elide.BadIdent h p = h
not_plain elide.NoMemory h p = h

refused_plain : (n : Number) (e : ElideFault) → IsOut e → Plain n → ¬ (n ≡ Err e)
refused_plain n e out p is = not_plain e out (subst Plain is p)

-- the lifetime that was left out, and what elision came to
abbrev pub Cause : Phase → Signature → ElideFault → Type 0
Cause Returning s e = elided s ≡ Err e
Cause Defining s e = e ≡ elide.AnonymousInDefinition
Cause (Using role) s e = ⊥

returned_cause : (s : Signature) (l : Lifetime) (e : ElideFault) → IsOut e → returned s l ≡ Err e → (l ≡ written.Anonymous) × (elided s ≡ Err e)
returned_cause s written.Static e out is = absurd (refused_plain (returned s written.Static) e out tt is)
returned_cause s (written.Named name) e out is = absurd (refused_plain (name_number (number_of (lifetime_names s.declared) name)) e out (name_plain (number_of (lifetime_names s.declared) name)) is)
returned_cause s written.Anonymous e out is = (refl, is)

abbrev number_err : ElideFault → Number
number_err a = Err a

same_fault : (a b : ElideFault) → number_err a ≡ Err b → b ≡ a
same_fault a b h = cc

defined_cause : (s : Signature) (l : Lifetime) (e : ElideFault) → IsOut e → defined s l ≡ Err e → (l ≡ written.Anonymous) × (e ≡ elide.AnonymousInDefinition)
defined_cause s written.Static e out is = absurd (refused_plain (defined s written.Static) e out tt is)
defined_cause s (written.Named name) e out is = absurd (refused_plain (name_number (number_of (lifetime_names s.declared) name)) e out (name_plain (number_of (lifetime_names s.declared) name)) is)
defined_cause s written.Anonymous e out is = (refl, same_fault elide.AnonymousInDefinition e is)

each_cause : (phase : Phase) (s : Signature) (ls : List Lifetime) (e : ElideFault) → IsOut e → Contains (lowered_each phase s ls) (Err e) → Contains ls written.Anonymous × Cause phase s e
each_cause (Using role) s ls e out h = absurd (not_plain e out (numbers_plain (lifetime_names s.declared) (count_of s) ls (Err e) h))
each_cause Returning s ls e out h =
    let from = mapped (returned s) ls (Err e) h in
    let cause = returned_cause s from.0 e out (sym from.1.1) in
    (subst (Contains ls) cause.0 from.1.0, cause.1)
each_cause Defining s ls e out h =
    let from = mapped (defined s) ls (Err e) h in
    let cause = defined_cause s from.0 e out (sym from.1.1) in
    (subst (Contains ls) cause.0 from.1.0, cause.1)

-- ---- a use

-- all that a use's fault is for
abbrev pub UseCause : Phase → Signature → Use → ElideFault → Type 0
UseCause phase s u e = LeavesOut u × (Cause phase s e × (phase ≡ Returning → is_own_use u ≡ false))

other_phase : ¬ (Defining ≡ Returning)
other_phase k = cc

generics_cause : (phase : Phase) (is_self : Bool) (s : Signature) (ls : List Lifetime) (e : ElideFault) → IsOut e → Contains (lowered_generics phase is_self s ls) (Err e)
    → Contains ls written.Anonymous × (Cause phase s e × (phase ≡ Returning → is_self ≡ false))
generics_cause (Using role) true s ls e out h = absurd (not_plain e out (own_plain s.has_self s ls (Err e) h))
generics_cause (Using role) false s ls e out h = absurd (not_plain e out (numbers_plain (lifetime_names s.declared) (count_of s) ls (Err e) h))
generics_cause Returning true s ls e out h = absurd (not_plain e out (own_plain s.has_self s ls (Err e) h))
generics_cause Returning false s ls e out h = let c = each_cause Returning s ls e out h in (c.0, (c.1, λ _. refl))
generics_cause Defining is_self s ls e out h = let c = each_cause Defining s ls e out h in (c.0, (c.1, λ same. absurd (other_phase same)))

abbrev pub numbers_err : ElideFault → Result (List (MaybeStatic ℕ)) ElideFault
numbers_err e = Err e

with_first_err : (n : MaybeStatic ℕ) (r : Result (List (MaybeStatic ℕ)) ElideFault) (e : ElideFault) → with_first n r ≡ numbers_err e → r ≡ numbers_err e
with_first_err n (Ok ns) e h = absurd cc
with_first_err n (Err f) e h = h

same_numbers_err : (f e : ElideFault) → numbers_err f ≡ numbers_err e → f ≡ e
same_numbers_err f e h = cc

pub first_fault : (ns : List Number) (e : ElideFault) → all_or_fault ns ≡ numbers_err e → Contains ns (Err e)
first_fault [] e h = absurd cc
first_fault (Ok n ∷ ns) e h = in_rest (Ok n) ns (Err e) (first_fault ns e (with_first_err n (all_or_fault ns) e h))
first_fault (Err f ∷ ns) e h = subst (λ x. Contains (Err f ∷ ns) (Err x)) (same_numbers_err f e h) (in_first (Err f) ns)

abbrev number_ok : MaybeStatic ℕ → Number
number_ok n = Ok n

apart : (n : MaybeStatic ℕ) (e : ElideFault) → ¬ (number_ok n ≡ Err e)
apart n e h = cc

-- where one of them is a fault, so is the whole
some_fault : (ns : List Number) (e : ElideFault) → Contains ns (Err e) → (f : ElideFault) × (all_or_fault ns ≡ numbers_err f)
some_fault [] e h = absurd (in_none (Err e) h)
some_fault (Ok n ∷ ns) e h = elim (in_cases (Ok n) ns (Err e) h) [
  | inl is ↦ absurd (apart n e (sym is))
  | inr c ↦ (let more = some_fault ns e c in (more.0, ap (with_first n) more.1))
]
some_fault (Err f ∷ ns) e h = (f, refl)

elide_of : (r : Result (List (MaybeStatic ℕ)) ElideFault) (e : ElideFault) → IsOut e → of_elided r ≡ Err (fault.Elide e) → r ≡ numbers_err e
elide_of (Ok ns) e out h = absurd cc
elide_of (Err elide.LifetimeUnknown) e out h = cc
elide_of (Err elide.AnonymousInDefinition) e out h = cc
elide_of (Err elide.ElisionNoSource) e out h = cc
elide_of (Err elide.ElisionAmbiguous) e out h = cc
elide_of (Err elide.TooManyLifetimes) e out h = cc
elide_of (Err elide.BadIdent) e out h = cc
elide_of (Err elide.NoMemory) e out h = absurd cc

one_cause : (phase : Phase) (s : Signature) (l : Lifetime) (e : ElideFault) → IsOut e → lowered phase s l ≡ Err e → UseCause phase s (One l) e
one_cause (Using role) s l e out h = absurd (refused_plain (lifetime_number (lifetime_names s.declared) (count_of s) l) e out (number_plain (lifetime_names s.declared) (count_of s) l) h)
one_cause Returning s l e out h = let c = returned_cause s l e out h in (c.0, (c.1, λ _. refl))
one_cause Defining s l e out h = let c = defined_cause s l e out h in (c.0, (c.1, λ _. refl))

abbrev answer_err : NumberFault → Answer
answer_err f = Err f

arity_of : (b : Bool) (r : Answer) (e : ElideFault) → (if b then answer_err fault.LifetimeArity else r) ≡ Err (fault.Elide e) → r ≡ Err (fault.Elide e)
arity_of true r e h = absurd cc
arity_of false r e h = h

pub use_cause : (phase : Phase) (s : Signature) (u : Use) (e : ElideFault) → IsOut e → use_answer phase s u ≡ Err (fault.Elide e) → UseCause phase s u e
use_cause phase s (One l) e out h =
    one_cause phase s l e out (sym (in_one (lowered phase s l) (Err e) (first_fault (lowered phase s l ∷ []) e (elide_of (all_or_fault (lowered phase s l ∷ [])) e out h))))
use_cause phase s (Path is_self path None) e out h = absurd cc
use_cause phase s (Path is_self path (Some found)) e out h =
    let numbers = lowered_generics phase is_self s (filled path.lifetimes found.count) in
    generics_cause phase is_self s (filled path.lifetimes found.count) e out
    (first_fault numbers e (elide_of (all_or_fault numbers) e out (arity_of (nat_lt found.count (length path.lifetimes)) (of_elided (all_or_fault numbers)) e h)))

-- ---- from what is left out to a fault

of_elided_err : (r : Result (List (MaybeStatic ℕ)) ElideFault) (e : ElideFault) → r ≡ numbers_err e → of_elided r ≡ answer_err (of_elide e)
of_elided_err r e h = ap of_elided h

arity_or : (b : Bool) (r : Answer) (f : NumberFault) → r ≡ Err f → (g : NumberFault) × ((if b then answer_err fault.LifetimeArity else r) ≡ Err g)
arity_or true r f h = (fault.LifetimeArity, refl)
arity_or false r f h = (f, h)

list_fault : (phase : Phase) (s : Signature) (e : ElideFault) → lowered phase s written.Anonymous ≡ Err e → (ls : List Lifetime) → Contains ls written.Anonymous → (numbers : List Number)
    → numbers ≡ map (lowered phase s) ls → (f : ElideFault) × (all_or_fault numbers ≡ numbers_err f)
list_fault phase s e is ls h numbers same =
    some_fault numbers e (subst (λ ns. Contains ns (Err e)) (sym same) (subst (Contains (map (lowered phase s) ls)) is (in_map (lowered phase s) ls written.Anonymous h)))

not_returning : (role : Role) → ¬ (Using role ≡ Returning)
not_returning role h = cc

not_defining : (role : Role) → ¬ (Using role ≡ Defining)
not_defining role h = cc

-- an elided lifetime in the return, or one left out in a definition, has a fault
pub out_fault : (phase : Phase) (s : Signature) (u : Use) (e : ElideFault) → ((phase ≡ Returning) × (is_own_use u ≡ false)) ⊎ (phase ≡ Defining) → lowered phase s written.Anonymous ≡ Err e
    → LeavesOut u → (f : NumberFault) × (use_answer phase s u ≡ Err f)
out_fault (Using role) s u e where_ is out = elim where_ [ inl r ↦ absurd (not_returning role r.0) | inr d ↦ absurd (not_defining role d) ]
out_fault phase s (One l) e where_ is out = (of_elide e, ap (λ x. of_elided (all_or_fault (lowered phase s x ∷ []))) out ∙ ap (λ n. of_elided (all_or_fault (n ∷ []))) is)
out_fault phase s (Path is_self path None) e where_ is out = absurd out
out_fault Returning s (Path true path (Some found)) e where_ is out = elim where_ [ inl r ↦ absurd (not_false (sym r.1)) | inr d ↦ absurd (other_phase (sym d)) ]
out_fault Returning s (Path false path (Some found)) e where_ is out =
    let all = list_fault Returning s e is (filled path.lifetimes found.count) out (map (returned s) (filled path.lifetimes found.count)) refl in
    arity_or (nat_lt found.count (length path.lifetimes)) (of_elided (all_or_fault (map (returned s) (filled path.lifetimes found.count)))) (of_elide all.0) (ap of_elided all.1)
out_fault Defining s (Path is_self path (Some found)) e where_ is out =
    let all = list_fault Defining s e is (filled path.lifetimes found.count) out (map (defined s) (filled path.lifetimes found.count)) refl in
    arity_or (nat_lt found.count (length path.lifetimes)) (of_elided (all_or_fault (map (defined s) (filled path.lifetimes found.count)))) (of_elide all.0) (ap of_elided all.1)

-- ---- among the uses of a whole

module _ (declared : LifetimeEnv) where
  abbrev answer_at : List Placed → Placed → List Answer
  answer_at before p = use_answer (phase_of p.0) (signature_with declared before) p.1 ∷ []

  -- an answer is that of a use, after those before it
  pub record AnswersUse (us : List Placed) (answer : Answer) : Type 0 where
    pub before : List Placed
    pub part : Section
    pub it : Use
    pub stands : StandsAfter us before part it
    pub same : answer ≡ use_answer (phase_of part) (signature_with declared before) it

  pub append_next : (before : List Placed) (p : Placed) (rest : List Placed) → (before ++ p ∷ []) ++ rest ≡ before ++ p ∷ rest
  append_next [] p rest = refl
  append_next (q ∷ before) p rest = ap (λ xs. q ∷ xs) (append_next before p rest)

  answer_from : (before us : List Placed) (answer : Answer) → Contains (each_after answer_at before us) answer → AnswersUse (before ++ us) answer
  answer_from before [] answer h = absurd (in_none answer h)
  answer_from before (p ∷ ps) answer h = elim (Contains-append_cases (answer_at before p) (each_after answer_at (before ++ p ∷ []) ps) answer h) [
    | inl c ↦ record {
      before = before;
      part = p.0;
      it = p.1;
      stands = record { after = ps; listed = refl };
      same = in_one (use_answer (phase_of p.0) (signature_with declared before) p.1) answer c;
    }
    | inr c ↦ subst (λ xs. AnswersUse xs answer) (append_next before p ps) (answer_from (before ++ p ∷ []) ps answer c)
  ]

  pub answer_of_use : (us : List Placed) (answer : Answer) → Contains (answers declared us) answer → AnswersUse us answer
  answer_of_use us answer h = answer_from [] us answer h

  append_none : (xs : List Placed) → xs ++ [] ≡ xs
  append_none [] = refl
  append_none (x ∷ xs) = ap (λ ys. x ∷ ys) (append_none xs)

  use_from : (start before : List Placed) (p : Placed) (after : List Placed) → Contains (each_after answer_at start (before ++ p ∷ after)) (use_answer (phase_of p.0) (signature_with declared (start ++ before)) p.1)
  use_from start [] p after =
      subst (λ xs. Contains (each_after answer_at start (p ∷ after)) (use_answer (phase_of p.0) (signature_with declared xs) p.1)) (sym (append_none start))
      (in_first (use_answer (phase_of p.0) (signature_with declared start) p.1) (each_after answer_at (start ++ p ∷ []) after))
  use_from start (q ∷ before) p after =
      in_rest (use_answer (phase_of q.0) (signature_with declared start) q.1) (each_after answer_at (start ++ q ∷ []) (before ++ p ∷ after)) (use_answer (phase_of p.0) (signature_with declared (start ++ q ∷ before)) p.1)
      (subst (λ xs. Contains (each_after answer_at (start ++ q ∷ []) (before ++ p ∷ after)) (use_answer (phase_of p.0) (signature_with declared xs) p.1)) (append_next start q before)
      (use_from (start ++ q ∷ []) before p after))

  -- the answer of a use is among all
  pub use_answered : (us before : List Placed) (part : Section) (it : Use) → StandsAfter us before part it
      → Contains (answers declared us) (use_answer (phase_of part) (signature_with declared before) it)
  use_answered us before part it stands =
      subst (λ xs. Contains (answers declared xs) (use_answer (phase_of part) (signature_with declared before) it)) (sym stands.listed) (use_from [] before (part, it) stands.after)

-- ---- what elision comes to

-- it is refused where nothing is borrowed by the receiver, and nothing, or more than one, counts
abbrev pub Several : List Number → ElideFault → Type 0
Several cs e = ((cs ≡ []) × (e ≡ elide.ElisionNoSource)) ⊎ ((one : Number) × ((another : Number) × ((more : List Number) × ((cs ≡ one ∷ another ∷ more) × (e ≡ elide.ElisionAmbiguous)))))

elided_cause : (bs cs : List Number) → AllPlain bs → AllPlain cs → (e : ElideFault) → IsOut e → elided_by bs cs ≡ Err e → (bs ≡ []) × Several cs e
elided_cause (b ∷ bs) cs p q e out h = absurd (refused_plain b e out (p b (in_first b bs)) h)
elided_cause [] [] p q e out h = (refl, inl (refl, same_fault elide.ElisionNoSource e h))
elided_cause [] (c ∷ []) p q e out h = absurd (refused_plain c e out (q c (in_first c [])) h)
elided_cause [] (c ∷ d ∷ cs) p q e out h = (refl, inr (c, (d, (cs, (refl, same_fault elide.ElisionAmbiguous e h)))))

pub elision_cause : (s : Signature) (e : ElideFault) → IsOut e → elided s ≡ Err e → (used_as is_borrow s ≡ []) × Several (used_as is_counting s) e
elision_cause s e out h = elided_cause (used_as is_borrow s) (used_as is_counting s) (used_plain is_borrow s) (used_plain is_counting s) e out h
