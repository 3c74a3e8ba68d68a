-- A use has a number too many exactly where a signature or a definition has too many lifetimes.
use Rattle.std.proofs.Common.{◌≡◌, ◌<◌, ◌≤◌, inl, inr, ℕ, suc, List, [], ◌∷◌, ◌++◌, length, map, Bool, true, false, Option, Some, None, Result, Ok, Err, if◌then◌else◌, refl, sym, subst, ap, ◌∙◌, arith}
use Rattle.std.specs.Prelude.{nat_lt}
use Rattle.std.specs.List.{Contains}
use Rattle.std.proofs.lemmas.Bool.{ltb-false, ltb-true}
use Rattle.std.proofs.lemmas.List.{append-nil, length-map}
use Rattle.bridge_ast.proofs.EachLemmas.{each-append}
use Rattle.bridge_ast.specs.Each.{each_after}
use Rattle.bridge_decl.specs.Lifetimes.{lifetime_names}
use Rattle.bridge_decl.specs.declared.lifetimes.Lifetime.{Lifetime}
use Rattle.bridge_decl.specs.declared.lifetimes.Lifetime.TheVariants as written
use Rattle.bridge_decl.specs.declared.lifetimes.LifetimeEnv.{LifetimeEnv}
use Rattle.bridge_telling.proofs.ExactLemmas.{in_cases, in_first, in_none, in_one, in_rest}
use Rattle.bridge_telling.proofs.GivenLemmas.{mapped}
use Rattle.bridge_text.proofs.NameIndexLemmas.{number_of_some}
use Rattle.bridge_text.specs.NameIndex.{number_of}
use Rattle.hir_elide.proofs.BelowLemmas.{count_grows}
use Rattle.hir_elide.proofs.OccurrenceLemmas.{count_more}
use Rattle.hir_elide.specs.Elision.{elided_by}
use Rattle.hir_elide.specs.Generics.{all_or_fault, filled, lowered_generics, own_numbers, with_first}
use Rattle.hir_elide.specs.Numbering.{Number, count_after, lifetime_number, lifetime_numbers, most, name_number, one_if_anonymous, within_most}
use Rattle.hir_elide.specs.Occurrences.{Counting, Occurrence, Own, Role, Signature, count_of, is_borrow, is_counting, is_own, numbers_with, used_as}
use Rattle.hir_elide.specs.Phases.{Defining, Returning, Using, defined, lowered, returned}
use Rattle.hir_elide.specs.declared.fault.ElideFault.{ElideFault}
use Rattle.hir_elide.specs.declared.fault.ElideFault.TheVariants as elide
use Rattle.hir_life.specs.declared.maybe_static.MaybeStatic.{MaybeStatic}
use Rattle.hir_life.specs.declared.maybe_static.MaybeStatic.TheVariants.{NonStatic}
use Rattle.hir_number.specs.Faults.{of_elided}
use Rattle.hir_number.specs.Numbers.{Answer, answers, use_answer}
use Rattle.hir_number.specs.Occurrences.{Appearance, AppearanceRole, Elides, Neither, appearing, elide_occurrence, has_own, occurrences, own_occurrences, path_occurrences, signature_with, use_occurrences}
use Rattle.hir_number.specs.Signatures.{Placed, TraitReturn, Usual, phase_of}
use Rattle.hir_number.specs.Uses.{One, Path}
use Rattle.hir_number.specs.declared.fault.NumberFault.{NumberFault}
use Rattle.hir_number.specs.declared.fault.NumberFault.TheVariants as fault
use Rattle.hir_rules.proofs.LeftOutLemmas.{answer_of_use, append_next, first_fault, numbers_err}

abbrev over : ElideFault
over = elide.TooManyLifetimes

abbrev err_number : ElideFault → Number
err_number e = Err e

abbrev ok_number : MaybeStatic ℕ → Number
ok_number n = Ok n

apart : (n : MaybeStatic ℕ) (e : ElideFault) → ¬ (ok_number n ≡ Err e)
apart n e h = cc

not_over : (e : ElideFault) → ¬ (e ≡ elide.TooManyLifetimes) → ¬ (err_number e ≡ Err over)
not_over e other h = other (same_fault e over h)
  where
    same_fault : (a b : ElideFault) → err_number a ≡ Err b → a ≡ b
    same_fault a b k = cc

-- ---- one number

by_limit : (b : Bool) (n : ℕ) → nat_lt n most ≡ b → (if b then ok_number (NonStatic n) else err_number elide.TooManyLifetimes) ≡ Err over → most ≤ n
by_limit true n is h = absurd (apart (NonStatic n) over h)
by_limit false n is h = ltb-false n most is

within_over : (n : ℕ) → within_most n ≡ Err over → most ≤ n
within_over n h = by_limit (nat_lt n most) n refl h

by_room : (b : Bool) (n : ℕ) (m : MaybeStatic ℕ) → nat_lt n most ≡ b → (if b then ok_number (NonStatic n) else err_number elide.TooManyLifetimes) ≡ Ok m → n < most
by_room true n m is h = ltb-true n most is
by_room false n m is h = absurd (apart m over (sym h))

within_room : (n : ℕ) (m : MaybeStatic ℕ) → within_most n ≡ Ok m → n < most
within_room n m h = by_room (nat_lt n most) n m refl h

module _ (names : List (List ℕ)) (few : length names ≤ most) where
  name_never : (name : List ℕ) (o : Option ℕ) → number_of names name ≡ o → ¬ (name_number o ≡ Err over)
  name_never name None is h = not_over elide.LifetimeUnknown (λ k. cc) h
  name_never name (Some place) is h = let inside = (number_of_some names name place is).0 in let beyond = within_over place h in omega (arith, few, inside, beyond)

  number_over : (count : ℕ) (l : Lifetime) → lifetime_number names count l ≡ Err over → (l ≡ written.Anonymous) × (most ≤ count)
  number_over count written.Static h = absurd cc
  number_over count (written.Named name) h = absurd (name_never name (number_of names name) refl h)
  number_over count written.Anonymous h = (refl, within_over count h)

  one_over : (count : ℕ) (l : Lifetime) → lifetime_number names count l ≡ Err over → (ls : List Lifetime) → most < count_after (one_if_anonymous l count) ls
  one_over count l h ls =
      let why = number_over count l h in
      let grown : suc count ≤ count_after (suc count) ls = count_grows (suc count) ls in
      subst (λ x. most < count_after (one_if_anonymous x count) ls) (sym why.0) (omega (arith, grown, why.1))

  numbers_over : (count : ℕ) (ls : List Lifetime) → Contains (lifetime_numbers names count ls) (Err over) → most < count_after count ls
  numbers_over count [] h = absurd (in_none (err_number over) h)
  numbers_over count (l ∷ ls) h = elim (in_cases (lifetime_number names count l) (lifetime_numbers names (one_if_anonymous l count) ls) (Err over) h) [
    | inl is ↦ one_over count l (sym is) ls
    | inr c ↦ numbers_over (one_if_anonymous l count) ls c
  ]

  with_over : (b : Bool) (count : ℕ) (l : Lifetime) (ls : List Lifetime) (ns : List Number) → (Contains ns (Err over) → most < count_after (one_if_anonymous l count) ls)
      → Contains ((if b then lifetime_number names count l ∷ [] else []) ++ ns) (Err over) → most < count_after (one_if_anonymous l count) ls
  with_over true count l ls ns more h = elim (in_cases (lifetime_number names count l) ns (Err over) h) [ inl is ↦ one_over count l (sym is) ls | inr c ↦ more c ]
  with_over false count l ls ns more h = more h

  roles_over : (has_role : Role → Bool) (count : ℕ) (os : List Occurrence) → Contains (numbers_with has_role names count os) (Err over) → most < count_after count (map (λ o. o.lifetime) os)
  roles_over has_role count [] h = absurd (in_none (err_number over) h)
  roles_over has_role count (o ∷ os) h =
      with_over (has_role o.role) count o.lifetime (map (λ p. p.lifetime) os) (numbers_with has_role names (one_if_anonymous o.lifetime count) os)
      (roles_over has_role (one_if_anonymous o.lifetime count) os) h

  -- where all have a number there is room for them
  one_room : (count : ℕ) (l : Lifetime) (m : MaybeStatic ℕ) → lifetime_number names count l ≡ Ok m → count ≤ most → one_if_anonymous l count ≤ most
  one_room count written.Static m h small = small
  one_room count (written.Named name) m h small = small
  one_room count written.Anonymous m h small = within_room count m h

abbrev list_ok : List (MaybeStatic ℕ) → Result (List (MaybeStatic ℕ)) ElideFault
list_ok ns = Ok ns

-- a list that is all there begins with a number, and the rest is all there
all_first : (n : Number) (ns : List Number) (ms : List (MaybeStatic ℕ)) → all_or_fault (n ∷ ns) ≡ list_ok ms → (m : MaybeStatic ℕ) × ((n ≡ Ok m) × ((rest : List (MaybeStatic ℕ)) × (all_or_fault ns ≡ list_ok rest)))
all_first (Ok m) ns ms h = (m, (refl, rest_ok m (all_or_fault ns) ms h))
  where
    rest_ok : (k : MaybeStatic ℕ) (r : Result (List (MaybeStatic ℕ)) ElideFault) (xs : List (MaybeStatic ℕ)) → with_first k r ≡ list_ok xs → (rest : List (MaybeStatic ℕ)) × (r ≡ list_ok rest)
    rest_ok k (Ok ys) xs e = (ys, refl)
    rest_ok k (Err f) xs e = absurd cc
all_first (Err e) ns ms h = absurd cc

numbers_room : (names : List (List ℕ)) (few : length names ≤ most) (count : ℕ) (ls : List Lifetime) (ms : List (MaybeStatic ℕ)) → all_or_fault (lifetime_numbers names count ls) ≡ list_ok ms → count ≤ most
    → count_after count ls ≤ most
numbers_room names few count [] ms h small = small
numbers_room names few count (l ∷ ls) ms h small =
    let first = all_first (lifetime_number names count l) (lifetime_numbers names (one_if_anonymous l count) ls) ms h in
    numbers_room names few (one_if_anonymous l count) ls first.1.1.0 first.1.1.1 (one_room names few count l first.0 first.1.0 small)

-- ---- one use

-- the lifetimes that a use adds
abbrev added_by : List Placed → Placed → List Lifetime
added_by before p = map (λ (e : Appearance). e.lifetime) (use_occurrences (has_own before) p)

appearing_lifetimes : (role : AppearanceRole) (ls : List Lifetime) → map (λ (e : Appearance). e.lifetime) (appearing role ls) ≡ ls
appearing_lifetimes role [] = refl
appearing_lifetimes role (l ∷ ls) = ap (λ ks. l ∷ ks) (appearing_lifetimes role ls)

abbrev of_own : Bool → List Lifetime → List Lifetime
of_own true ls = []
of_own false ls = ls

own_added : (met : Bool) (ls : List Lifetime) → map (λ (e : Appearance). e.lifetime) (own_occurrences met ls) ≡ of_own met ls
own_added true ls = refl
own_added false ls = appearing_lifetimes (Elides Own) ls

abbrev of_path : Bool → Bool → List Lifetime → List Lifetime
of_path true met ls = of_own met ls
of_path false met ls = ls

path_added : (is_self met : Bool) (role : AppearanceRole) (ls : List Lifetime) → map (λ (e : Appearance). e.lifetime) (path_occurrences is_self met role ls) ≡ of_path is_self met ls
path_added true met role ls = own_added met ls
path_added false met role ls = appearing_lifetimes role ls

module _ (s : Signature) (few : length (lifetime_names s.declared) ≤ most) (same : length s.declared.nodes ≡ length (lifetime_names s.declared)) where
  used_over : (has_role : Role → Bool) → Contains (used_as has_role s) (Err over) → most < count_of s
  used_over has_role h = roles_over (lifetime_names s.declared) few has_role (length s.declared.nodes) s.occurrences h

  own_over : (met : Bool) (ls : List Lifetime) → Contains (own_numbers met s ls) (Err over) → most < count_after (count_of s) (of_own met ls)
  own_over true ls h = used_over is_own h
  own_over false ls h = numbers_over (lifetime_names s.declared) few (count_of s) ls h

  own_room : (met : Bool) (ls : List Lifetime) (ms : List (MaybeStatic ℕ)) → all_or_fault (own_numbers met s ls) ≡ list_ok ms → count_of s ≤ most → count_after (count_of s) (of_own met ls) ≤ most
  own_room true ls ms h small = small
  own_room false ls ms h small = numbers_room (lifetime_names s.declared) few (count_of s) ls ms h small

  path_over : (role : Role) (is_self : Bool) (ls : List Lifetime) → Contains (lowered_generics (Using role) is_self s ls) (Err over) → most < count_after (count_of s) (of_path is_self s.has_self ls)
  path_over role true ls h = own_over s.has_self ls h
  path_over role false ls h = numbers_over (lifetime_names s.declared) few (count_of s) ls h

  path_room : (role : Role) (is_self : Bool) (ls : List Lifetime) (ms : List (MaybeStatic ℕ)) → all_or_fault (lowered_generics (Using role) is_self s ls) ≡ list_ok ms → count_of s ≤ most
      → count_after (count_of s) (of_path is_self s.has_self ls) ≤ most
  path_room role true ls ms h small = own_room s.has_self ls ms h small
  path_room role false ls ms h small = numbers_room (lifetime_names s.declared) few (count_of s) ls ms h small

  -- what is elided has a number too many only where a parameter has
  elided_over : (bs cs : List Number) → (Contains bs (Err over) → most < count_of s) → (Contains cs (Err over) → most < count_of s) → elided_by bs cs ≡ Err over → most < count_of s
  elided_over (b ∷ bs) cs p q h = p (subst (λ n. Contains (b ∷ bs) n) h (in_first b bs))
  elided_over [] [] p q h = absurd (not_over elide.ElisionNoSource (λ k. cc) h)
  elided_over [] (c ∷ []) p q h = q (subst (λ n. Contains (c ∷ []) n) h (in_first c []))
  elided_over [] (c ∷ d ∷ cs) p q h = absurd (not_over elide.ElisionAmbiguous (λ k. cc) h)

  returned_over : (l : Lifetime) → returned s l ≡ Err over → most < count_of s
  returned_over written.Static h = absurd cc
  returned_over (written.Named name) h = absurd (name_never (lifetime_names s.declared) few name (number_of (lifetime_names s.declared) name) refl h)
  returned_over written.Anonymous h = elided_over (used_as is_borrow s) (used_as is_counting s) (used_over is_borrow) (used_over is_counting) h

  defined_never : (l : Lifetime) → ¬ (defined s l ≡ Err over)
  defined_never written.Static h = cc
  defined_never (written.Named name) h = name_never (lifetime_names s.declared) few name (number_of (lifetime_names s.declared) name) refl h
  defined_never written.Anonymous h = not_over elide.AnonymousInDefinition (λ k. cc) h

abbrev answer_ok : List (MaybeStatic ℕ) → Answer
answer_ok ns = Ok ns

abbrev answer_fault : NumberFault → Answer
answer_fault f = Err f

arity_ok : (b : Bool) (r : Answer) (ms : List (MaybeStatic ℕ)) → (if b then answer_fault fault.LifetimeArity else r) ≡ Ok ms → r ≡ Ok ms
arity_ok true r ms h = absurd cc
arity_ok false r ms h = h

arity_over : (b : Bool) (r : Answer) → (if b then answer_fault fault.LifetimeArity else r) ≡ Err (fault.Elide over) → r ≡ Err (fault.Elide over)
arity_over true r h = absurd cc
arity_over false r h = h

elided_ok : (r : Result (List (MaybeStatic ℕ)) ElideFault) (ms : List (MaybeStatic ℕ)) → of_elided r ≡ answer_ok ms → r ≡ list_ok ms
elided_ok (Ok ns) ms h = cc
elided_ok (Err e) ms h = absurd cc

elided_fault : (r : Result (List (MaybeStatic ℕ)) ElideFault) → of_elided r ≡ answer_fault (fault.Elide over) → r ≡ numbers_err over
elided_fault (Ok ns) h = absurd cc
elided_fault (Err elide.LifetimeUnknown) h = cc
elided_fault (Err elide.AnonymousInDefinition) h = cc
elided_fault (Err elide.ElisionNoSource) h = cc
elided_fault (Err elide.ElisionAmbiguous) h = cc
elided_fault (Err elide.TooManyLifetimes) h = cc
elided_fault (Err elide.BadIdent) h = cc
elided_fault (Err elide.NoMemory) h = absurd cc

-- ---- the uses of a whole

abbrev life : Appearance → Lifetime
life e = e.lifetime

lifetimes_elided : (es : List Appearance) → map (λ (o : Occurrence). o.lifetime) (map elide_occurrence es) ≡ map life es
lifetimes_elided [] = refl
lifetimes_elided (e ∷ es) = ap (λ ls. e.lifetime ∷ ls) (lifetimes_elided es)

map_both : (xs ys : List Appearance) → map life (xs ++ ys) ≡ map life xs ++ map life ys
map_both [] ys = refl
map_both (x ∷ xs) ys = ap (λ ls. x.lifetime ∷ ls) (map_both xs ys)

abbrev uses_in : List Placed → Placed → List Appearance
uses_in before p = use_occurrences (has_own before) p

module _ (declared : LifetimeEnv) (few : length declared.nodes ≤ most) where
  abbrev at : List Placed → Signature
  at before = signature_with declared before

  names_same : length declared.nodes ≡ length (lifetime_names declared)
  names_same = sym (length-map declared.nodes (λ node. node.name))

  few_names : length (lifetime_names declared) ≤ most
  few_names = subst (λ n. n ≤ most) names_same few

  use_over : (before : List Placed) (p : Placed) → use_answer (phase_of p.0) (at before) p.1 ≡ Err (fault.Elide over) → most < count_after (count_of (at before)) (added_by before p)
  use_over before (Usual (Using role), One l) h =
      numbers_over (lifetime_names declared) few_names (count_of (at before)) (l ∷ [])
      (first_fault (lowered (Using role) (at before) l ∷ []) over (elided_fault (all_or_fault (lowered (Using role) (at before) l ∷ [])) h))
  use_over before (Usual (Using role), Path is_self path None) h = absurd cc
  use_over before (Usual (Using role), Path is_self path (Some found)) h =
      let ls = filled path.lifetimes found.count in
      let numbers = lowered_generics (Using role) is_self (at before) ls in
      subst (λ ks. most < count_after (count_of (at before)) ks) (sym (path_added is_self (has_own before) (Elides role) ls))
      (path_over (at before) few_names names_same role is_self ls
      (first_fault numbers over (elided_fault (all_or_fault numbers) (arity_over (nat_lt found.count (length path.lifetimes)) (of_elided (all_or_fault numbers)) h))))
  use_over before (Usual Returning, One l) h =
      returned_over (at before) few_names names_same l
      (sym (in_one (returned (at before) l) (Err over) (first_fault (returned (at before) l ∷ []) over (elided_fault (all_or_fault (returned (at before) l ∷ [])) h))))
  use_over before (Usual Returning, Path is_self path None) h = absurd cc
  use_over before (Usual Returning, Path true path (Some found)) h =
      let ls = filled path.lifetimes found.count in
      let numbers = own_numbers (has_own before) (at before) ls in
      subst (λ ks. most < count_after (count_of (at before)) ks) (sym (own_added (has_own before) ls))
      (own_over (at before) few_names names_same (has_own before) ls
      (first_fault numbers over (elided_fault (all_or_fault numbers) (arity_over (nat_lt found.count (length path.lifetimes)) (of_elided (all_or_fault numbers)) h))))
  use_over before (Usual Returning, Path false path (Some found)) h =
      let ls = filled path.lifetimes found.count in
      let numbers = map (returned (at before)) ls in
      let from = mapped (returned (at before)) ls (Err over) (first_fault numbers over (elided_fault (all_or_fault numbers) (arity_over (nat_lt found.count (length path.lifetimes)) (of_elided (all_or_fault numbers)) h))) in
      returned_over (at before) few_names names_same from.0 (sym from.1.1)
  use_over before (Usual Defining, One l) h =
      absurd (defined_never (at before) few_names names_same l
      (sym (in_one (defined (at before) l) (Err over) (first_fault (defined (at before) l ∷ []) over (elided_fault (all_or_fault (defined (at before) l ∷ [])) h)))))
  use_over before (Usual Defining, Path is_self path None) h = absurd cc
  use_over before (Usual Defining, Path is_self path (Some found)) h =
      let ls = filled path.lifetimes found.count in
      let numbers = map (defined (at before)) ls in
      let from = mapped (defined (at before)) ls (Err over) (first_fault numbers over (elided_fault (all_or_fault numbers) (arity_over (nat_lt found.count (length path.lifetimes)) (of_elided (all_or_fault numbers)) h))) in
      absurd (defined_never (at before) few_names names_same from.0 (sym from.1.1))
  use_over before (TraitReturn, One l) h =
      numbers_over (lifetime_names declared) few_names (count_of (at before)) (l ∷ [])
      (first_fault (lowered (Using Counting) (at before) l ∷ []) over (elided_fault (all_or_fault (lowered (Using Counting) (at before) l ∷ [])) h))
  use_over before (TraitReturn, Path is_self path None) h = absurd cc
  use_over before (TraitReturn, Path is_self path (Some found)) h =
      let ls = filled path.lifetimes found.count in
      let numbers = lowered_generics (Using Counting) is_self (at before) ls in
      subst (λ ks. most < count_after (count_of (at before)) ks) (sym (path_added is_self (has_own before) Neither ls))
      (path_over (at before) few_names names_same Counting is_self ls
      (first_fault numbers over (elided_fault (all_or_fault numbers) (arity_over (nat_lt found.count (length path.lifetimes)) (of_elided (all_or_fault numbers)) h))))

  use_room : (before : List Placed) (p : Placed) (ms : List (MaybeStatic ℕ)) → use_answer (phase_of p.0) (at before) p.1 ≡ Ok ms → count_of (at before) ≤ most
      → count_after (count_of (at before)) (added_by before p) ≤ most
  use_room before (Usual (Using role), One l) ms h small =
      numbers_room (lifetime_names declared) few_names (count_of (at before)) (l ∷ []) ms (elided_ok (all_or_fault (lowered (Using role) (at before) l ∷ [])) ms h) small
  use_room before (Usual (Using role), Path is_self path None) ms h small = absurd cc
  use_room before (Usual (Using role), Path is_self path (Some found)) ms h small =
      let ls = filled path.lifetimes found.count in
      let numbers = lowered_generics (Using role) is_self (at before) ls in
      subst (λ ks. count_after (count_of (at before)) ks ≤ most) (sym (path_added is_self (has_own before) (Elides role) ls))
      (path_room (at before) few_names names_same role is_self ls ms (elided_ok (all_or_fault numbers) ms (arity_ok (nat_lt found.count (length path.lifetimes)) (of_elided (all_or_fault numbers)) ms h)) small)
  use_room before (Usual Returning, One l) ms h small = small
  use_room before (Usual Returning, Path is_self path None) ms h small = absurd cc
  use_room before (Usual Returning, Path true path (Some found)) ms h small =
      let ls = filled path.lifetimes found.count in
      let numbers = own_numbers (has_own before) (at before) ls in
      subst (λ ks. count_after (count_of (at before)) ks ≤ most) (sym (own_added (has_own before) ls))
      (own_room (at before) few_names names_same (has_own before) ls ms (elided_ok (all_or_fault numbers) ms (arity_ok (nat_lt found.count (length path.lifetimes)) (of_elided (all_or_fault numbers)) ms h)) small)
  use_room before (Usual Returning, Path false path (Some found)) ms h small = small
  use_room before (Usual Defining, u) ms h small = small
  use_room before (TraitReturn, One l) ms h small =
      numbers_room (lifetime_names declared) few_names (count_of (at before)) (l ∷ []) ms (elided_ok (all_or_fault (lowered (Using Counting) (at before) l ∷ [])) ms h) small
  use_room before (TraitReturn, Path is_self path None) ms h small = absurd cc
  use_room before (TraitReturn, Path is_self path (Some found)) ms h small =
      let ls = filled path.lifetimes found.count in
      let numbers = lowered_generics (Using Counting) is_self (at before) ls in
      subst (λ ks. count_after (count_of (at before)) ks ≤ most) (sym (path_added is_self (has_own before) Neither ls))
      (path_room (at before) few_names names_same Counting is_self ls ms (elided_ok (all_or_fault numbers) ms (arity_ok (nat_lt found.count (length path.lifetimes)) (of_elided (all_or_fault numbers)) ms h)) small)

  -- the count after more uses
  count_is : (ps : List Placed) → count_of (at ps) ≡ count_after (length declared.nodes) (map life (occurrences ps))
  count_is ps = ap (count_after (length declared.nodes)) (lifetimes_elided (occurrences ps))

  count_split : (before ps : List Placed) → count_of (at (before ++ ps)) ≡ count_after (count_of (at before)) (map life (each_after uses_in before ps))
  count_split before ps =
      count_is (before ++ ps) ∙ ap (λ es. count_after (length declared.nodes) (map life es)) (each-append uses_in [] before ps)
      ∙ ap (count_after (length declared.nodes)) (map_both (occurrences before) (each_after uses_in before ps))
      ∙ count_more (length declared.nodes) (map life (occurrences before)) (map life (each_after uses_in before ps))
      ∙ ap (λ n. count_after n (map life (each_after uses_in before ps))) (sym (count_is before))

  count_next : (before : List Placed) (p : Placed) (after : List Placed)
      → count_of (at (before ++ p ∷ after)) ≡ count_after (count_after (count_of (at before)) (added_by before p)) (map life (each_after uses_in (before ++ p ∷ []) after))
  count_next before p after =
      count_split before (p ∷ after) ∙ ap (count_after (count_of (at before))) (map_both (uses_in before p) (each_after uses_in (before ++ p ∷ []) after))
      ∙ count_more (count_of (at before)) (added_by before p) (map life (each_after uses_in (before ++ p ∷ []) after))

  -- a use with a number too many
  pub too_many_of : (us : List Placed) → Contains (answers declared us) (Err (fault.Elide over)) → most < count_of (at us)
  too_many_of us h =
      let found = answer_of_use declared us (Err (fault.Elide over)) h in
      let p : Placed = (found.part, found.it) in
      let here = use_over found.before p (sym found.same) in
      let rest = map life (each_after uses_in (found.before ++ p ∷ []) found.stands.after) in
      let grown = count_grows (count_after (count_of (at found.before)) (added_by found.before p)) rest in
      subst (λ n. most < n) (sym (ap (λ xs. count_of (at xs)) found.stands.listed ∙ count_next found.before p found.stands.after)) (omega (arith, here, grown))

  abbrev answer_at : List Placed → Placed → List Answer
  answer_at before p = use_answer (phase_of p.0) (at before) p.1 ∷ []

  by_answer : (before : List Placed) (p : Placed) (ps : List Placed)
      → (count_of (at (before ++ p ∷ [])) ≤ most → (f : NumberFault) × Contains (each_after answer_at (before ++ p ∷ []) ps) (Err f))
      → count_of (at before) ≤ most → (r : Answer) → use_answer (phase_of p.0) (at before) p.1 ≡ r → (f : NumberFault) × Contains (each_after answer_at before (p ∷ ps)) (Err f)
  by_answer before p ps later small (Err f) is =
      (f, subst (λ x. Contains (each_after answer_at before (p ∷ ps)) x) is (in_first (use_answer (phase_of p.0) (at before) p.1) (each_after answer_at (before ++ p ∷ []) ps)))
  by_answer before p ps later small (Ok ms) is =
      let more = later (subst (λ n. n ≤ most) (sym (count_next before p [])) (use_room before p ms is small)) in
      (more.0, in_rest (use_answer (phase_of p.0) (at before) p.1) (each_after answer_at (before ++ p ∷ []) ps) (Err more.0) more.1)

  some_from : (before ps : List Placed) → count_of (at before) ≤ most → most < count_of (at (before ++ ps)) → (f : NumberFault) × Contains (each_after answer_at before ps) (Err f)
  some_from before [] small large = let same = ap (λ xs. count_of (at xs)) (append-nil before) in absurd (omega (arith, small, large, same))
  some_from before (p ∷ ps) small large =
      by_answer before p ps (λ room. some_from (before ++ p ∷ []) ps room (subst (λ xs. most < count_of (at xs)) (sym (append_next declared before p ps)) large)) small
      (use_answer (phase_of p.0) (at before) p.1) refl

  -- where there are too many, a use has no number
  pub some_of_many : (us : List Placed) → most < count_of (at us) → (f : NumberFault) × Contains (answers declared us) (Err f)
  some_of_many us large = some_from [] us few large
