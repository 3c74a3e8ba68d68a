-- Each number that is given is one of the lifetimes of the signature after it.
use Rattle.std.proofs.Common.{◌≡◌, arith, ℕ, zero, suc, ◌<◌, ◌≤◌, List, [], ◌∷◌, ◌++◌, length, map, true, false, Bool, Option, Some, None, Ok, Err, Result, refl, sym, ap, subst, ◌∙◌}
use Rattle.std.specs.Prelude.{nat_lt, if◌then◌else◌, ⊤, IfOk}
use Rattle.std.specs.List.{All}
use Rattle.std.proofs.lemmas.List.{length-map}
use Rattle.bridge_decl.specs.declared.lifetimes.Lifetime.{Lifetime}
use Rattle.bridge_decl.specs.declared.lifetimes.Lifetime.TheVariants as written
use Rattle.bridge_decl.specs.declared.lifetimes.LifetimeNode.{LifetimeNode}
use Rattle.bridge_decl.specs.Lifetimes.{lifetime_names}
use Rattle.bridge_text.specs.NameIndex.{number_of}
use Rattle.bridge_text.proofs.NameIndexLemmas.{number_of_some}
use Rattle.hir_elide.specs.declared.fault.ElideFault.{ElideFault}
use Rattle.hir_elide.specs.declared.fault.ElideFault.TheVariants as elide
use Rattle.hir_elide.specs.Elision.{elided_by}
use Rattle.hir_elide.specs.Generics.{IsUnlessNoMemory, all_or_fault, lowered_generics, own_numbers, with_first, with_generics, with_own}
use Rattle.hir_elide.specs.Numbering.{Number, count_after, lifetime_number, lifetime_numbers, most, name_number, one_if_anonymous, within_most}
use Rattle.hir_elide.specs.Occurrences.{Occurrence, Own, Role, Signature, count_of, is_borrow, is_counting, is_own, numbers_with, used_as}
use Rattle.hir_elide.specs.Phases.{Phase, Using, Returning, Defining, defined, lowered, lowered_each, returned, with_uses}
use Rattle.hir_elide.specs.inside.Standing.{IsOwn}
use Rattle.hir_elide.proofs.OccurrenceLemmas.{count_used}
use Rattle.hir_life.specs.Substitution.{AreBelow, IsBelow}
use Rattle.hir_life.specs.declared.maybe_static.MaybeStatic.{MaybeStatic}
use Rattle.hir_life.specs.declared.maybe_static.MaybeStatic.TheVariants.{Static, NonStatic}

-- ---- lists

abbrev pub Each : {A : Type 0} → (A → Type 0) → List A → Type 0
Each P [] = ⊤
Each P (x ∷ xs) = P x × Each P xs

pub weaker : {A : Type 0} (P Q : A → Type 0) → ((x : A) → P x → Q x) → (xs : List A) → Each P xs → Each Q xs
weaker P Q k [] h = tt
weaker P Q k (x ∷ xs) h = (k x h.0, weaker P Q k xs h.1)

pub each_all : {A : Type 0} (P : A → Type 0) (xs : List A) → Each P xs → All P xs
each_all P [] h k d lt = absurd (omega (arith, lt))
each_all P (x ∷ xs) h zero d lt = h.0
each_all P (x ∷ xs) h (suc k) d lt = each_all P xs h.1 k d (omega (arith, lt))

-- ---- numbers

abbrev pub Below : ℕ → Number → Type 0
Below c (Ok n) = IsBelow c n
Below c (Err e) = ⊤

pub within_more : (c d : ℕ) → c ≤ d → (n : MaybeStatic ℕ) → IsBelow c n → IsBelow d n
within_more c d le Static h = tt
within_more c d le (NonStatic n) h = omega (arith, le, h)

below_more : (c d : ℕ) → c ≤ d → (r : Number) → Below c r → Below d r
below_more c d le (Ok n) h = within_more c d le n h
below_more c d le (Err e) h = tt

most_below : (c n : ℕ) → n < c → Below c (within_most n)
most_below c n h = elim (nat_lt n most) as (λ b. Below c (if b then Ok (NonStatic n) else Err elide.TooManyLifetimes)) [ true ↦ h | false ↦ tt ]

name_below : (c : ℕ) (o : Option ℕ) → ((place : ℕ) → o ≡ Some place → place < c) → Below c (name_number o)
name_below c None h = tt
name_below c (Some place) h = most_below c place (h place refl)

pub one_grows_count : (l : Lifetime) (c : ℕ) → c ≤ one_if_anonymous l c
one_grows_count written.Static c = omega arith
one_grows_count (written.Named name) c = omega arith
one_grows_count written.Anonymous c = omega arith

pub count_grows : (c : ℕ) (ls : List Lifetime) → c ≤ count_after c ls
count_grows c [] = omega arith
count_grows c (l ∷ ls) =
    let one = one_grows_count l c in
    let rest = count_grows (one_if_anonymous l c) ls in
    omega (arith, one, rest)

-- a name is below the count of names
known : (names : List (List ℕ)) (c : ℕ) (name : List ℕ) → length names ≤ c → Below c (name_number (number_of names name))
known names c name le = name_below c (number_of names name) (λ place is. let at = (number_of_some names name place is).0 in omega (arith, le, at))

number_below : (names : List (List ℕ)) (c : ℕ) → length names ≤ c → (l : Lifetime) → Below (one_if_anonymous l c) (lifetime_number names c l)
number_below names c le written.Static = tt
number_below names c le (written.Named name) = known names c name le
number_below names c le written.Anonymous = most_below (suc c) c (omega arith)

numbers_below : (names : List (List ℕ)) (c : ℕ) → length names ≤ c → (ls : List Lifetime) → Each (Below (count_after c ls)) (lifetime_numbers names c ls)
numbers_below names c le [] = tt
numbers_below names c le (l ∷ ls) =
    let one = one_grows_count l c in (
      below_more (one_if_anonymous l c) (count_after (one_if_anonymous l c) ls) (count_grows (one_if_anonymous l c) ls) (lifetime_number names c l) (number_below names c le l),
      numbers_below names (one_if_anonymous l c) (omega (arith, le, one)) ls,
    )

if_below : (c : ℕ) (b : Bool) (r : Number) (rest : List Number) → Below c r → Each (Below c) rest → Each (Below c) ((if b then r ∷ [] else []) ++ rest)
if_below c true r rest h k = (h, k)
if_below c false r rest h k = k

with_below : (has_role : Role → Bool) (names : List (List ℕ)) (c : ℕ) → length names ≤ c → (os : List Occurrence)
    → Each (Below (count_after c (map (λ (o : Occurrence). o.lifetime) os))) (numbers_with has_role names c os)
with_below has_role names c le [] = tt
with_below has_role names c le (o ∷ os) =
    let one = one_grows_count o.lifetime c in
    let next : ℕ = one_if_anonymous o.lifetime c in
    let all : ℕ = count_after next (map (λ (p : Occurrence). p.lifetime) os) in
    if_below all (has_role o.role) (lifetime_number names c o.lifetime) (numbers_with has_role names next os)
    (below_more next all (count_grows next (map (λ (p : Occurrence). p.lifetime) os)) (lifetime_number names c o.lifetime) (number_below names c le o.lifetime))
    (with_below has_role names next (omega (arith, le, one)) os)

elided_below : (c : ℕ) (bs cs : List Number) → Each (Below c) bs → Each (Below c) cs → Below c (elided_by bs cs)
elided_below c (b ∷ bs) cs h k = h.0
elided_below c [] [] h k = tt
elided_below c [] (d ∷ []) h k = k.0
elided_below c [] (d ∷ e ∷ cs) h k = tt

of_below : (c : ℕ) (r : Number) → Below c r → IfOk r (IsBelow c)
of_below c (Ok n) h = h
of_below c (Err e) h = tt

-- ---- a signature

module _ (s : Signature) where
  names_few : length (lifetime_names s.declared) ≤ length s.declared.nodes
  names_few = let same = length-map s.declared.nodes (λ (node : LifetimeNode). node.name) in omega (arith, same)

  names_counted : length (lifetime_names s.declared) ≤ count_of s
  names_counted =
      let few = names_few in
      let more = count_grows (length s.declared.nodes) (map (λ (o : Occurrence). o.lifetime) s.occurrences) in
      omega (arith, few, more)

  used_below : (has_role : Role → Bool) → Each (Below (count_of s)) (used_as has_role s)
  used_below has_role = with_below has_role (lifetime_names s.declared) (length s.declared.nodes) names_few s.occurrences

  returned_below : (l : Lifetime) → Below (count_of s) (returned s l)
  returned_below written.Static = tt
  returned_below (written.Named name) = known (lifetime_names s.declared) (count_of s) name names_counted
  returned_below written.Anonymous = elided_below (count_of s) (used_as is_borrow s) (used_as is_counting s) (used_below is_borrow) (used_below is_counting)

  defined_below : (l : Lifetime) → Below (count_of s) (defined s l)
  defined_below written.Static = tt
  defined_below (written.Named name) = known (lifetime_names s.declared) (count_of s) name names_counted
  defined_below written.Anonymous = tt

  map_below : (f : Lifetime → Number) → ((l : Lifetime) → Below (count_of s) (f l)) → (ls : List Lifetime) → Each (Below (count_of s)) (map f ls)
  map_below f k [] = tt
  map_below f k (l ∷ ls) = (k l, map_below f k ls)

  each_below : (phase : Phase) (ls : List Lifetime) → Each (Below (count_of (with_uses phase s ls))) (lowered_each phase s ls)
  each_below (Using role) ls =
      subst (λ c. Each (Below c) (lifetime_numbers (lifetime_names s.declared) (count_of s) ls)) (sym (count_used s role ls)) (numbers_below (lifetime_names s.declared) (count_of s) names_counted ls)
  each_below Returning ls = map_below (returned s) returned_below ls
  each_below Defining ls = map_below (defined s) defined_below ls

  pub lowered_below : (phase : Phase) (l : Lifetime) → Below (count_of (with_uses phase s (l ∷ []))) (lowered phase s l)
  lowered_below (Using role) l =
      subst (λ c. Below c (lifetime_number (lifetime_names s.declared) (count_of s) l)) (sym (count_used s role (l ∷ []))) (number_below (lifetime_names s.declared) (count_of s) names_counted l)
  lowered_below Returning l = returned_below l
  lowered_below Defining l = defined_below l

-- ---- generics

own_below : (met : Bool) (s : Signature) (ls : List Lifetime) → Each (Below (count_of (with_own met s ls))) (own_numbers met s ls)
own_below true s ls = used_below s is_own
own_below false s ls = each_below s (Using Own) ls

pub generics_below : (phase : Phase) (is_self : Bool) (s : Signature) (ls : List Lifetime)
    → Each (Below (count_of (with_generics phase is_self s ls))) (lowered_generics phase is_self s ls)
generics_below (Using role) true s ls = own_below s.has_self s ls
generics_below (Using role) false s ls = each_below s (Using role) ls
generics_below Returning true s ls = own_below s.has_self s ls
generics_below Returning false s ls = each_below s Returning ls
generics_below Defining is_self s ls = each_below s Defining ls

-- ---- answers

-- the numbers of an answer are all below
abbrev pub AllBelow : ℕ → Result (List (MaybeStatic ℕ)) ElideFault → Type 0
AllBelow c (Ok ns) = Each (IsBelow c) ns
AllBelow c (Err e) = ⊤

first_below : (c : ℕ) (n : MaybeStatic ℕ) (r : Result (List (MaybeStatic ℕ)) ElideFault) → IsBelow c n → AllBelow c r → AllBelow c (with_first n r)
first_below c n (Ok ns) h k = (h, k)
first_below c n (Err e) h k = tt

pub all_below : (c : ℕ) (ns : List Number) → Each (Below c) ns → AllBelow c (all_or_fault ns)
all_below c [] h = tt
all_below c (Ok n ∷ ns) h = first_below c n (all_or_fault ns) h.0 (all_below c ns h.1)
all_below c (Err e ∷ ns) h = tt

unless_no_memory : (c : ℕ) (ns : List Number) (r : Result (List (MaybeStatic ℕ)) ElideFault) → Each (Below c) ns → IsUnlessNoMemory r (all_or_fault ns) → IfOk r (AreBelow c)
unless_no_memory c ns (Ok ms) h told = each_all (IsBelow c) ms (subst (AllBelow c) told (all_below c ns h))
unless_no_memory c ns (Err e) h told = tt

pub one_within : (phase : Phase) (s : Signature) (l : Lifetime) (r : Number) → r ≡ lowered phase s l → IfOk r (IsBelow (count_of (with_uses phase s (l ∷ []))))
one_within phase s l r told = of_below (count_of (with_uses phase s (l ∷ []))) r (subst (Below (count_of (with_uses phase s (l ∷ [])))) (sym told) (lowered_below s phase l))

pub list_within : (phase : Phase) (s : Signature) (ls : List Lifetime) (r : Result (List (MaybeStatic ℕ)) ElideFault)
    → IsUnlessNoMemory r (all_or_fault (lowered_each phase s ls)) → IfOk r (AreBelow (count_of (with_uses phase s ls)))
list_within phase s ls r told = unless_no_memory (count_of (with_uses phase s ls)) (lowered_each phase s ls) r (each_below s phase ls) told

pub own_within : (s : Signature) (ls : List Lifetime) (r : Result (List (MaybeStatic ℕ)) ElideFault)
    → IsUnlessNoMemory r (all_or_fault (own_numbers s.has_self s ls)) → IfOk r (AreBelow (count_of (with_own s.has_self s ls)))
own_within s ls r told = unless_no_memory (count_of (with_own s.has_self s ls)) (own_numbers s.has_self s ls) r (own_below s.has_self s ls) told

pub first_within : (s : Signature) (ls : List Lifetime) (r : Result (List (MaybeStatic ℕ)) ElideFault) → IsOwn None s
    → IsUnlessNoMemory r (all_or_fault (lowered_each (Using Own) s ls)) → IfOk r (AreBelow (count_of (with_own s.has_self s ls)))
first_within s ls r own told = subst (λ b. IfOk r (AreBelow (count_of (with_own b s ls)))) (sym own.0) (list_within (Using Own) s ls r told)

-- the place of a name that is declared
pub known_within : (s : Signature) (name : List ℕ) (place : ℕ) (r : Number) → number_of (lifetime_names s.declared) name ≡ Some place → r ≡ within_most place
    → IfOk r (IsBelow (count_of s))
known_within s name place r found told = of_below (count_of s) r (subst (Below (count_of s)) (ap name_number found ∙ sym told) (known (lifetime_names s.declared) (count_of s) name (names_counted s)))

pub place_counted : (s : Signature) (name : List ℕ) (place : ℕ) → number_of (lifetime_names s.declared) name ≡ Some place → place < count_of s
place_counted s name place found =
    let few = names_counted s in
    let at = (number_of_some (lifetime_names s.declared) name place found).0 in
    omega (arith, few, at)
