-- The faults that the uses of a signature can have.
use Rattle.std.proofs.Common.{◌≡◌, ℕ, zero, suc, ◌-◌, List, [], ◌∷◌, ◌++◌, length, map, true, false, Bool, Option, Some, None, Ok, Err, Result, refl}
use Rattle.std.specs.Prelude.{nat_lt, if◌then◌else◌, ⊤, replicate}
use Rattle.bridge_decl.specs.declared.lifetimes.Lifetime.{Lifetime}
use Rattle.bridge_decl.specs.declared.lifetimes.Lifetime.TheVariants as written
use Rattle.bridge_decl.specs.declared.lifetimes.LifetimeEnv.{LifetimeEnv}
use Rattle.bridge_decl.specs.Lifetimes.{lifetime_names}
use Rattle.bridge_text.specs.NameIndex.{number_of}
use Rattle.bridge_ast.specs.Each.{each_after}
use Rattle.hir_elide.specs.declared.fault.ElideFault.{ElideFault}
use Rattle.hir_elide.specs.declared.fault.ElideFault.TheVariants as elide
use Rattle.hir_elide.specs.Elision.{elided_by}
use Rattle.hir_elide.specs.Generics.{all_or_fault, filled, lowered_generics, own_numbers, with_first}
use Rattle.hir_elide.specs.Numbering.{Number, lifetime_number, lifetime_numbers, most, name_number, one_if_anonymous, within_most}
use Rattle.hir_elide.specs.Occurrences.{Occurrence, Own, Role, Signature, count_of, is_borrow, is_counting, is_own, numbers_with, used_as}
use Rattle.hir_elide.specs.Phases.{Phase, Using, Returning, Defining, defined, lowered, lowered_each, returned}
use Rattle.hir_elide.proofs.BelowLemmas.{Each}
use Rattle.hir_life.specs.declared.maybe_static.MaybeStatic.{MaybeStatic}
use Rattle.hir_life.specs.declared.maybe_static.MaybeStatic.TheVariants.{NonStatic}
use Rattle.hir_number.specs.declared.fault.NumberFault.{NumberFault}
use Rattle.hir_number.specs.declared.fault.NumberFault.TheVariants as fault
use Rattle.hir_number.specs.Faults.{of_elided}
use Rattle.hir_number.specs.Numbers.{Answer, all_answers, answers, use_answer, with_answer}
use Rattle.hir_number.specs.Occurrences.{Elides, Appearance, AppearanceRole, Neither, elide_occurrence, appearing, has_own, is_own_use, occurrences, own_occurrences, path_occurrences, returned_occurrences, signature_with, use_occurrences}
use Rattle.hir_number.specs.Signatures.{Placed, TraitReturn, Usual, phase_of}
use Rattle.hir_number.specs.Uses.{Use, One, Path, lifetimes_used}

-- a fault that a use can have: none of a declared name, and no want of memory
abbrev pub IsLowered : NumberFault → Type 0
IsLowered fault.UnresolvedPath = ⊤
IsLowered fault.LifetimeArity = ⊤
IsLowered (fault.Elide elide.LifetimeUnknown) = ⊤
IsLowered (fault.Elide elide.AnonymousInDefinition) = ⊤
IsLowered (fault.Elide elide.ElisionNoSource) = ⊤
IsLowered (fault.Elide elide.ElisionAmbiguous) = ⊤
IsLowered (fault.Elide elide.TooManyLifetimes) = ⊤
IsLowered (fault.Elide elide.BadIdent) = ⊥
IsLowered (fault.Elide elide.NoMemory) = ⊥
IsLowered fault.NoMemory = ⊥

-- a fault is so, if there is one
abbrev pub FineBy : {A : Type 0} → (NumberFault → Type 0) → Result A NumberFault → Type 0
FineBy P (Ok x) = ⊤
FineBy P (Err e) = P e

-- every element is so
pub each_both : {A : Type 0} (P : A → Type 0) (xs ys : List A) → Each P xs → Each P ys → Each P (xs ++ ys)
each_both P [] ys h k = k
each_both P (x ∷ xs) ys h k = (h.0, each_both P xs ys h.1 k)

-- the faults that come of elision
pub record OfElision (P : NumberFault → Type 0) : Type 0 where
  pub anonymous : P (fault.Elide elide.AnonymousInDefinition)
  pub no_source : P (fault.Elide elide.ElisionNoSource)
  pub ambiguous : P (fault.Elide elide.ElisionAmbiguous)
  pub too_many : P (fault.Elide elide.TooManyLifetimes)

module _ (P : NumberFault → Type 0) (ok : OfElision P) where
  -- what a lifetime is lowered to
  abbrev Fine : Number → Type 0
  Fine r = FineBy P (of_elided r)

  -- a name that isn't declared is such a fault
  abbrev pub IsKnown : List (List ℕ) → Lifetime → Type 0
  IsKnown names written.Static = ⊤
  IsKnown names (written.Named name) = number_of names name ≡ None → P (fault.Elide elide.LifetimeUnknown)
  IsKnown names written.Anonymous = ⊤

  within_fine : (n : ℕ) → Fine (within_most n)
  within_fine n = elim (nat_lt n most) as (λ b. Fine (if b then Ok (NonStatic n) else Err elide.TooManyLifetimes)) [ true ↦ tt | false ↦ ok.too_many ]

  name_fine : (o : Option ℕ) → (o ≡ None → P (fault.Elide elide.LifetimeUnknown)) → Fine (name_number o)
  name_fine None h = h refl
  name_fine (Some place) h = within_fine place

  number_fine : (names : List (List ℕ)) (count : ℕ) (l : Lifetime) → IsKnown names l → Fine (lifetime_number names count l)
  number_fine names count written.Static h = tt
  number_fine names count (written.Named name) h = name_fine (number_of names name) h
  number_fine names count written.Anonymous h = within_fine count

  numbers_fine : (names : List (List ℕ)) (count : ℕ) (ls : List Lifetime) → Each (IsKnown names) ls → Each Fine (lifetime_numbers names count ls)
  numbers_fine names count [] h = tt
  numbers_fine names count (l ∷ ls) h = (number_fine names count l h.0, numbers_fine names (one_if_anonymous l count) ls h.1)

  -- an occurrence of one that is declared, or whose fault is such
  abbrev OccursKnown : List (List ℕ) → Occurrence → Type 0
  OccursKnown names o = IsKnown names o.lifetime

  if_fine : (b : Bool) (r : Number) (rest : List Number) → Fine r → Each Fine rest → Each Fine ((if b then r ∷ [] else []) ++ rest)
  if_fine true r rest h k = (h, k)
  if_fine false r rest h k = k

  with_fine : (has_role : Role → Bool) (names : List (List ℕ)) (count : ℕ) (os : List Occurrence) → Each (OccursKnown names) os → Each Fine (numbers_with has_role names count os)
  with_fine has_role names count [] h = tt
  with_fine has_role names count (o ∷ os) h =
      if_fine (has_role o.role) (lifetime_number names count o.lifetime) (numbers_with has_role names (one_if_anonymous o.lifetime count) os)
      (number_fine names count o.lifetime h.0) (with_fine has_role names (one_if_anonymous o.lifetime count) os h.1)

  used_fine : (has_role : Role → Bool) (s : Signature) → Each (OccursKnown (lifetime_names s.declared)) s.occurrences → Each Fine (used_as has_role s)
  used_fine has_role s h = with_fine has_role (lifetime_names s.declared) (length s.declared.nodes) s.occurrences h

  elided_fine : (bs cs : List Number) → Each Fine bs → Each Fine cs → Fine (elided_by bs cs)
  elided_fine (b ∷ bs) cs h k = h.0
  elided_fine [] [] h k = ok.no_source
  elided_fine [] (c ∷ []) h k = k.0
  elided_fine [] (c ∷ d ∷ cs) h k = ok.ambiguous

  module _ (s : Signature) (known : Each (OccursKnown (lifetime_names s.declared)) s.occurrences) where
    returned_fine : (l : Lifetime) → IsKnown (lifetime_names s.declared) l → Fine (returned s l)
    returned_fine written.Static h = tt
    returned_fine (written.Named name) h = name_fine (number_of (lifetime_names s.declared) name) h
    returned_fine written.Anonymous h = elided_fine (used_as is_borrow s) (used_as is_counting s) (used_fine is_borrow s known) (used_fine is_counting s known)

    defined_fine : (l : Lifetime) → IsKnown (lifetime_names s.declared) l → Fine (defined s l)
    defined_fine written.Static h = tt
    defined_fine (written.Named name) h = name_fine (number_of (lifetime_names s.declared) name) h
    defined_fine written.Anonymous h = ok.anonymous

    map_fine : (f : Lifetime → Number) → ((l : Lifetime) → IsKnown (lifetime_names s.declared) l → Fine (f l)) → (ls : List Lifetime) → Each (IsKnown (lifetime_names s.declared)) ls → Each Fine (map f ls)
    map_fine f k [] h = tt
    map_fine f k (l ∷ ls) h = (k l h.0, map_fine f k ls h.1)

    lowered_fine : (phase : Phase) (l : Lifetime) → IsKnown (lifetime_names s.declared) l → Fine (lowered phase s l)
    lowered_fine (Using role) l h = number_fine (lifetime_names s.declared) (count_of s) l h
    lowered_fine Returning l h = returned_fine l h
    lowered_fine Defining l h = defined_fine l h

    each_fine : (phase : Phase) (ls : List Lifetime) → Each (IsKnown (lifetime_names s.declared)) ls → Each Fine (lowered_each phase s ls)
    each_fine (Using role) ls h = numbers_fine (lifetime_names s.declared) (count_of s) ls h
    each_fine Returning ls h = map_fine (returned s) returned_fine ls h
    each_fine Defining ls h = map_fine (defined s) defined_fine ls h

    own_fine : (met : Bool) (ls : List Lifetime) → Each (IsKnown (lifetime_names s.declared)) ls → Each Fine (own_numbers met s ls)
    own_fine true ls h = used_fine is_own s known
    own_fine false ls h = each_fine (Using Own) ls h

    generics_fine : (phase : Phase) (is_self : Bool) (ls : List Lifetime) → Each (IsKnown (lifetime_names s.declared)) ls → Each Fine (lowered_generics phase is_self s ls)
    generics_fine (Using role) true ls h = own_fine s.has_self ls h
    generics_fine (Using role) false ls h = each_fine (Using role) ls h
    generics_fine Returning true ls h = own_fine s.has_self ls h
    generics_fine Returning false ls h = each_fine Returning ls h
    generics_fine Defining is_self ls h = each_fine Defining ls h

  first_fine : (n : MaybeStatic ℕ) (r : Result (List (MaybeStatic ℕ)) ElideFault) → FineBy P (of_elided r) → FineBy P (of_elided (with_first n r))
  first_fine n (Ok ns) h = tt
  first_fine n (Err e) h = h

  all_fine : (ns : List Number) → Each Fine ns → FineBy P (of_elided (all_or_fault ns))
  all_fine [] h = tt
  all_fine (Ok n ∷ ns) h = first_fine n (all_or_fault ns) (all_fine ns h.1)
  all_fine (Err e ∷ ns) h = h.0

  -- a use whose faults are all such
  abbrev pub UseFine : List (List ℕ) → Use → Type 0
  UseFine names (One l) = IsKnown names l
  UseFine names (Path is_self path None) = P fault.UnresolvedPath × Each (IsKnown names) path.lifetimes
  UseFine names (Path is_self path (Some found)) = (nat_lt found.count (length path.lifetimes) ≡ true → P fault.LifetimeArity) × Each (IsKnown names) path.lifetimes

  unwritten_fine : (names : List (List ℕ)) (n : ℕ) → Each (IsKnown names) (replicate n written.Anonymous)
  unwritten_fine names zero = tt
  unwritten_fine names (suc n) = (tt, unwritten_fine names n)

  filled_fine : (names : List (List ℕ)) (ls : List Lifetime) (count : ℕ) → Each (IsKnown names) ls → Each (IsKnown names) (filled ls count)
  filled_fine names ls count h = each_both (IsKnown names) ls (replicate (count - length ls) written.Anonymous) h (unwritten_fine names (count - length ls))

  arity_fine : (b : Bool) (r : Answer) → (b ≡ true → P fault.LifetimeArity) → FineBy P r → FineBy P (if b then Err fault.LifetimeArity else r)
  arity_fine true r h k = h refl
  arity_fine false r h k = k

  use_fine : (phase : Phase) (s : Signature) (u : Use) → Each (OccursKnown (lifetime_names s.declared)) s.occurrences → UseFine (lifetime_names s.declared) u → FineBy P (use_answer phase s u)
  use_fine phase s (One l) known h = all_fine (lowered phase s l ∷ []) (lowered_fine s known phase l h, tt)
  use_fine phase s (Path is_self path None) known h = h.0
  use_fine phase s (Path is_self path (Some found)) known h =
      arity_fine (nat_lt found.count (length path.lifetimes)) (of_elided (all_or_fault (lowered_generics phase is_self s (filled path.lifetimes found.count)))) h.0
      (all_fine (lowered_generics phase is_self s (filled path.lifetimes found.count))
      (generics_fine s known phase is_self (filled path.lifetimes found.count) (filled_fine (lifetime_names s.declared) path.lifetimes found.count h.1)))

  -- ---- what occurs

  used_known : (names : List (List ℕ)) (u : Use) → UseFine names u → Each (IsKnown names) (lifetimes_used u)
  used_known names (One l) h = (h, tt)
  used_known names (Path is_self path None) h = h.1
  used_known names (Path is_self path (Some found)) h = filled_fine names path.lifetimes found.count h.1

  -- one that occurs in a role
  abbrev AppearanceKnown : List (List ℕ) → Appearance → Type 0
  AppearanceKnown names e = IsKnown names e.lifetime

  occurring_known : (names : List (List ℕ)) (role : AppearanceRole) (ls : List Lifetime) → Each (IsKnown names) ls → Each (AppearanceKnown names) (appearing role ls)
  occurring_known names role [] h = tt
  occurring_known names role (l ∷ ls) h = (h.0, occurring_known names role ls h.1)

  own_known : (names : List (List ℕ)) (met : Bool) (ls : List Lifetime) → Each (IsKnown names) ls → Each (AppearanceKnown names) (own_occurrences met ls)
  own_known names true ls h = tt
  own_known names false ls h = occurring_known names (Elides Own) ls h

  path_known : (names : List (List ℕ)) (is_self met : Bool) (role : AppearanceRole) (ls : List Lifetime) → Each (IsKnown names) ls → Each (AppearanceKnown names) (path_occurrences is_self met role ls)
  path_known names true met role ls h = own_known names met ls h
  path_known names false met role ls h = occurring_known names role ls h

  returned_known : (names : List (List ℕ)) (is_self met : Bool) (ls : List Lifetime) → Each (IsKnown names) ls → Each (AppearanceKnown names) (returned_occurrences is_self met ls)
  returned_known names true met ls h = own_known names met ls h
  returned_known names false met ls h = tt

  use_known : (names : List (List ℕ)) (met : Bool) (p : Placed) → UseFine names p.1 → Each (AppearanceKnown names) (use_occurrences met p)
  use_known names met (Usual (Using role), u) h = path_known names (is_own_use u) met (Elides role) (lifetimes_used u) (used_known names u h)
  use_known names met (Usual Returning, u) h = returned_known names (is_own_use u) met (lifetimes_used u) (used_known names u h)
  use_known names met (Usual Defining, u) h = tt
  use_known names met (TraitReturn, u) h = path_known names (is_own_use u) met Neither (lifetimes_used u) (used_known names u h)

  abbrev pub PlacedFine : List (List ℕ) → Placed → Type 0
  PlacedFine names p = UseFine names p.1

  occurrences_known : (names : List (List ℕ)) (before ps : List Placed) → Each (PlacedFine names) ps
      → Each (AppearanceKnown names) (each_after (λ b p. use_occurrences (has_own b) p) before ps)
  occurrences_known names before [] h = tt
  occurrences_known names before (p ∷ ps) h =
      each_both (AppearanceKnown names) (use_occurrences (has_own before) p) (each_after (λ b q. use_occurrences (has_own b) q) (before ++ p ∷ []) ps)
      (use_known names (has_own before) p h.0) (occurrences_known names (before ++ p ∷ []) ps h.1)

  told_known : (names : List (List ℕ)) (es : List Appearance) → Each (AppearanceKnown names) es → Each (OccursKnown names) (map elide_occurrence es)
  told_known names [] h = tt
  told_known names (e ∷ es) h = (h.0, told_known names es h.1)

  -- ---- answers

  answer_first : {A : Type 0} (x : A) (r : Result (List A) NumberFault) → FineBy P r → FineBy P (with_answer x r)
  answer_first x (Ok xs) h = tt
  answer_first x (Err e) h = h

  all_answers_fine : {A : Type 0} (rs : List (Result A NumberFault)) → Each (FineBy P) rs → FineBy P (all_answers rs)
  all_answers_fine [] h = tt
  all_answers_fine (Ok x ∷ rs) h = answer_first x (all_answers rs) (all_answers_fine rs h.1)
  all_answers_fine (Err e ∷ rs) h = h.0

  after_fine : (declared : LifetimeEnv) (before ps : List Placed) → Each (PlacedFine (lifetime_names declared)) before → Each (PlacedFine (lifetime_names declared)) ps
      → Each (FineBy P) (each_after (λ b p. use_answer (phase_of p.0) (signature_with declared b) p.1 ∷ []) before ps)
  after_fine declared before [] h k = tt
  after_fine declared before (p ∷ ps) h k = (
    use_fine (phase_of p.0) (signature_with declared before) p.1 (told_known (lifetime_names declared) (occurrences before) (occurrences_known (lifetime_names declared) [] before h)) k.0,
    after_fine declared (before ++ p ∷ []) ps (each_both (PlacedFine (lifetime_names declared)) before (p ∷ []) h (k.0, tt)) k.1,
  )

  -- where the faults of each use are such, so is that of all
  pub answers_fine : (declared : LifetimeEnv) (ps : List Placed) → Each (PlacedFine (lifetime_names declared)) ps → FineBy P (all_answers (answers declared ps))
  answers_fine declared ps h = all_answers_fine (answers declared ps) (after_fine declared [] ps tt h)

-- ---- faults of uses

each_anything : {A : Type 0} (P : A → Type 0) → ((x : A) → P x) → (xs : List A) → Each P xs
each_anything P h [] = tt
each_anything P h (x ∷ xs) = (h x, each_anything P h xs)

lowered_elision : OfElision IsLowered
lowered_elision = record { anonymous = tt; no_source = tt; ambiguous = tt; too_many = tt }

any_known : (names : List (List ℕ)) (l : Lifetime) → IsKnown IsLowered lowered_elision names l
any_known names written.Static = tt
any_known names (written.Named name) = λ h. tt
any_known names written.Anonymous = tt

any_fine : (names : List (List ℕ)) (u : Use) → UseFine IsLowered lowered_elision names u
any_fine names (One l) = any_known names l
any_fine names (Path is_self path None) = (tt, each_anything (IsKnown IsLowered lowered_elision names) (any_known names) path.lifetimes)
any_fine names (Path is_self path (Some found)) = (λ h. tt, each_anything (IsKnown IsLowered lowered_elision names) (any_known names) path.lifetimes)

-- the fault of all uses is none of a declared name, and no want of memory
pub answers_lowered : (declared : LifetimeEnv) (ps : List Placed) → FineBy IsLowered (all_answers (answers declared ps))
answers_lowered declared ps =
    answers_fine IsLowered lowered_elision declared ps
    (each_anything (PlacedFine IsLowered lowered_elision (lifetime_names declared)) (λ p. any_fine (lifetime_names declared) p.1) ps)
