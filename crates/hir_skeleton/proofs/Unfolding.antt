-- The shallow edges, followed down, are the lists.
use Rattle.std.proofs.Common.{◌≡◌, ◌↔◌, inl, inr, ℕ, zero, suc, ◌≤◌, ◌+◌, Bool, true, false, true≢false, cond, List, [], ◌∷◌, length, refl, sym, ap, ◌∙◌, subst, arith}
use Rattle.std.specs.List.{Contains, list_any}
use Rattle.hir_skeleton.specs.Skeletons.{Skeleton, Nothing, Carrier, Struct}
use Rattle.hir_skeleton.specs.Leaves.{number_passes, through}
use Rattle.hir_skeleton.specs.Edges.{ShallowEdge, Whole, LeadsWithin, LeadsDown}
use Rattle.hir_skeleton.proofs.Members.{none_in_nothing, first_is_there, member_cases}
use Rattle.hir_skeleton.proofs.Passing.{passing_number, some_passes, passing_argument, argument_passes}
use Rattle.hir_skeleton.proofs.Fields.{FromField, path_of_field, field_gives}
use Rattle.hir_skeleton.proofs.Nesting.{type_paths, struct_paths}

-- a list of at most the empty path
pub the_empty_path : (b : Bool) (path : List ℕ) → Contains (cond b ([] ∷ []) []) path → (b ≡ true) × (path ≡ [])
the_empty_path true path h =
    elim (member_cases [] path [] h) [ inl is ↦ (refl, sym is) | inr more ↦ absurd (none_in_nothing path more) ]
the_empty_path false path h = absurd (none_in_nothing path h)

pub empty_path_there : (b : Bool) (path : List ℕ) → b ≡ true → path ≡ [] → Contains (cond b ([] ∷ []) []) path
empty_path_there true path holds is = subst (λ p. Contains ([] ∷ []) p) (sym is) (first_is_there [] [])
empty_path_there false path holds is = absurd (true≢false (sym holds))

pub short_enough : (path : List ℕ) (n : ℕ) → path ≡ [] → length path ≤ n
short_enough path n is = subst (λ p. length p ≤ n) (sym is) (omega arith)

-- an empty list of edges, or that of the whole input
pub the_whole : {K : Type 0} (b : Bool) (edge : ShallowEdge K) → Contains (cond b (Whole ∷ []) []) edge → (b ≡ true) × (edge ≡ Whole)
the_whole true edge h =
    elim (member_cases Whole edge [] h) [ inl is ↦ (refl, sym is) | inr more ↦ absurd (none_in_nothing edge more) ]
the_whole false edge h = absurd (none_in_nothing edge h)

pub whole_there : (K : Type 0) (b : Bool) → b ≡ true → Contains {X = ShallowEdge K} (cond b (Whole ∷ []) []) Whole
whole_there K true holds = first_is_there Whole []
whole_there K false holds = absurd (true≢false (sym holds))

module _ {K : Type 0} (fields_of : K → List (Skeleton K)) where
  -- the path leads to something that is borrowed for a lifetime that passes, at most n levels deep
  abbrev pub Leads : ℕ → (ℕ → Bool) → K → List ℕ → Type 0
  Leads n test key path = (length path ≤ n) × (d : ℕ) × (test d ≡ true) × LeadsDown fields_of path key d

  abbrev pub LeadsIn : ℕ → (ℕ → Bool) → Skeleton K → List ℕ → Type 0
  LeadsIn n test s rest = (length rest ≤ n) × (d : ℕ) × (test d ≡ true) × LeadsWithin (LeadsDown fields_of rest) rest d s

  abbrev pub Leading : ℕ → Type 0
  Leading n = (key : K) (test : ℕ → Bool) (path : List ℕ) → Contains (struct_paths fields_of n key test) path ↔ Leads n test key path

  leads_in : (n : ℕ) → Leading n → (test : ℕ → Bool) (s : Skeleton K) (rest : List ℕ) → Contains (type_paths fields_of (struct_paths fields_of n) test s) rest → LeadsIn n test s rest
  leads_in n claim test Nothing rest h = absurd (none_in_nothing rest h)
  leads_in n claim test (Carrier ls) rest h =
      let found = the_empty_path (list_any (number_passes test) ls) rest h in
      let number = passing_number test ls found.0 in
      (short_enough rest n found.1, number.0, number.1, (found.1, number.2))
  leads_in n claim test (Struct key args) rest h =
      let found = (claim key (through test args) rest).0 h in
      let number = passing_argument test args found.1 found.2 in
      (found.0, number.0, number.1, (found.1, number.2, found.3))

  led_in : (n : ℕ) → Leading n → (test : ℕ → Bool) (s : Skeleton K) (rest : List ℕ) → LeadsIn n test s rest → Contains (type_paths fields_of (struct_paths fields_of n) test s) rest
  led_in n claim test Nothing rest h = absurd h.3
  led_in n claim test (Carrier ls) rest h =
      empty_path_there (list_any (number_passes test) ls) rest (some_passes test ls h.1 h.2 h.3.1) h.3.0
  led_in n claim test (Struct key args) rest h =
      (claim key (through test args) rest).1 (h.0, h.3.0, argument_passes test args h.3.0 h.1 h.2 h.3.1, h.3.2)

  leads_none : Leading 0
  leads_none key test [] = (λ h. absurd (none_in_nothing [] h), λ h. absurd h.3)
  leads_none key test (i ∷ rest) = (λ h. absurd (none_in_nothing (i ∷ rest) h), λ h. absurd (let long = h.0 in omega arith))

  step_from : (n : ℕ) → Leading n → (key : K) (test : ℕ → Bool) (path : List ℕ) → FromField (type_paths fields_of (struct_paths fields_of n) test) 0 (fields_of key) path → Leads (suc n) test key path
  step_from n claim key test path from =
      let within = leads_in n claim test from.field from.rest from.gives in
      let same : 0 + from.number ≡ from.number = omega arith in
      let long = within.0 in
      subst (Leads (suc n) test key) (ap (λ i. i ∷ from.rest) (sym same) ∙ from.is) (omega arith, within.1, within.2, (from.field, from.at, within.3))

  step_to : (n : ℕ) → Leading n → (key : K) (test : ℕ → Bool) (path : List ℕ) → Leads (suc n) test key path → Contains (struct_paths fields_of (suc n) key test) path
  step_to n claim key test [] h = absurd h.3
  step_to n claim key test (i ∷ rest) h =
      let same : 0 + i ≡ i = omega arith in
      let long = h.0 in
      subst (λ k. Contains (struct_paths fields_of (suc n) key test) (k ∷ rest)) same
      (field_gives (type_paths fields_of (struct_paths fields_of n) test) 0 (fields_of key) i rest h.3.0 h.3.1 (led_in n claim test h.3.0 rest (omega arith, h.1, h.2, h.3.2)))

  leads_more : (n : ℕ) → Leading n → Leading (suc n)
  leads_more n claim key test path = (
    λ h. step_from n claim key test path (path_of_field (type_paths fields_of (struct_paths fields_of n) test) 0 (fields_of key) path h),
    step_to n claim key test path,
  )

  pub leads : (n : ℕ) → Leading n
  leads zero = leads_none
  leads (suc n) = leads_more n (leads n)
