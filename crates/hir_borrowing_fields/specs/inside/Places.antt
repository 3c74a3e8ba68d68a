-- Places, each of which tells the one that it stands in. The example throughout has the places `mark` and `page`, which
-- stands in it; each is the first of its kind, and has the number 0.
use Rattle.std.specs.Prelude.{⊤, ◌≡◌, ◌<◌, ℕ, suc, List, [], ◌∷◌, ◌++◌, Option, Some, None, length, map, slice_index_or}
use Rattle.hir_borrowing_fields.specs.declared.places.Place.{Place}

-- a step on the way to a place: into the input or the field of this number and name
pub record Step : Type 0 where
  pub number : ℕ
  pub name : List ℕ

-- the numbers along a way: 0, 0
abbrev pub step_numbers : List Step → List ℕ
step_numbers steps = map (λ step. step.number) steps

-- the names along it: `mark`, `page`
abbrev pub step_names : List Step → List (List ℕ)
step_names steps = map (λ step. step.name) steps

-- the place is there, where these steps lead to each; the root always is
abbrev pub IsPlaceIn : List (List Step) → Option ℕ → Type 0
IsPlaceIn ways None = ⊤
IsPlaceIn ways (Some place) = place < length ways

-- the steps that lead to a place, and none to the root
abbrev pub steps_at : List (List Step) → Option ℕ → List Step
steps_at ways None = []
steps_at ways (Some place) = slice_index_or ways place []

-- some step leads to the place, unless it is the root
abbrev pub HasStepIn : List (List Step) → Option ℕ → Type 0
HasStepIn ways None = ⊤
HasStepIn ways (Some place) = 0 < length (slice_index_or ways place [])

-- the step into a place from what it stands in
abbrev pub own_step : Place → Step
own_step place = record { number = place.number; name = place.name.now }

-- the steps that lead to a place that is added: those to what it stands in, and its own
abbrev pub steps_to : List (List Step) → Place → List Step
steps_to ways place = steps_at ways place.parent ++ own_step place ∷ []

-- the steps that lead to each place, these and then those of further places
abbrev pub ways_with : List (List Step) → List Place → List (List Step)
ways_with ways [] = ways
ways_with ways (place ∷ places) = ways_with (ways ++ steps_to ways place ∷ []) places

-- the steps that lead to each place: into `mark`; and into `mark`, `page`
abbrev pub ways_to : List Place → List (List Step)
ways_to places = ways_with [] places

-- it is the root, or it stands before the place of this number
abbrev pub IsRootedAt : ℕ → Option ℕ → Type 0
IsRootedAt k None = ⊤
IsRootedAt k (Some parent) = parent < k

-- each of these, whose numbers begin so, stands in the root or in one before it
abbrev pub AreRooted : ℕ → List Place → Type 0
AreRooted k [] = ⊤
AreRooted k (place ∷ places) = IsRootedAt k place.parent × AreRooted (suc k) places

-- these are the steps without the last so many
abbrev pub IsAbove : {A : Type 0} → List A → ℕ → List A → Type 0
IsAbove {A} steps up front = (rest : List A) × (steps ≡ front ++ rest) × (length rest ≡ up)
