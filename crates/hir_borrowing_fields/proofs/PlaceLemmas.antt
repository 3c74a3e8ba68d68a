-- Places as they grow, and the steps that lead to them.
use Rattle.std.proofs.Common.{◌≡◌, ◌<◌, ◌≤◌, ◌+◌, ◌-◌, ℕ, zero, suc, List, [], ◌∷◌, ◌++◌, length, take, drop, get_or, Option, Some, None, slice_get, refl, sym, ap, subst, ◌∙◌, arith, append_assoc, length-append, length-take-le}
use Rattle.std.specs.List.{FoldsTo, enumerate_from}
use Rattle.std.proofs.lemmas.List.{get_or_append_left, length-map, map-append, take_more}
use Rattle.std.proofs.lemmas.Fn.{FoldsTo-push}
use Rattle.std.proofs.lemmas.Option.{none-some, same_Some}
use Rattle.std.proofs.Math.ListN.{drop_of_length-le}
use Rattle.std.proofs.Math.Seq.{get_or-append_seam}
use Rattle.std.specs.Prelude.{codes}
use Rattle.bridge_decl.specs.Names.{joined}
use Rattle.hir_borrowing_fields.specs.declared.places.Place.{Place}
use Rattle.hir_borrowing_fields.specs.inside.Places.{AreRooted, IsAbove, HasStepIn, IsPlaceIn, IsRootedAt, Step, own_step, step_names, steps_at, steps_to, ways_to, ways_with}

-- the ways to one place more
abbrev pub with_way_to : List (List Step) → Place → List (List Step)
with_way_to ways place = ways ++ steps_to ways place ∷ []

pub places_more : (ways : List (List Step)) (places : List Place) (place : Place) → ways_with ways (places ++ place ∷ []) ≡ with_way_to (ways_with ways places) place
places_more ways [] place = refl
places_more ways (p ∷ places) place = places_more (with_way_to ways p) places place

one_longer : (ways : List (List Step)) (place : Place) → length (with_way_to ways place) ≡ length ways + 1
one_longer ways place = length-append ways (steps_to ways place ∷ [])

pub length_places : (ways : List (List Step)) (places : List Place) → length (ways_with ways places) ≡ length ways + length places
length_places ways [] = omega arith
length_places ways (p ∷ places) =
    let more = length_places (with_way_to ways p) places in
    let one = one_longer ways p in
    omega (arith, more, one)

pub rooted_in : (ways : List (List Step)) (k : ℕ) (parent : Option ℕ) → length ways ≡ k → IsPlaceIn ways parent → IsRootedAt k parent
rooted_in ways k None long within = tt
rooted_in ways k (Some parent) long within = omega (arith, long, within)

pub rooted_more : (k : ℕ) (places : List Place) (place : Place) → AreRooted k places → IsRootedAt (k + length places) place.parent → AreRooted k (places ++ place ∷ [])
rooted_more k [] place all one =
    let same : k + 0 ≡ k = omega arith in
    (subst (λ n. IsRootedAt n place.parent) same one, tt)
rooted_more k (p ∷ places) place all one =
    let same : k + suc (length places) ≡ suc k + length places = omega arith in
    (all.0, rooted_more (suc k) places place all.1 (subst (λ n. IsRootedAt n place.parent) same one))

-- the ways to the first places stay
pub ways_kept : (ways : List (List Step)) (places : List Place) (k : ℕ) → k < length ways → get_or (ways_with ways places) k [] ≡ get_or ways k []
ways_kept ways [] k within = refl
ways_kept ways (p ∷ places) k within =
    let one = one_longer ways p in
    ways_kept (with_way_to ways p) places k (omega (arith, within, one))
    ∙ get_or_append_left ways _ [] k within

fronts_kept : (ways : List (List Step)) (places : List Place) (parent : Option ℕ) → IsRootedAt (length ways) parent → steps_at ways parent ≡ steps_at (ways_with ways places) parent
fronts_kept ways places None within = refl
fronts_kept ways places (Some parent) within = sym (ways_kept ways places parent within)

ways_later : (ways : List (List Step)) (places : List Place) (i : ℕ) (place : Place) → AreRooted (length ways) places → slice_get places i ≡ Some place
    → get_or (ways_with ways places) (length ways + i) [] ≡ steps_to (ways_with ways places) place
ways_later ways [] i place all at = absurd (none-some place at)
ways_later ways (p ∷ places) zero place all at =
    let one = one_longer ways p in
    let same : length ways + 0 ≡ length ways = omega arith in
    ap (λ k. get_or (ways_with (with_way_to ways p) places) k []) same
    ∙ ways_kept (with_way_to ways p) places (length ways) (omega (arith, one))
    ∙ get_or-append_seam ways _ [] []
    ∙ ap (λ front. front ++ own_step p ∷ []) (fronts_kept ways (p ∷ places) p.parent all.0)
    ∙ ap (λ (q : Place). steps_to (ways_with ways (p ∷ places)) q) (same_Some p place at)
ways_later ways (p ∷ places) (suc i) place all at =
    let one = one_longer ways p in
    let long : length (with_way_to ways p) ≡ suc (length ways) = omega (arith, one) in
    let same : length ways + suc i ≡ length (with_way_to ways p) + i = omega (arith, one) in
    ap (λ k. get_or (ways_with (with_way_to ways p) places) k []) same
    ∙ ways_later (with_way_to ways p) places i place (subst (λ n. AreRooted n places) (sym long) all.1) at

-- the steps to a place are those to the place that it stands in, and its own
pub ways_read : (places : List Place) (i : ℕ) (place : Place) → AreRooted 0 places → slice_get places i ≡ Some place
    → get_or (ways_to places) i [] ≡ steps_to (ways_to places) place
ways_read places i place all at =
    let same : i ≡ 0 + i = omega arith in
    ap (λ k. get_or (ways_to places) k []) same ∙ ways_later [] places i place all at

rooted_later : (k : ℕ) (places : List Place) (i : ℕ) (place : Place) → AreRooted k places → slice_get places i ≡ Some place → IsRootedAt (k + i) place.parent
rooted_later k [] i place all at = absurd (none-some place at)
rooted_later k (p ∷ places) zero place all at =
    let same : k + 0 ≡ k = omega arith in
    subst (λ n. IsRootedAt n place.parent) (sym same) (subst (λ (q : Place). IsRootedAt k q.parent) (same_Some p place at) all.0)
rooted_later k (p ∷ places) (suc i) place all at =
    let same : suc k + i ≡ k + suc i = omega arith in
    subst (λ n. IsRootedAt n place.parent) same (rooted_later (suc k) places i place all.1 at)

pub rooted_read : (places : List Place) (i : ℕ) (place : Place) → AreRooted 0 places → slice_get places i ≡ Some place → IsRootedAt i place.parent
rooted_read places i place all at =
    let same : 0 + i ≡ i = omega arith in
    subst (λ n. IsRootedAt n place.parent) same (rooted_later 0 places i place all at)

pub within_before : (ways : List (List Step)) (k : ℕ) (parent : Option ℕ) → k < length ways → IsRootedAt k parent → IsPlaceIn ways parent
within_before ways k None within rooted = tt
within_before ways k (Some parent) within rooted = omega (arith, within, rooted)

-- the names with their numbers
pub numbered_more : {A : Type 0} (m : ℕ) (xs : List A) (x : A) → enumerate_from m (xs ++ x ∷ []) ≡ enumerate_from m xs ++ (m + length xs, x) ∷ []
numbered_more m [] x =
    let same : m ≡ m + 0 = omega arith in
    ap (λ n. (n, x) ∷ []) same
numbered_more m (y ∷ xs) x =
    let same : m + 1 + length xs ≡ m + suc (length xs) = omega arith in
    ap (λ rest. (m, y) ∷ rest) (numbered_more (m + 1) xs x)
    ∙ ap (λ n. (m, y) ∷ enumerate_from (m + 1) xs ++ (n, x) ∷ []) same

-- the name of this number, where so many are behind it
pub name_at_number : (names : List (List ℕ)) (number up : ℕ) (here front : List (List ℕ)) (name : List ℕ) → IsAbove names up here → number + 1 + up ≡ length names → here ≡ front ++ name ∷ [] → get_or names number [] ≡ name
name_at_number names number up here front name (rest, is, long) count last =
    let all = length-append here rest in
    let same = ap length is in
    let ends = ap length last in
    let fronts = length-append front (name ∷ []) in
    let place : number ≡ length front = omega (arith, all, same, ends, fronts, long, count) in
    let split : names ≡ front ++ name ∷ rest = is ∙ ap (λ xs. xs ++ rest) last ∙ append_assoc front (name ∷ []) rest in
    ap (λ xs. get_or xs number []) split ∙ ap (λ n. get_or (front ++ name ∷ rest) n []) place ∙ get_or-append_seam front name rest []

name_of_above : (names : List (List ℕ)) (number up : ℕ) (here front : List (List ℕ)) (name : List ℕ) → IsAbove names up here → number + 1 + up ≡ length names → here ≡ front ++ name ∷ []
    → take (number + 1) names ≡ take number names ++ name ∷ []
name_of_above names number up here front name above count last =
    take_more names number [] (omega (arith, count)) ∙ ap (λ x. take number names ++ x ∷ []) (name_at_number names number up here front name above count last)

-- of the names with their numbers, those from one on
numbered_from : (m : ℕ) (names : List (List ℕ)) (number : ℕ) → number < length names → drop number (enumerate_from m names) ≡ (m + number, get_or names number []) ∷ drop (suc number) (enumerate_from m names)
numbered_from m [] number within = absurd (omega (arith, within))
numbered_from m (name ∷ names) zero within =
    let same : m ≡ m + 0 = omega arith in
    ap (λ n. (n, name) ∷ enumerate_from (m + 1) names) same
numbered_from m (name ∷ names) (suc number) within =
    let same : m + 1 + number ≡ m + suc number = omega arith in
    numbered_from (m + 1) names number (omega (arith, within)) ∙ ap (λ n. (n, get_or names number []) ∷ drop (suc number) (enumerate_from (m + 1) names)) same

length_numbered : (m : ℕ) (names : List (List ℕ)) → length (enumerate_from m names) ≡ length names
length_numbered m [] = refl
length_numbered m (name ∷ names) = ap suc (length_numbered (m + 1) names)

-- the calls that are still to come from a name on
comes_after : (names : List (List ℕ)) (number up : ℕ) (here front : List (List ℕ)) (name : List ℕ) → number < length names → up ≡ length names - 1 - number → IsAbove names up here → here ≡ front ++ name ∷ []
    → drop number (enumerate_from 0 names) ≡ (number, name) ∷ drop (number + 1) (enumerate_from 0 names)
comes_after names number up here front name within is above ends =
    let count : number + 1 + up ≡ length names = omega (arith, within, is) in
    let same : 0 + number ≡ number = omega arith in
    let next : suc number ≡ number + 1 = omega arith in
    numbered_from 0 names number within
    ∙ ap (λ n. (n, get_or names number []) ∷ drop (suc number) (enumerate_from 0 names)) same
    ∙ ap (λ x. (number, x) ∷ drop (suc number) (enumerate_from 0 names)) (name_at_number names number up here front name above count ends)
    ∙ ap (λ k. (number, name) ∷ drop k (enumerate_from 0 names)) next

-- the names along the steps that are above a place
names_above : (steps : List Step) (up : ℕ) (here : List Step) → IsAbove steps up here → IsAbove (step_names steps) up (step_names here)
names_above steps up here (rest, is, long) = (step_names rest, ap step_names is ∙ map-append (λ s. s.name) here rest, length-map rest (λ s. s.name) ∙ long)

pub names_end : (here front : List Step) (step : Step) → here ≡ front ++ step ∷ [] → step_names here ≡ step_names front ++ step.name ∷ []
names_end here front step ends = ap step_names ends ∙ map-append (λ s. s.name) front (step ∷ [])

pub comes_next : (steps : List Step) (number up : ℕ) (here front : List Step) (step : Step) → number < length steps → up ≡ length steps - 1 - number → IsAbove steps up here → here ≡ front ++ step ∷ []
    → drop number (enumerate_from 0 (step_names steps)) ≡ (number, step.name) ∷ drop (number + 1) (enumerate_from 0 (step_names steps))
comes_next steps number up here front step within is above ends =
    let long = length-map steps (λ s. s.name) in
    comes_after (step_names steps) number up (step_names here) (step_names front) step.name (omega (arith, long, within)) (omega (arith, long, is)) (names_above steps up here above) (names_end here front step ends)

-- no calls are left after the last name
pub none_left : (steps : List Step) (number : ℕ) → length steps ≤ number → drop number (enumerate_from 0 (step_names steps)) ≡ []
none_left steps number over =
    let long = length_numbered 0 (step_names steps) in
    let named = length-map steps (λ s. s.name) in
    drop_of_length-le (enumerate_from 0 (step_names steps)) (omega (arith, long, named, over))

-- calls at the names with their numbers, one more
called_after : {F : Type 0} (R : F → ℕ × List ℕ → F → Type 0) (names : List (List ℕ)) (number up : ℕ) (here front : List (List ℕ)) (name : List ℕ) (first last next : F)
    → number < length names → up ≡ length names - 1 - number → IsAbove names up here → here ≡ front ++ name ∷ []
    → FoldsTo R first (enumerate_from 0 (take number names)) last → R last (number, name) next → FoldsTo R first (enumerate_from 0 (take (number + 1) names)) next
called_after R names number up here front name first last next within is above ends before call =
    let count : number + 1 + up ≡ length names = omega (arith, within, is) in
    let long : 0 + length (take number names) ≡ number = omega (arith, length-take-le number names (omega (arith, within))) in
    let step : R last (0 + length (take number names), name) next = subst (λ n. R last (n, name) next) (sym long) call in
    subst (λ xs. FoldsTo R first (enumerate_from 0 xs) next) (sym (name_of_above names number up here front name above count ends))
    (subst (λ xs. FoldsTo R first xs next) (sym (numbered_more 0 (take number names) name)) (FoldsTo-push R first (enumerate_from 0 (take number names)) last (0 + length (take number names), name) next before step))

pub called_more : {F : Type 0} (R : F → ℕ × List ℕ → F → Type 0) (steps : List Step) (number up : ℕ) (here front : List Step) (step : Step) (first last next : F)
    → number < length steps → up ≡ length steps - 1 - number → IsAbove steps up here → here ≡ front ++ step ∷ []
    → FoldsTo R first (enumerate_from 0 (take number (step_names steps))) last → R last (number, step.name) next → FoldsTo R first (enumerate_from 0 (take (number + 1) (step_names steps))) next
called_more R steps number up here front step first last next within is above ends before call =
    let long = length-map steps (λ s. s.name) in
    called_after R (step_names steps) number up (step_names here) (step_names front) step.name first last next (omega (arith, long, within)) (omega (arith, long, is)) (names_above steps up here above)
    (names_end here front step ends) before call

some_within : (places : List Place) (k : ℕ) → k < length places → slice_get places k ≡ None → ⊥
some_within [] k within is = omega (arith, within)
some_within (p ∷ places) zero within is = none-some p (sym is)
some_within (p ∷ places) (suc k) within is = some_within places k (omega (arith, within)) is

-- some step leads to each place
stepped_within : (places : List Place) (k : ℕ) → AreRooted 0 places → k < length places → 0 < length (get_or (ways_to places) k [])
stepped_within places k all within = stepped_read places k (slice_get places k) refl all within
  where
    stepped_read : (places : List Place) (k : ℕ) (at : Option Place) → slice_get places k ≡ at → AreRooted 0 places → k < length places → 0 < length (get_or (ways_to places) k [])
    stepped_read places k None is all within = absurd (some_within places k within is)
    stepped_read places k (Some place) is all within =
        let ends = ap length (ways_read places k place all is) in
        let long = length-append (steps_at (ways_to places) place.parent) (own_step place ∷ []) in
        omega (arith, ends, long)

pub stepped_parent : (places : List Place) (ways : List (List Step)) (k : ℕ) (parent : Option ℕ) → ways_to places ≡ ways → AreRooted 0 places → k < length places → IsRootedAt k parent → HasStepIn ways parent
stepped_parent places ways k None is all within rooted = tt
stepped_parent places ways k (Some parent) is all within rooted =
    subst (λ some. 0 < length (get_or some parent [])) is (stepped_within places parent all (omega (arith, within, rooted)))

-- the text of names with one behind them
pub joined_more : (front : List (List ℕ)) (name : List ℕ) → 0 < length front → joined (codes ".") front ++ codes "." ++ name ≡ joined (codes ".") (front ++ name ∷ [])
joined_more [] name some = absurd (omega (arith, some))
joined_more (first ∷ []) name some = refl
joined_more (first ∷ next ∷ front) name some =
    let more = joined (codes ".") (next ∷ front) in
    ap (λ text. text ++ name) (append_assoc (first ++ codes ".") more (codes "."))
    ∙ append_assoc (first ++ codes ".") (more ++ codes ".") name
    ∙ ap (λ text. first ++ codes "." ++ text) (joined_more (next ∷ front) name (omega arith))
