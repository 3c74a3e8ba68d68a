-- A context that is gone through.
use Rattle.std.proofs.Common.{◌≡◌, ◌<◌, ◌+◌, ℕ, zero, suc, List, [], ◌∷◌, ◌++◌, Bool, length, get_or, drop, slice_get, refl, sym, ap, ◌∙◌, append_assoc}
use Rattle.std.specs.Prelude.{slice_index_or}
use Rattle.std.specs.List.{enumerate_from, flat_map}
use Rattle.std.proofs.lemmas.List.{drop_more}
use Rattle.bridge_report.specs.InContext.{callable_of}
use Rattle.bridge_report.specs.declared.report.CallableId.{CallableId}
use Rattle.hir_context.specs.declared.parts.Definitions.{Definitions}
use Rattle.hir_definitions.specs.declared.methods.Method.{Method}
use Rattle.hir_mentions.specs.Mentions.{where_any}
use Rattle.hir_reports.specs.Store.{Held, added}
use Rattle.hir_reports.specs.declared.places.ErrorContext.{ErrorContext}
use Rattle.bridge_validation.specs.Told.{lowered_callable_errors, lowered_callable_reports}

-- the path that stands there, or none
pub path_there : (paths : List (List (List ℕ))) (n : ℕ) → where_any (λ path. path) (slice_get paths n) ≡ slice_index_or paths n []
path_there [] n = refl
path_there (path ∷ paths) zero = refl
path_there (path ∷ paths) (suc n) = path_there paths n

-- one step more of what is told of each in a list, by its number: with what is left it is the same
pub left_next : {X R : Type 0} (told : ℕ × X → List R) (xs : List X) (n : ℕ) (x : X) (old new all : List R) → n < length xs → x ≡ get_or xs n x
    → old ++ flat_map told (enumerate_from n (drop n xs)) ≡ all → new ≡ old ++ told (n, x)
    → new ++ flat_map told (enumerate_from (n + 1) (drop (n + 1) xs)) ≡ all
left_next told xs n x old new all within is left step =
    let rest = flat_map told (enumerate_from (n + 1) (drop (n + 1) xs)) in
    let here : x ∷ drop (n + 1) xs ≡ drop n xs = ap (λ y. y ∷ drop (n + 1) xs) is ∙ sym (drop_more xs n x within) in
    ap (λ r. r ++ rest) step ∙ append_assoc old (told (n, x)) rest ∙ ap (λ ys. old ++ flat_map told (enumerate_from n ys)) here ∙ left

-- what is told of a callable at a place is told at one that is the same
pub told_there : (must_fail : Bool) (defs : Definitions) (id : CallableId) (m : Method) (place there : ErrorContext) (old at new : Held)
    → at ≡ record { reports = old.reports; place = place } → place ≡ there
    → new ≡ added at (lowered_callable_errors must_fail defs (callable_of defs id at.place m) m)
    → new.reports ≡ old.reports ++ lowered_callable_reports must_fail defs (callable_of defs id there m) m
told_there must_fail defs id m place there old at new at_is there_is new_is =
    ap (λ (h : Held). h.reports) new_is
    ∙ ap (λ (h : Held). h.reports ++ lowered_callable_reports must_fail defs (callable_of defs id h.place m) m) at_is
    ∙ ap (λ p. old.reports ++ lowered_callable_reports must_fail defs (callable_of defs id p m) m) there_is
