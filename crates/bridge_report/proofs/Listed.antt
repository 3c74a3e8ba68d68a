-- Of each id in a list that gives callables there is a callable: so a loop over it may ask for its method.
use Rattle.std.proofs.Common.{◌≡◌, ◌<◌, ℕ, List, map, Option, Some, get_or, length, refl, sym, ap, ◌∙◌, slice_get, option_map}
use Rattle.std.specs.Prelude.{IsSome, is_some}
use Rattle.std.proofs.lemmas.Option.{slice_get-map, slice_get_read}
use Rattle.hir_context.specs.declared.parts.Definitions.{Definitions}
use Rattle.hir_context.proofs.Places.{made_of}
use Rattle.bridge_report.specs.Callables.{Callable}
use Rattle.bridge_report.specs.InContext.{callable_at, callables}
use Rattle.bridge_report.specs.declared.report.CallableId.{CallableId}

-- what stands at a place of the one list gives what stands there in the other
given_at : {A B : Type 0} (f : A → Option B) (ids : List A) (cs : List B) → map f ids ≡ map Some cs → (n : ℕ) (id : A) → slice_get ids n ≡ Some id
    → (c : B) × (slice_get cs n ≡ Some c) × (f id ≡ Some c)
given_at f ids cs all n id at =
    let there : option_map Some (slice_get cs n) ≡ Some (f id) =
    sym (slice_get-map Some cs n) ∙ ap (λ os. slice_get os n) (sym all) ∙ slice_get-map f ids n ∙ ap (option_map f) at in
    let w = made_of Some (slice_get cs n) (f id) there in
    (w.0, w.1, sym w.2)

module _ (defs : Definitions) (ids : List CallableId) (all : map (callable_at defs) ids ≡ map Some (callables defs)) where
  -- the callable of an id at a place is that which stands there
  pub listed_callable : (n : ℕ) (id : CallableId) → slice_get ids n ≡ Some id
      → (c : Callable) × (slice_get (callables defs) n ≡ Some c) × (callable_at defs id ≡ Some c)
  listed_callable n id at = given_at (callable_at defs) ids (callables defs) all n id at

  -- so there is one
  pub listed_there : (n : ℕ) (id : CallableId) → slice_get ids n ≡ Some id → IsSome (callable_at defs id)
  listed_there n id at = ap is_some (listed_callable n id at).2

  -- as a loop over the ids reads them
  pub read_there : (n : ℕ) (id : CallableId) → n < length ids → id ≡ get_or ids n id → IsSome (callable_at defs id)
  read_there n id within is = listed_there n id (slice_get_read ids (length ids) n id refl within is)
