-- Trails along paths, on their way.
use Rattle.std.specs.Prelude.{◌≡◌, ℕ, zero, suc, List, [], ◌∷◌, slice_get, Option, Some, None, option_and_then}
use Rattle.bridge_decl.specs.declared.modules.Module.{Module}
use Rattle.bridge_ast.specs.declared.trail.Head.{Head}
use Rattle.bridge_ast.specs.declared.place.ItemPlace.{ItemPlace}
use Rattle.bridge_ast.specs.declared.trail.Stand.{Stand}
use Rattle.bridge_ast.specs.declared.trail.Stand.TheVariants as stand
use Rattle.bridge_ast.specs.declared.trail.Trail.{Trail}
use Rattle.bridge_ast.specs.inside.Resolution.{leads, again_within}

-- where segments lead from a module, with so many alias steps left
abbrev pub leads_within : ℕ → List Module → ℕ → Head → List (List ℕ) → Option ItemPlace
leads_within steps modules number head path = leads (again_within steps modules) modules number head path

-- an item is named where no segment is left
abbrev pub at_end : ItemPlace → List (List ℕ) → Option ItemPlace
at_end place [] = Some place
at_end place (segment ∷ segments) = None

-- where segments lead from where a trail has come, with so many alias steps left
abbrev pub stands_at : ℕ → List Module → Stand → List (List ℕ) → Option ItemPlace
stands_at steps modules (stand.Module number head) rest = leads_within steps modules number head rest
stands_at steps modules (stand.Item place) rest = at_end place rest

-- what is left of a number of alias steps where some are taken; none where it is too small
abbrev pub after_taking : ℕ → ℕ → Option ℕ
after_taking zero steps = Some steps
after_taking (suc taken) zero = None
after_taking (suc taken) (suc steps) = after_taking taken steps

-- where a trail leads with the rest of its path, if it may follow so many aliases from its start on
abbrev pub carried_on : ℕ → List Module → Trail → List (List ℕ) → Option ItemPlace
carried_on steps modules trail rest =
    option_and_then (λ left. stands_at left modules trail.stand rest) (after_taking trail.steps steps)

-- and where no segment is left; a trail that has stopped leads nowhere
abbrev pub carried_to_end : ℕ → List Module → Option Trail → Option ItemPlace
carried_to_end steps modules None = None
carried_to_end steps modules (Some trail) = carried_on steps modules trail []

-- the module that a trail has come to is one of the modules
abbrev pub IsInside : List Module → Stand → Type 0
IsInside modules (stand.Module number head) = (m : Module) × (slice_get modules number ≡ Some m)
IsInside modules (stand.Item place) = Unit {0}

-- a number is that of a module
abbrev pub IsModule : List Module → ℕ → Type 0
IsModule modules number = (m : Module) × (slice_get modules number ≡ Some m)
