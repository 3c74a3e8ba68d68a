-- SelfMismatch: the type of a method doesn't name the type that declares it; a receiver or a `Self` of the method isn't written as that
-- type is; a receiver in a trait doesn't name the trait; or `Self` stands in a function or in a trait's method.
use Rattle.std.specs.Prelude.{◌≡◌, ⊤, Bool, true, Option, Some}
use Rattle.bridge_decl.specs.declared.paths.PathType.{PathType}
use Rattle.hir_number.specs.Breaches.{Broken, Demand, Anything, Nothing, Equal, At}
use Rattle.hir_number.specs.Breaches as breach
use Rattle.hir_number.specs.Naming.{Definition}

-- a path, for which this was found, isn't what `Self` has to be where it stands: a field's may be anything, and in a function there is none
abbrev pub IsOther : Demand → PathType → Option Definition → Type 0
IsOther Anything path found = ⊥
IsOther Nothing path found = ⊤
IsOther (Equal own) path found = ¬ ((own.segments ≡ path.segments) × (own.lifetimes ≡ path.lifetimes))
IsOther (At place) path found = ¬ ((d : Definition) × ((found ≡ Some d) × (d.place ≡ place)))

-- so a path that is written as `Self` or counts as that
abbrev pub SelfMismatch : Bool → Demand → PathType → Option Definition → Broken → Type 0
SelfMismatch is_self demand path found broken = (is_self ≡ true) × (IsOther demand path found × (broken ≡ breach.SelfMismatch))
