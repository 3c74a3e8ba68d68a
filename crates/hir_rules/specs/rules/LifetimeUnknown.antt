-- LifetimeUnknown: a named lifetime isn't in its environment.
use Rattle.std.specs.Prelude.{◌≡◌, ℕ, List}
use Rattle.std.specs.List.{Contains}
use Rattle.bridge_decl.specs.declared.lifetimes.Lifetime.{Lifetime}
use Rattle.bridge_decl.specs.declared.lifetimes.Lifetime.TheVariants as written
use Rattle.hir_number.specs.Breaches.{Broken}
use Rattle.hir_number.specs.Breaches as breach

-- the lifetime, whose name is the argument, where these are declared
abbrev pub LifetimeUnknown : List (List ℕ) → Lifetime → Broken → Type 0
LifetimeUnknown names lifetime broken =
    (name : List ℕ) × ((lifetime ≡ written.Named name) × ((¬ (Contains names name)) × (broken ≡ breach.LifetimeUnknown name)))
