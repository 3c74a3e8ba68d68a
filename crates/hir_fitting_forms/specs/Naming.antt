-- When the names of a module fit a catalog: what each path names is there under the id that the catalog has for its place, with as
-- many lifetimes as it declares.
use Rattle.std.specs.Prelude.{◌≡◌, ℕ, List, Option, Some, None}
use Rattle.bridge_order.specs.Catalog.{entry_at}
use Rattle.bridge_order.specs.declared.catalog.Catalog.{Catalog}
use Rattle.hir_fitting.specs.Census.{arity_in}
use Rattle.hir_fitting.specs.declared.census.Census.{Census}
use Rattle.hir_ids.specs.declared.ids.SymbolId.{SymbolId}
use Rattle.hir_number.specs.Naming.{Definition, Naming, trait_found, type_found}
use Rattle.hir_number.specs.declared.numbered.Kind.{Kind}
use Rattle.hir_fitting_forms.specs.NumberedFits.{trait_entered, type_entered}

-- there is a definition with so many lifetimes
abbrev pub HasCount : Census → Option SymbolId → ℕ → Type 0
HasCount census (Some id) count = arity_in census id ≡ Some count
HasCount census None count = ⊥

-- so of the types and of the traits that paths name
pub record NamesFit (census : Census) (catalog : Catalog) (names : Naming) : Type 0 where
  pub types : (path : List (List ℕ)) (found : Definition × Kind) → type_found (names.type_at path) ≡ Some found
      → HasCount census (type_entered (entry_at catalog found.0.place)) found.0.count
  pub traits : (path : List (List ℕ)) (found : Definition) → trait_found (names.trait_at path) ≡ Some found
      → HasCount census (trait_entered (entry_at catalog found.place)) found.count
