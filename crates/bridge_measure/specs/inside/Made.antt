-- The made declarations by their places: which item stands where, what the paths in them mean, and what the catalog says of what they name.
use Rattle.std.specs.Prelude.{◌≡◌, ◌<◌, ◌+◌, ℕ, true, Some}
use Rattle.bridge_ast.specs.declared.place.ItemPlace.{ItemPlace}
use Rattle.bridge_decl.specs.declared.modules.Item.{Item}
use Rattle.bridge_decl.specs.declared.modules.Item.TheVariants as item
use Rattle.bridge_decl.specs.declared.types.Mutability.TheVariants.{Immutable}
use Rattle.bridge_generate.specs.Generated.{function_numbered, path_to_opaque, path_to_struct, struct_numbered, the_opaque}
use Rattle.bridge_order.specs.Catalog.{entry_at}
use Rattle.bridge_order.specs.declared.catalog.Catalog.{Catalog}
use Rattle.bridge_order.specs.declared.catalog.Entry.TheVariants as entry
use Rattle.hir_number.specs.Naming.{Naming}

-- the opaque is the first item of the root
abbrev pub opaque_place : ItemPlace
opaque_place = record { «module» = 0; item = 0 }

-- the structs come after it
abbrev pub struct_place : ℕ → ItemPlace
struct_place k = record { «module» = 0; item = k + 1 }

-- and the functions after these
abbrev pub function_place : ℕ → ℕ → ItemPlace
function_place count k = record { «module» = 0; item = count + k + 1 }

-- the item is made at the place: it is the opaque, a struct or a function
pub data IsMadeAt (count : ℕ) (place : ItemPlace) (found : Item) : Type 0 where
  opaque : place ≡ opaque_place → found ≡ item.Opaque the_opaque → IsMadeAt count place found
  struct : (k : ℕ) → k < count → place ≡ struct_place k → found ≡ item.Struct (struct_numbered k) → IsMadeAt count place found
  function :
      (k : ℕ) → k < count → place ≡ function_place count k → found ≡ item.Function (function_numbered k) → IsMadeAt count place found

-- the paths mean what they are meant to, and the catalog has an opaque and structs with fields there
pub record AreAsMade (count : ℕ) (names : Naming) (catalog : Catalog) : Type 0 where
  pub opaque_named : names.type_at path_to_opaque.segments ≡ Some (item.Opaque the_opaque, opaque_place)
  pub struct_named : (k : ℕ) → k < count
      → names.type_at (path_to_struct k).segments ≡ Some (item.Struct (struct_numbered k), struct_place k)
  pub opaque_entry : (id : ℕ) × (entry_at catalog opaque_place ≡ entry.Opaque id Immutable)
  pub struct_entry : (k : ℕ) → k < count → (id : ℕ) × (entry_at catalog (struct_place k) ≡ entry.Struct id true)
