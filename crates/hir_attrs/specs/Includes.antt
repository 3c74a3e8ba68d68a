-- Code that is included: where it is, and what it is.
use Rattle.std.specs.Prelude.{ℕ, List, [], ◌∷◌, codes, Bool, Option, Some, None, option_map, if◌then◌else◌}
use Rattle.std.specs.List.{find}
use Rattle.std.specs.Str.{bytes_eq}
use Rattle.bridge_decl.specs.declared.attrs.Assign.{Assign}
use Rattle.bridge_decl.specs.declared.attrs.Lit.{Lit}
use Rattle.bridge_decl.specs.declared.attrs.Lit.TheVariants.{Str}
use Rattle.bridge_decl.specs.declared.attrs.MetaValue.{MetaValue}
use Rattle.bridge_decl.specs.declared.attrs.MetaValue.TheVariants.{Assignments}
use Rattle.hir_attrs.specs.declared.includes.IncludeLocation.{IncludeLocation}
use Rattle.hir_attrs.specs.declared.includes.IncludeLocation.TheVariants as location
use Rattle.hir_attrs.specs.declared.includes.IncludeSource.{IncludeSource}
use Rattle.hir_attrs.specs.declared.includes.IncludeSource.TheVariants as source
use Rattle.hir_attrs.specs.declared.includes.Parts.{Parts}

-- the name of a location
unfoldable pub location_word : IncludeLocation → List ℕ
location_word location.PreDefBlock = codes "pre_def_block"
location_word location.DefBlock = codes "def_block"
location_word location.PostDefBlock = codes "post_def_block"
location_word location.ImplBlock = codes "impl_block"
location_word location.PreImplBlock = codes "pre_impl_block"
location_word location.PreInitializationBlock = codes "pre_init_block"
location_word location.InitializationBlock = codes "init_block"

-- all locations
unfoldable pub every_location : List IncludeLocation
every_location =
    location.PreDefBlock
    ∷ location.DefBlock
    ∷ location.PostDefBlock
    ∷ location.ImplBlock
    ∷ location.PreImplBlock
    ∷ location.PreInitializationBlock
    ∷ location.InitializationBlock
    ∷ []

abbrev pub is_location_called : List ℕ → IncludeLocation → Bool
is_location_called name it = bytes_eq (location_word it) name

-- the location of a name, if there is one
abbrev pub location_named : List ℕ → Option IncludeLocation
location_named name = find (is_location_called name) every_location

-- what arguments give: of each part the last
abbrev pub no_parts : Parts
no_parts = record { location = None; source = None }

abbrev pub with_location : Parts → Option IncludeLocation → Option Parts
with_location parts None = None
with_location parts (Some it) = Some (record { location = Some it; source = parts.source })

abbrev pub with_source : Parts → IncludeSource → Option Parts
with_source parts it = Some (record { location = parts.location; source = Some it })

-- one argument more: `location` with the name of one, `source` with code, or `file` with a path
abbrev pub with_text : Parts → List ℕ → List ℕ → Option Parts
with_text parts name text =
    if bytes_eq name (codes "location") then with_location parts (location_named text) else
    (if bytes_eq name (codes "source") then with_source parts (source.Source text) else
    (if bytes_eq name (codes "file") then with_source parts (source.File text) else None))

-- an argument is a string
abbrev pub with_literal : Parts → List ℕ → Lit → Option Parts
with_literal parts name (Str text) = with_text parts name text
with_literal parts name _ = None

abbrev pub with_part : Parts → Assign → Option Parts
with_part parts assign = with_literal parts assign.name assign.value

-- with what is no part among them, arguments give nothing
abbrev pub with_next : Option Parts → Assign → Option Parts
with_next None assign = None
with_next (Some parts) assign = with_part parts assign

-- the parts that a list gives, after those before
abbrev pub parts_from : Option Parts → List Assign → Option Parts
parts_from parts [] = parts
parts_from parts (assign ∷ assigns) = parts_from (with_next parts assign) assigns

-- both parts are needed
abbrev pub pair_by : Option IncludeLocation → Option IncludeSource → Option (IncludeLocation × IncludeSource)
pair_by (Some it) (Some code) = Some (it, code)
pair_by _ _ = None

abbrev pub pair_of_parts : Parts → Option (IncludeLocation × IncludeSource)
pair_of_parts parts = pair_by parts.location parts.source

abbrev pub pair_if : Option Parts → Option (IncludeLocation × IncludeSource)
pair_if None = None
pair_if (Some parts) = pair_of_parts parts

-- what an argument includes, and where
abbrev pub include_of : MetaValue → Option (IncludeLocation × IncludeSource)
include_of (Assignments assigns) = pair_if (parts_from (Some no_parts) assigns)
include_of _ = None
