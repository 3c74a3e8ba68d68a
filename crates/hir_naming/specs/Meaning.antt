-- What paths mean, as a function: a path is followed segment by segment, and an alias gives way to its target. Modules are given by
-- their numbers in the list of all modules, of which 0 is the root's.
use Rattle.std.specs.Prelude.{ℕ, zero, suc, ◌+◌, List, [], ◌∷◌, ◌++◌, length, map, slice_index_or, codes, true, false}
use Rattle.std.specs.Prelude.{if◌then◌else◌, Option, Some, None, option_and_then}
use Rattle.std.specs.Str.{bytes_eq}
use Rattle.bridge_decl.specs.declared.modules.Item.{Item}
use Rattle.bridge_decl.specs.declared.modules.Item.TheVariants as item
use Rattle.bridge_decl.specs.declared.modules.Module.{Module}
use Rattle.bridge_decl.specs.declared.traits.Trait.{Trait as TraitDeclaration}
use Rattle.bridge_text.specs.NameIndex.{meaning_of}
use Rattle.bridge_ast.specs.AliasCount.{alias_count}
use Rattle.bridge_ast.specs.EnvFaults.{module_at, named_at, parent_and_last}
use Rattle.bridge_ast.specs.Paths.{is_reserved}
use Rattle.bridge_ast.specs.Types.{is_type, item_of}
use Rattle.bridge_ast.specs.declared.fault.EnvPart.{EnvPart}
use Rattle.bridge_ast.specs.declared.fault.EnvPart.TheVariants as part
use Rattle.bridge_ast.specs.declared.place.ItemPlace.{ItemPlace}
use Rattle.bridge_ast.specs.declared.trail.Head.{Head}
use Rattle.bridge_ast.specs.declared.trail.Head.TheVariants as head
use Rattle.hir_number.specs.Naming.{Naming}

-- ---- one segment

-- the path of the module of a number
abbrev pub module_path : List Module → ℕ → List (List ℕ)
module_path modules number = slice_index_or (map (λ m. m.path) modules) number []

-- the parent of a module: the module whose path is its path without the last name. The root has none
abbrev pub parent_number : List Module → ℕ → Option ℕ
parent_number modules number = option_and_then (λ ends. module_at modules ends.0) (parent_and_last (module_path modules number))

-- the module that a segment leads to which is no name: `crate` to the root, `self` to the module itself, `super` to its parent
abbrev pub reserved_number : List Module → ℕ → List ℕ → Option ℕ
reserved_number modules number segment =
    if bytes_eq segment (codes "crate") then Some 0
    else (if bytes_eq segment (codes "self") then Some number else parent_number modules number)

-- the submodule of a name: its path is that of the module with the name at its end
abbrev pub submodule_number : List Module → ℕ → List ℕ → Option ℕ
submodule_number modules number name = module_at modules (module_path modules number ++ name ∷ [])

-- the target of an alias of the module of a number
abbrev pub alias_target : List Module → ℕ → ℕ → List (List ℕ)
alias_target modules number alias =
    slice_index_or (slice_index_or (map (λ m. map (λ a. a.target) m.aliases) modules) number []) alias []

-- ---- paths

-- the item at a place, which stands last: nothing may follow its name
abbrev pub as_last : ItemPlace → List (List ℕ) → Option ItemPlace
as_last place [] = Some place
as_last place (segment ∷ rest) = None

-- the item that a name leads to with the rest of its path, by what the name stands for in its module: an item stands last, and the
-- target of an alias takes the alias's place, in a path that is begun anew in that module
abbrev pub item_from_part : (ℕ → List (List ℕ) → Option ItemPlace) → List Module → ℕ → List (List ℕ) → Option EnvPart
    → Option ItemPlace
item_from_part anew modules number rest (Some (part.Item item)) = as_last (record { «module» = number; item = item }) rest
item_from_part anew modules number rest (Some (part.Alias alias)) = anew number (alias_target modules number alias ++ rest)
item_from_part anew modules number rest (Some part.Module) = None
item_from_part anew modules number rest (Some (part.Node item method node)) = None
item_from_part anew modules number rest None = None

-- the item that a path leads to from the module of a number: a segment that is no name leads to the module that it stands for, and a
-- name to the submodule of the name, or else to what it stands for in the module. A path that ends in a module leads to none. anew
-- says where a path leads that is begun anew
abbrev pub item_along : (ℕ → List (List ℕ) → Option ItemPlace) → List Module → ℕ → Head → List (List ℕ) → Option ItemPlace
item_along anew modules number at [] = None
item_along anew modules number at (segment ∷ rest) =
    elim (is_reserved at segment) [
      | true ↦ option_and_then (λ to. item_along anew modules to head.Supers rest) (reserved_number modules number segment)
      | false ↦ elim (submodule_number modules number segment) [
        | Some below ↦ item_along anew modules below head.Names rest
        | None ↦ item_from_part anew modules number rest (meaning_of (named_at modules number) segment)
      ]
    ]

-- the item that a path leads to from its start, where at most so many aliases are followed
abbrev pub item_within : ℕ → List Module → ℕ → List (List ℕ) → Option ItemPlace
item_within zero modules number path = item_along (λ _ _. None) modules number head.Start path
item_within (suc fewer) modules number path = item_along (item_within fewer modules) modules number head.Start path

-- the item that a path means: as many aliases are followed as there are aliases in the modules and segments in the path, at most
abbrev pub item_meant : List Module → ℕ → List (List ℕ) → Option ItemPlace
item_meant modules number path = item_within (alias_count modules + length path) modules number path

-- ---- types and traits

-- the item with its place, where it is a type
abbrev pub if_type : ItemPlace → Item → Option (Item × ItemPlace)
if_type place found = if is_type found then Some (found, place) else None

-- the trait with its place, where the item is one
abbrev pub if_trait : ItemPlace → Item → Option (TraitDeclaration × ItemPlace)
if_trait place (item.Trait found) = Some (found, place)
if_trait place (item.Struct found) = None
if_trait place (item.Opaque found) = None
if_trait place (item.Enum found) = None
if_trait place (item.Function found) = None

-- what is read of the item that a path means
abbrev pub read_at : {Y : Type 0} → (ItemPlace → Item → Option Y) → List Module → ℕ → List (List ℕ) → Option Y
read_at read modules number path =
    option_and_then (λ place. option_and_then (read place) (item_of modules place)) (item_meant modules number path)

-- what the paths mean that are written in the module of a number
abbrev pub naming_of : List Module → ℕ → Naming
naming_of modules number = record { type_at = read_at if_type modules number; trait_at = read_at if_trait modules number }
