-- What a path names in modules.
use Rattle.std.specs.Prelude.{ℕ, zero, suc, ◌+◌, List, [], ◌∷◌, ◌++◌, length, map, slice_index_or, codes, Option, Some, None}
use Rattle.std.specs.Prelude.{if◌then◌else◌, option_and_then}
use Rattle.std.specs.Str.{bytes_eq}
use Rattle.bridge_decl.specs.declared.modules.Module.{Module}
use Rattle.bridge_decl.specs.declared.modules.Item.{Item}
use Rattle.bridge_decl.specs.declared.modules.Item.TheVariants.{Struct, Opaque, Enum, Trait, Function}
use Rattle.bridge_decl.specs.declared.traits.Trait.{Trait as TraitDeclaration}
use Rattle.bridge_ast.specs.Types.{item_of}
use Rattle.bridge_ast.specs.declared.fault.EnvPart.{EnvPart}
use Rattle.bridge_ast.specs.declared.fault.EnvPart.TheVariants as part
use Rattle.bridge_ast.specs.declared.trail.Head.{Head}
use Rattle.bridge_ast.specs.declared.trail.Head.TheVariants.{Start, Supers, Names}
use Rattle.bridge_ast.specs.declared.trail.Next.{Next}
use Rattle.bridge_ast.specs.declared.trail.Next.TheVariants as next
use Rattle.bridge_ast.specs.declared.place.ItemPlace.{ItemPlace}
use Rattle.bridge_text.specs.NameIndex.{meaning_of}
use Rattle.bridge_ast.specs.AliasCount.{alias_count}
use Rattle.bridge_ast.specs.EnvFaults.{module_at, named_at, parent_and_last}

-- ---- one segment

-- the path of the module of a number
abbrev pub path_at : List Module → ℕ → List (List ℕ)
path_at modules number = slice_index_or (map (λ m. m.path) modules) number []

-- the target of an alias of the module of a number
abbrev pub target_at : List Module → ℕ → ℕ → List (List ℕ)
target_at modules number alias =
    slice_index_or (slice_index_or (map (λ m. map (λ a. a.target) m.aliases) modules) number []) alias []

-- where a name leads that stands for a part of the module
abbrev pub to_part : Option EnvPart → Next
to_part (Some (part.Item item)) = next.Item item
to_part (Some (part.Alias alias)) = next.Alias alias
to_part (Some part.Module) = next.Nothing
to_part (Some (part.Node item method node)) = next.Nothing
to_part None = next.Nothing

-- to a submodule, or to an item or alias of the module
abbrev pub to_submodule : Option ℕ → Option EnvPart → Next
to_submodule (Some number) named = next.Goes number Names
to_submodule None named = to_part named

-- a name leads to the submodule, item or alias of that name
abbrev pub by_name : List Module → ℕ → List ℕ → Next
by_name modules number name =
    to_submodule (module_at modules (path_at modules number ++ name ∷ [])) (meaning_of (named_at modules number) name)

-- to the module of a number, if there is one
abbrev pub to_module : Option ℕ → Next
to_module (Some number) = next.Goes number Supers
to_module None = next.Nothing

-- above the root there is nothing
abbrev pub to_parent : List Module → Option (List (List ℕ) × List ℕ) → Next
to_parent modules None = next.Nothing
to_parent modules (Some (parent, last)) = to_module (module_at modules parent)

-- where a segment leads from the module of a number: at the start of a path one `crate` or `self` may stand, then any number of
-- `super`, then names
abbrev pub next_of : List Module → ℕ → Head → List ℕ → Next
next_of modules number Start segment =
    if bytes_eq segment (codes "crate") then next.Goes 0 Supers
    else (if bytes_eq segment (codes "self") then next.Goes number Supers
    else (if bytes_eq segment (codes "super") then to_parent modules (parent_and_last (path_at modules number)) else by_name
    modules number segment))
next_of modules number Supers segment =
    if bytes_eq segment (codes "super") then to_parent modules (parent_and_last (path_at modules number)) else by_name modules
    number segment
next_of modules number Names segment = by_name modules number segment

-- ---- paths

-- an item has to be the last segment
abbrev pub item_last : ℕ → ℕ → List (List ℕ) → Option ItemPlace
item_last number item [] = Some (record { «module» = number; item = item })
item_last number item (segment ∷ segments) = None

-- where segments lead from the module of a number: an alias leads where its target does, followed by the rest, from the alias's
-- module
-- on; again says where a path leads that is begun anew
abbrev pub leads : (ℕ → List (List ℕ) → Option ItemPlace) → List Module → ℕ → Head → List (List ℕ) → Option ItemPlace
leads again modules number head [] = None
leads again modules number head (segment ∷ rest) =
    elim (next_of modules number head segment) [
      | next.Goes to after ↦ leads again modules to after rest
      | next.Item item ↦ item_last number item rest
      | next.Alias alias ↦ again number (target_at modules number alias ++ rest)
      | next.Nothing ↦ None
    ]

-- the item that a path names, read in the module of a number, where that takes at most so many alias steps
abbrev pub named_within : ℕ → List Module → ℕ → List (List ℕ) → Option ItemPlace
named_within zero modules number path = leads (λ _ _. None) modules number Start path
named_within (suc steps) modules number path = leads (named_within steps modules) modules number Start path

-- the item that a path names: as many alias steps are taken as there are aliases and segments, at most
abbrev pub named_item : List Module → ℕ → List (List ℕ) → Option ItemPlace
named_item modules number path = named_within (alias_count modules + length path) modules number path

-- ---- paths on their way

-- what begins anew with so many alias steps left
abbrev pub again_within : ℕ → List Module → ℕ → List (List ℕ) → Option ItemPlace
again_within zero modules number path = None
again_within (suc steps) modules number path = named_within steps modules number path

-- ---- types and traits

-- an item with its place, where it is a struct, an opaque or an enum
abbrev pub as_type : ItemPlace → Item → Option (Item × ItemPlace)
as_type place (Struct item) = Some (Struct item, place)
as_type place (Opaque item) = Some (Opaque item, place)
as_type place (Enum item) = Some (Enum item, place)
as_type place (Trait item) = None
as_type place (Function item) = None

-- and where it is a trait
abbrev pub as_trait : ItemPlace → Item → Option (TraitDeclaration × ItemPlace)
as_trait place (Struct item) = None
as_trait place (Opaque item) = None
as_trait place (Enum item) = None
as_trait place (Trait item) = Some (item, place)
as_trait place (Function item) = None

-- the struct, opaque or enum that a path names, with its place
abbrev pub named_type : List Module → ℕ → List (List ℕ) → Option (Item × ItemPlace)
named_type modules number path =
    option_and_then (λ place. option_and_then (as_type place) (item_of modules place)) (named_item modules number path)

-- the trait that a path names, with its place
abbrev pub named_trait : List Module → ℕ → List (List ℕ) → Option (TraitDeclaration × ItemPlace)
named_trait modules number path =
    option_and_then (λ place. option_and_then (as_trait place) (item_of modules place)) (named_item modules number path)
