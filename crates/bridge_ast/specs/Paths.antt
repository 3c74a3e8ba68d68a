-- What paths name, in the words of the Rust Reference's chapter on paths: one case for each thing that a segment can be. Modules
-- are given by their numbers in the list of all modules, of which 0 is the root's.
use Rattle.std.specs.Prelude.{◌≡◌, ℕ, suc, ◌+◌, List, [], ◌∷◌, ◌++◌, length, slice_get, Bool, true, false, ◌||◌, codes, Some}
use Rattle.std.specs.Str.{bytes_eq}
use Rattle.bridge_decl.specs.declared.modules.Alias.{Alias}
use Rattle.bridge_decl.specs.declared.modules.Item.{Item}
use Rattle.bridge_decl.specs.declared.modules.Module.{Module}
use Rattle.bridge_ast.specs.declared.trail.Head.{Head}
use Rattle.bridge_ast.specs.declared.trail.Head.TheVariants as head
use Rattle.bridge_ast.specs.declared.place.ItemPlace.{ItemPlace}
use Rattle.bridge_ast.specs.AliasCount.{alias_count}
use Rattle.bridge_decl.specs.Names.{item_name}

-- the segments that are no names: `crate`, `self` and `super` at the start of a path, `super` after these, none after a name
abbrev pub is_reserved : Head → List ℕ → Bool
is_reserved head.Start segment =
    bytes_eq segment (codes "crate") || (bytes_eq segment (codes "self") || bytes_eq segment (codes "super"))
is_reserved head.Supers segment = bytes_eq segment (codes "super")
is_reserved head.Names segment = false

-- the inner module is the outer one's submodule of the name: its path is that of the outer one with the name at its end
pub record IsSubmodule (modules : List Module) (outer : ℕ) (name : List ℕ) (inner : ℕ) : Type 0 where
  pub parent : Module
  pub child : Module
  pub outer_is : slice_get modules outer ≡ Some parent
  pub inner_is : slice_get modules inner ≡ Some child
  pub ends : child.path ≡ parent.path ++ name ∷ []

-- the item of that number in the module has the name
pub record HasItem (modules : List Module) (number : ℕ) (name : List ℕ) (item : ℕ) : Type 0 where
  pub owner : Module
  pub found : Item
  pub owner_is : slice_get modules number ≡ Some owner
  pub found_is : slice_get owner.items item ≡ Some found
  pub name_is : item_name found ≡ name

-- an alias in the module has the name, and this target
pub record HasAlias (modules : List Module) (number : ℕ) (name : List ℕ) (target : List (List ℕ)) : Type 0 where
  pub owner : Module
  pub alias : ℕ
  pub found : Alias
  pub owner_is : slice_get modules number ≡ Some owner
  pub found_is : slice_get owner.aliases alias ≡ Some found
  pub name_is : found.name ≡ name
  pub target_is : found.target ≡ target

-- the path names the item at the place, read from the module of a number on, where at most so many aliases are followed
pub data PathNames (modules : List Module) (place : ItemPlace) : ℕ → ℕ → Head → List (List ℕ) → Type 0 where
  -- `crate` resolves the path relative to the root module; it can only be used as the first segment
  in_root : (steps number : ℕ) (rest : List (List ℕ))
      → PathNames modules place steps 0 head.Supers rest
      → PathNames modules place steps number head.Start (codes "crate" ∷ rest)
  -- `self` resolves the path relative to the current module; it can only be used as the first segment
  in_itself : (steps number : ℕ) (rest : List (List ℕ))
      → PathNames modules place steps number head.Supers rest
      → PathNames modules place steps number head.Start (codes "self" ∷ rest)
  -- `super` resolves to the parent module; it may only be used in preceding segments of the path, possibly after an initial
  -- `self` or `crate`. The root has no parent
  in_parent : (steps number above : ℕ) (at : Head) (last : List ℕ) (rest : List (List ℕ))
      → is_reserved at (codes "super") ≡ true
      → IsSubmodule modules above last number
      → PathNames modules place steps above head.Supers rest
      → PathNames modules place steps number at (codes "super" ∷ rest)
  -- a name of a submodule: the rest of the path is read in it
  in_submodule : (steps number below : ℕ) (at : Head) (name : List ℕ) (rest : List (List ℕ))
      → is_reserved at name ≡ false
      → IsSubmodule modules number name below
      → PathNames modules place steps below head.Names rest
      → PathNames modules place steps number at (name ∷ rest)
  -- a name that a `use` declaration brings in, an alias of its target: the target takes its place, and the path that comes of
  -- it is read from its start, in the module of the alias. That follows one alias more
  by_alias : (fewer number : ℕ) (at : Head) (name : List ℕ) (target rest : List (List ℕ))
      → is_reserved at name ≡ false
      → HasAlias modules number name target
      → PathNames modules place fewer number head.Start (target ++ rest)
      → PathNames modules place (suc fewer) number at (name ∷ rest)
  -- a name of an item, which stands last
  by_item : (steps number item : ℕ) (at : Head) (name : List ℕ)
      → is_reserved at name ≡ false
      → HasItem modules number name item
      → place ≡ record { «module» = number; item = item }
      → PathNames modules place steps number at (name ∷ [])

-- a path that is written in the module of a number names the item at the place. As many aliases are followed as there are
-- aliases in the modules and segments in the path, at most; a path that needs more names nothing
abbrev pub NamesItem : List Module → ℕ → List (List ℕ) → ItemPlace → Type 0
NamesItem modules number path place = PathNames modules place (alias_count modules + length path) number head.Start path
