-- The names of items, and paths as they are written.
use Rattle.std.specs.Prelude.{ℕ, List, [], ◌∷◌, ◌++◌, codes}
use Rattle.bridge_decl.specs.declared.paths.PathType.{PathType}
use Rattle.bridge_decl.specs.declared.modules.Item.{Item}
use Rattle.bridge_decl.specs.declared.modules.Item.TheVariants.{Struct, Opaque, Enum, Trait, Function}

-- the name of an item
abbrev pub item_name : Item → List ℕ
item_name (Struct item) = item.name
item_name (Opaque item) = item.name
item_name (Enum item) = item.name
item_name (Trait item) = item.name
item_name (Function item) = item.name

-- the texts one after another, with the separator between two
abbrev pub joined : List ℕ → List (List ℕ) → List ℕ
joined separator [] = []
joined separator (text ∷ []) = text
joined separator (text ∷ next ∷ texts) = text ++ separator ++ joined separator (next ∷ texts)

-- a path as it is written, without its lifetimes
abbrev pub path_text : PathType → List ℕ
path_text path = joined (codes "::") path.segments
