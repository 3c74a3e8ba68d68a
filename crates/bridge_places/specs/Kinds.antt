-- The kinds of items.
use Rattle.std.specs.Prelude.{Bool, true, false, if◌then◌else◌}
use Rattle.bridge_decl.specs.declared.modules.Item.{Item}
use Rattle.bridge_decl.specs.declared.modules.Item.TheVariants as item
use Rattle.bridge_places.specs.declared.kinds.Kind.{Kind}
use Rattle.bridge_places.specs.declared.kinds.Kind.TheVariants as kind

-- the kind of an item: a struct that only comes out is one of its own
abbrev pub item_kind : Item → Kind
item_kind (item.Struct s) = if s.output_only then kind.OutStruct else kind.Struct
item_kind (item.Opaque o) = kind.Opaque
item_kind (item.Enum e) = kind.Enum
item_kind (item.Trait t) = kind.Trait
item_kind (item.Function f) = kind.Function

-- whether two kinds are the same
abbrev pub same_kind : Kind → Kind → Bool
same_kind kind.OutStruct kind.OutStruct = true
same_kind kind.Struct kind.Struct = true
same_kind kind.Opaque kind.Opaque = true
same_kind kind.Enum kind.Enum = true
same_kind kind.Trait kind.Trait = true
same_kind kind.Function kind.Function = true
same_kind _ _ = false
