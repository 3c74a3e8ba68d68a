-- Items of one kind: what is told of each, and what each is lowered to. Of an item of another kind nothing is told, and nothing is made.
use Rattle.std.specs.Prelude.{ℕ, List, [], Option, None, if◌then◌else◌}
use Rattle.bridge_ast.specs.declared.place.ItemPlace.{ItemPlace}
use Rattle.bridge_decl.specs.declared.modules.Item.{Item}
use Rattle.bridge_decl.specs.declared.modules.Item.TheVariants as item
use Rattle.hir_attrs.specs.declared.attrs.Attrs.{Attrs}
use Rattle.hir_definitions.specs.declared.definitions.EnumDef.{EnumDef}
use Rattle.hir_definitions.specs.declared.definitions.OpaqueDef.{OpaqueDef}
use Rattle.hir_definitions.specs.declared.definitions.StructDef.{StructDef}
use Rattle.hir_definitions.specs.declared.definitions.TraitDef.{TraitDef}
use Rattle.hir_definitions.specs.declared.methods.Method.{Method}
use Rattle.hir_ids.specs.declared.owners.Borrow.{Borrow}
use Rattle.hir_ids.specs.declared.owners.MaybeOwn.{MaybeOwn}
use Rattle.hir_items.specs.Enums.{enum_item_form, enum_reports}
use Rattle.hir_items.specs.FreeFunctions.{function_item_form, function_reports}
use Rattle.hir_items.specs.Inheriting.{item_start}
use Rattle.hir_items.specs.Opaques.{opaque_item_form, opaque_reports}
use Rattle.hir_items.specs.Setting.{Setting}
use Rattle.hir_items.specs.Structs.{out_struct_item_form, out_struct_reports, struct_item_form, struct_reports}
use Rattle.hir_reports.specs.declared.report.LoweringReport.{LoweringReport}
use Rattle.hir_traits.specs.Traits.{trait_form, trait_reports}
use Rattle.hir_types.specs.declared.callbacks.NoCallback.{NoCallback}
use Rattle.hir_types.specs.declared.paths.NoTraitPath.{NoTraitPath}
use Rattle.hir_types.specs.declared.paths.ReturnableStructPath.{ReturnableStructPath}
use Rattle.hir_types.specs.declared.paths.StructPath.{StructPath}
use Rattle.hir_types.specs.declared.positions.Everywhere.{Everywhere}
use Rattle.hir_types.specs.declared.positions.OutputOnly.{OutputOnly}

-- what is told of an item in the module of that path, at that place, where the module has that set of marks
abbrev pub ItemTelling : Type 0
ItemTelling = Setting → List (List ℕ) → ItemPlace → Attrs → Item → List LoweringReport

-- what such an item is lowered to
abbrev pub ItemMaking : Type 0 → Type 0
ItemMaking D = Setting → ItemPlace → Attrs → Item → Option D

-- ---- what is told

abbrev pub told_of_out_struct : ItemTelling
told_of_out_struct s path place set (item.Struct it) = if it.output_only then out_struct_reports s path place set it else []
told_of_out_struct s path place set _ = []

abbrev pub told_of_struct : ItemTelling
told_of_struct s path place set (item.Struct it) = if it.output_only then [] else struct_reports s path place set it
told_of_struct s path place set _ = []

abbrev pub told_of_opaque : ItemTelling
told_of_opaque s path place set (item.Opaque it) = opaque_reports s path place set it
told_of_opaque s path place set _ = []

abbrev pub told_of_enum : ItemTelling
told_of_enum s path place set (item.Enum it) = enum_reports s path place set it
told_of_enum s path place set _ = []

abbrev pub told_of_trait : ItemTelling
told_of_trait s path place set (item.Trait it) =
    trait_reports s.backend s.support s.config s.catalog s.names place (item_start set) path it
told_of_trait s path place set _ = []

abbrev pub told_of_function : ItemTelling
told_of_function s path place set (item.Function it) = function_reports s path set it
told_of_function s path place set _ = []

-- ---- what is made

abbrev pub out_struct_made : ItemMaking (StructDef OutputOnly NoCallback MaybeOwn ℕ ReturnableStructPath NoTraitPath)
out_struct_made s place set (item.Struct it) = if it.output_only then out_struct_item_form s place set it else None
out_struct_made s place set _ = None

abbrev pub struct_made : ItemMaking (StructDef Everywhere NoCallback Borrow ℕ StructPath NoTraitPath)
struct_made s place set (item.Struct it) = if it.output_only then None else struct_item_form s place set it
struct_made s place set _ = None

abbrev pub opaque_made : ItemMaking OpaqueDef
opaque_made s place set (item.Opaque it) = opaque_item_form s place set it
opaque_made s place set _ = None

abbrev pub enum_made : ItemMaking EnumDef
enum_made s place set (item.Enum it) = enum_item_form s place set it
enum_made s place set _ = None

abbrev pub trait_made : ItemMaking TraitDef
trait_made s place set (item.Trait it) = trait_form s.backend s.catalog s.names place (item_start set) it
trait_made s place set _ = None

abbrev pub function_made : ItemMaking Method
function_made s place set (item.Function it) = function_item_form s set it
function_made s place set _ = None
