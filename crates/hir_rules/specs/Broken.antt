-- What is broken in declarations: which rules, where, and with which arguments. Each is a report; that is a rule with its arguments, and the
-- place at which it is broken: a module, an item of it, or a method of the item.
use Rattle.std.specs.Prelude.{◌≡◌, ◌⊎◌, ℕ, List, [], Some}
use Rattle.std.specs.List.{Contains}
use Rattle.bridge_ast.specs.declared.place.ItemPlace.{ItemPlace}
use Rattle.bridge_decl.specs.Names.{item_name}
use Rattle.bridge_decl.specs.declared.modules.Item.{Item}
use Rattle.bridge_decl.specs.declared.modules.Module.{Module}
use Rattle.hir_attrs.specs.declared.attrs.Attrs.{Attrs}
use Rattle.hir_items.specs.Setting.{Setting}
use Rattle.hir_lowering.specs.Interface.{Interface, setting_in}
use Rattle.hir_lowering.specs.Placing.{found_at}
use Rattle.hir_mark_rules.specs.MarkBreaks.{MarksBreak}
use Rattle.hir_modules.specs.ModuleMarks.{marks_around, module_marks}
use Rattle.hir_nesting_rules.specs.NestingBreaks.{NestingBreaks}
use Rattle.hir_reports.specs.declared.report.LoweringReport.{LoweringReport}
use Rattle.hir_rules.specs.Items.{AtItem, ItemItselfBreaks, ItemMethodsBreak}

-- a module's marks, which start from those around it: the place has no item
abbrev pub ModulesBreak : Interface → LoweringReport → Type 0
ModulesBreak it report =
    (m : Module) × (Contains it.modules m × AtItem m.path [] (MarksBreak it.backend m.attrs (marks_around it.backend it.modules m.path)) report)

-- an item there, in a module of that path and set of marks: the item itself, or one of its methods
abbrev pub ItemBreaks : Setting → List (List ℕ) → ItemPlace → Attrs → Item → LoweringReport → Type 0
ItemBreaks s path place set i report =
    AtItem path (item_name i) (ItemItselfBreaks s set i) report ⊎ ItemMethodsBreak s path place set i report

-- one of the items
abbrev pub ItemsBreak : Interface → LoweringReport → Type 0
ItemsBreak it report =
    (place : ItemPlace) × ((found : Module × Item) × ((found_at it.modules place ≡ Some found)
    × ItemBreaks (setting_in it place.«module») found.0.path place (module_marks it.backend it.modules found.0) found.1 report))

-- while declarations are lowered: in a module, or in an item
abbrev pub LoweringBreaks : Interface → LoweringReport → Type 0
LoweringBreaks it report = ModulesBreak it report ⊎ ItemsBreak it report

-- in all: while they are lowered; and, where nothing is broken there, in how structs nest
abbrev pub IsBroken : Interface → LoweringReport → Type 0
IsBroken it report = LoweringBreaks it report ⊎ (((r : LoweringReport) → ¬ (LoweringBreaks it r)) × NestingBreaks it report)
