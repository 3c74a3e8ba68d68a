-- Which reports tell that a rule of nesting is broken: at the struct that breaks it.
use Rattle.std.specs.Prelude.{◌≡◌, None}
use Rattle.bridge_ast.specs.declared.place.ItemPlace.{ItemPlace}
use Rattle.bridge_decl.specs.declared.modules.Module.{Module}
use Rattle.bridge_decl.specs.declared.structs.Struct.{Struct}
use Rattle.hir_lowering.specs.Interface.{Interface}
use Rattle.hir_reports.specs.Store.{at_place, told_at}
use Rattle.hir_reports.specs.Texts.{plain_error}
use Rattle.hir_reports.specs.declared.report.LoweringReport.{LoweringReport}
use Rattle.hir_reports.specs.declared.rule.Rule.{Rule}
use Rattle.hir_reports.specs.declared.rule.Rule.TheVariants as rule
use Rattle.hir_nesting_rules.specs.rules.NestingTooDeep.{NestingTooDeep}
use Rattle.hir_nesting_rules.specs.rules.StructContainsItself.{StructContainsItself}

-- that a struct of a module breaks a rule
abbrev pub told_of_nesting : Rule → Module → Struct → LoweringReport
told_of_nesting broken owner declared = told_at (at_place owner.path declared.name None) (plain_error broken)

-- some struct breaks one of the rules, and this is the report of it
pub data NestingBreaks (it : Interface) (report : LoweringReport) : Type 0 where
  contains_itself :
      (place : ItemPlace) (owner : Module) (declared : Struct) → StructContainsItself it place owner declared
      → report ≡ told_of_nesting rule.StructContainsItself owner declared → NestingBreaks it report
  nests_too_deep :
      (place : ItemPlace) (owner : Module) (declared : Struct) → NestingTooDeep it place owner declared
      → report ≡ told_of_nesting rule.NestingTooDeep owner declared → NestingBreaks it report
