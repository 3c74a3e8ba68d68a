-- BadIdent: the name of an item, a field, a variant, a method, a parameter or a lifetime, of an exported symbol or a destructor
-- isn't an identifier.
use Rattle.std.specs.Prelude.{◌≡◌, ℕ, List}
use Rattle.std.specs.List.{Contains}
use Rattle.bridge_decl.specs.declared.lifetimes.LifetimeEnv.{LifetimeEnv}
use Rattle.bridge_decl.specs.declared.lifetimes.LifetimeNode.{LifetimeNode}
use Rattle.bridge_text.specs.Ident.{IsIdent}
use Rattle.hir_attrs.specs.Reading.{about}
use Rattle.hir_reports.specs.declared.report.LoweringError.{LoweringError}
use Rattle.hir_reports.specs.declared.rule.Rule.TheVariants as rule

-- this name, which is the argument
abbrev pub BadIdent : List ℕ → LoweringError → Type 0
BadIdent name error = (¬ (IsIdent name)) × (error ≡ about rule.BadIdent name)

-- that of a lifetime among those that are declared
abbrev pub BadLifetimeIdent : LifetimeEnv → LoweringError → Type 0
BadLifetimeIdent env error = (node : LifetimeNode) × (Contains env.nodes node × BadIdent node.name error)
