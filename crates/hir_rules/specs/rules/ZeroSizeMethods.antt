-- ZeroSizeMethods: an enabled struct without fields has methods, also where these are disabled.
use Rattle.std.specs.Prelude.{◌≡◌, ◌≢◌, []}
use Rattle.bridge_decl.specs.declared.structs.Struct.{Struct}
use Rattle.hir_reports.specs.Texts.{plain_error}
use Rattle.hir_reports.specs.declared.report.LoweringError.{LoweringError}
use Rattle.hir_reports.specs.declared.rule.Rule.TheVariants as rule

-- the struct, which is enabled
abbrev pub ZeroSizeMethods : Struct → LoweringError → Type 0
ZeroSizeMethods item error = (item.fields ≡ []) × ((item.methods ≢ []) × (error ≡ plain_error rule.ZeroSizeMethods))
