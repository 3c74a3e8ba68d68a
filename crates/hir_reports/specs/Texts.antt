-- The texts of reports.
use Rattle.std.specs.Prelude.{ℕ, List, [], ◌∷◌, ◌++◌, length, codes, ◌==◌, if◌then◌else◌}
use Rattle.hir_reports.specs.declared.rule.Rule.{Rule}
use Rattle.hir_reports.specs.declared.rule.Rule.TheVariants as rule
use Rattle.hir_reports.specs.declared.report.LoweringError.{LoweringError}
use Rattle.hir_reports.specs.declared.report.LoweringReport.{LoweringReport}
use Rattle.hir_reports.specs.Rules.{rule_name, pieces}
use Rattle.hir_reports.specs.declared.places.ErrorContext.{ErrorContext}
use Rattle.hir_reports.specs.Places.{context_text}

-- a broken rule whose text has no arguments
abbrev pub plain_error : Rule → LoweringError
plain_error broken = record { rule = broken; args = [] }

-- a text cut into pieces, with an argument between each two
abbrev pub woven : List (List ℕ) → List (List ℕ) → List ℕ
woven [] args = []
woven (piece ∷ []) args = piece
woven (piece ∷ next ∷ pieces) [] = piece ++ woven (next ∷ pieces) []
woven (piece ∷ next ∷ pieces) (arg ∷ args) = piece ++ arg ++ woven (next ∷ pieces) args

-- a bound that a reference implies has a text of its own, with three arguments
unfoldable pub reference_bound : List (List ℕ)
reference_bound =
    codes "Method should explicitly include this lifetime bound from "
    ∷ codes ": '"
    ∷ codes ": '"
    ∷ codes " (comes from &-ref's lifetime in parameter)"
    ∷ []

-- the text around so many arguments
abbrev pub pieces_around : Rule → ℕ → List (List ℕ)
pieces_around rule.ImpliedBound args = if args == 3 then reference_bound else pieces rule.ImpliedBound
pieces_around other args = pieces other

-- the text of a rule with its arguments in place
abbrev pub error_text : LoweringError → List ℕ
error_text error = woven (pieces_around error.rule (length error.args)) error.args

-- the line that tells a place, and the beginning of the next
abbrev pub place_line : ErrorContext → List ℕ
place_line context = codes "Lowering error in " ++ context_text context ++ codes "\n  "

-- what that goes on with: the rule and its text
abbrev pub error_line : LoweringError → List ℕ
error_line error = rule_name error.rule ++ codes ": " ++ error_text error ++ codes "\n"

-- the two lines of a report
abbrev pub report_text : LoweringReport → List ℕ
report_text report = place_line report.context ++ error_line report.error
