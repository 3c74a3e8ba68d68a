-- Parameters of methods: their names and marks; and that none without a default value follows one with.
use Rattle.std.specs.Prelude.{List, [], ◌∷◌, ◌++◌, Bool, false, ◌&&◌, ◌||◌, not, is_some, if◌then◌else◌}
use Rattle.bridge_decl.specs.declared.methods.Param.{Param as DeclaredParam}
use Rattle.hir_attrs.specs.Attrs.{empty_attrs}
use Rattle.hir_attrs.specs.Reading.{about, marks_of}
use Rattle.hir_backends.specs.Backend.{Backend}
use Rattle.hir_reports.specs.declared.report.LoweringError.{LoweringError}
use Rattle.hir_reports.specs.declared.rule.Rule.TheVariants as rule
use Rattle.hir_methods.specs.Untyped.{each_untyped_errors}

-- whether its marks give it a default value
abbrev pub has_default : Backend → DeclaredParam → Bool
has_default backend param = is_some (marks_of backend param.attrs empty_attrs).default_value

-- one, after those of which one has a default value, or none
abbrev pub required_error : Backend → Bool → DeclaredParam → List LoweringError
required_error backend is_after param =
    if is_after && not (has_default backend param) then about rule.RequiredAfterDefault param.name ∷ [] else []

-- each of a list, after those
abbrev pub required_errors : Backend → Bool → List DeclaredParam → List LoweringError
required_errors backend is_after [] = []
required_errors backend is_after (param ∷ params) =
    required_error backend is_after param ++ required_errors backend (is_after || has_default backend param) params

-- what is told of the parameters of a method beside their types
abbrev pub method_param_errors : Backend → List DeclaredParam → List LoweringError
method_param_errors backend params = each_untyped_errors backend params ++ required_errors backend false params
