-- What is wrong with the paths and lifetimes of a declaration, as errors.
use Rattle.std.specs.Prelude.{List, [], ◌∷◌, Option, Some, None}
use Rattle.bridge_decl.specs.Names.{path_text}
use Rattle.hir_attrs.specs.Reading.{about}
use Rattle.hir_elide.specs.declared.fault.ElideFault.{ElideFault}
use Rattle.hir_elide.specs.declared.fault.ElideFault.TheVariants as elide
use Rattle.hir_number.specs.Breaches.{Broken, UnresolvedPath, LifetimeArity, SelfMismatch, LifetimeUnknown, TooManyLifetimes}
use Rattle.hir_number.specs.declared.fault.NumberFault.{NumberFault}
use Rattle.hir_number.specs.declared.fault.NumberFault.TheVariants as fault
use Rattle.hir_reports.specs.Texts.{plain_error}
use Rattle.hir_reports.specs.declared.report.LoweringError.{LoweringError}
use Rattle.hir_reports.specs.declared.rule.Rule.{Rule}
use Rattle.hir_reports.specs.declared.rule.Rule.TheVariants as rule

-- a breach as the rule of its name, about the path or the lifetime
abbrev pub breach_error : Broken → LoweringError
breach_error (UnresolvedPath path) = about rule.UnresolvedPath (path_text path)
breach_error (LifetimeArity path) = about rule.LifetimeArity (path_text path)
breach_error SelfMismatch = plain_error rule.SelfMismatch
breach_error (LifetimeUnknown name) = about rule.LifetimeUnknown name
breach_error TooManyLifetimes = plain_error rule.TooManyLifetimes

-- the rule that a lifetime breaks which has no number: one that isn't declared is a breach, and a name that is no identifier is
-- told with the names
abbrev pub elide_rule : ElideFault → Option Rule
elide_rule elide.AnonymousInDefinition = Some rule.AnonymousInDefinition
elide_rule elide.ElisionNoSource = Some rule.ElisionNoSource
elide_rule elide.ElisionAmbiguous = Some rule.ElisionAmbiguous
elide_rule elide.TooManyLifetimes = Some rule.TooManyLifetimes
elide_rule elide.LifetimeUnknown = None
elide_rule elide.BadIdent = None
elide_rule elide.NoMemory = None

-- a broken rule without arguments, where one is
abbrev pub plain_errors : Option Rule → List LoweringError
plain_errors (Some broken) = plain_error broken ∷ []
plain_errors None = []

-- what is told of a declaration that has no numbers: what is wrong with a path is a breach
abbrev pub number_errors : NumberFault → List LoweringError
number_errors (fault.Elide e) = plain_errors (elide_rule e)
number_errors fault.UnresolvedPath = []
number_errors fault.LifetimeArity = []
number_errors fault.NoMemory = []
