use Rattle.std.proofs.Common.{◌≡◌, drop, false}
use Rattle.hir_reports.specs.Store.{Held, Keeps, added}
use Rattle.hir_methods.specs.Required.{required_errors}
use Rattle.hir_methods.proofs.required.tell_required.Given as goal

abbrev pub invariant-loop-param : goal.invariant-loop-param
invariant-loop-param g l =
    let backend = g.V.AttributeValidator.meaning l.validator in
    record {
      told : added l.initial.errors (required_errors backend false l.params) ≡ added l.errors (required_errors backend l.is_after (drop l.param-index l.params));
      kept : (earlier : Held) → Keeps earlier l.initial.errors → Keeps earlier l.errors;
    }
