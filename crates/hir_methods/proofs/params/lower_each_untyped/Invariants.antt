use Rattle.std.proofs.Common.{◌≡◌, take}
use Rattle.hir_heads.specs.Told.{MadeUnlessTold}
use Rattle.hir_reports.specs.Store.{Held, Keeps, added}
use Rattle.hir_methods.specs.Untyped.{each_untyped_errors, untyped_forms}
use Rattle.hir_methods.proofs.params.lower_each_untyped.Given as goal

abbrev pub invariant-loop-param : goal.invariant-loop-param
invariant-loop-param g l = record {
  told : l.errors ≡ added l.fn.errors (each_untyped_errors (g.V.AttributeValidator.meaning l.validator) (take l.param-index l.params));
  made : MadeUnlessTold (each_untyped_errors (g.V.AttributeValidator.meaning l.validator) (take l.param-index l.params)) (untyped_forms (g.V.AttributeValidator.meaning l.validator) (take l.param-index l.params)) l.lowered;
  kept : (earlier : Held) → Keeps earlier l.fn.errors → Keeps earlier l.errors;
}
