use Rattle.std.proofs.Common.{◌≡◌, map, take}
use Rattle.hir_heads.specs.Told.{MadeUnlessTold}
use Rattle.hir_reports.specs.Store.{Held, Keeps, added}
use Rattle.hir_traits.specs.TraitMethods.{param_name_errors, unmarked_param}
use Rattle.hir_traits.proofs.heads.lower_params.Given as goal

abbrev pub invariant-loop-param : goal.invariant-loop-param
invariant-loop-param l = record {
  told : l.errors ≡ added l.fn.errors (param_name_errors (take l.param-index l.params));
  made : MadeUnlessTold (param_name_errors (take l.param-index l.params)) (map unmarked_param (take l.param-index l.params)) l.lowered;
  kept : (earlier : Held) → Keeps earlier l.fn.errors → Keeps earlier l.errors;
}
