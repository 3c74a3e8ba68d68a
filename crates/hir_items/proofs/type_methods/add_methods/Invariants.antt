use Rattle.hir_modules.specs.Holding.{HoldsStill}
use Rattle.hir_number.specs.Naming.{IsNaming, Naming}
use Rattle.hir_items.specs.Setting.{setting}
use Rattle.hir_items.specs.TypeMethods.{method_reports, one_method_form}
use Rattle.hir_items.proofs.MethodLemmas.{MethodsSoFar}
use Rattle.hir_items.proofs.type_methods.add_methods.Given as goal

abbrev pub invariant-loop-method : goal.invariant-loop-method
invariant-loop-method g l =
    let at = setting (g.V.AttributeValidator.meaning l.lent.validator.now) l.lent in
    ((names : Naming) → IsNaming l.lent.env.now l.place.«module» names
    → MethodsSoFar (λ path item. method_reports (at names) path item l.place l.module_set) (one_method_form (at names) l.place l.module_set) l.methods l.method-index
    l.fn.errors l.errors l.fn.lowered l.lowered)
    × HoldsStill l.fn.errors l.errors
