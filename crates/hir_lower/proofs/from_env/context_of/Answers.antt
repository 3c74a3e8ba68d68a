use Rattle.std.proofs.Common.{subst}
use Rattle.hir_context.specs.Faults.{IsContextFault}
use Rattle.hir_context.specs.declared.context.ContextFault.{ContextFault}
use Rattle.hir_context.specs.declared.context.ContextFault.TheVariants as context_fault
use Rattle.hir_lower.proofs.from_env.context_of.Goals as goal

pub returns-in-Err-Unfit : goal.returns-in-Err-Unfit
returns-in-Err-Unfit c =
    let unfit = c.in-Err-Unfit.field-0-0 in
    let given : IsContextFault c.args.parts (context_fault.Unfit unfit) = subst (λ (f : ContextFault). IsContextFault c.args.parts f) c.in-Err-Unfit.field-0-is c.in-Err-Unfit.ensures.fault in
    record { defs = given.0; such = given.1; unfit = unfit; is = given.2 }
