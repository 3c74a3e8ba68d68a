use Rattle.std.proofs.Common.{Err}
use Rattle.hir_naming.specs.Meaning.{naming_of}
use Rattle.hir_lower.proofs.BrokenLemmas.{answered_so}
use Rattle.hir_lower.proofs.ContextLemmas.{context_answered, still_refused}
use Rattle.hir_lower.proofs.from_env.context_in_order.Goals as goal

pub returns-in-Ok : goal.returns-in-Ok
returns-in-Ok g c =
    let modules = c.args.env.now in
    let backend = g.V.AttributeValidator.meaning c.args.validator.now in
    let named = c.every_path_has_a_meaning.ensures modules c.requires.sound in
    answered_so modules backend c.args.config named c.used_context.result
    (context_answered modules backend c.args.config (naming_of modules) c.in-Ok.defs named
    c.what_is_accepted_fits.ensures (c.in-Ok.ensures (naming_of modules) named) c.used_context.result c.used_context.ensures)

pub returns-in-Err : goal.returns-in-Err
returns-in-Err g c =
    let modules = c.args.env.now in
    let backend = g.V.AttributeValidator.meaning c.args.validator.now in
    let named = c.every_path_has_a_meaning.ensures modules c.requires.sound in
    answered_so modules backend c.args.config named (Err c.in-Err.fault) (still_refused modules backend c.args.config (naming_of modules) c.in-Err.fault (c.in-Err.ensures (naming_of modules) named))
