use Rattle.std.proofs.Common.{Err, ap, subst, sym, ◌∙◌}
use Rattle.bridge_text.specs.Ident.{IsIdent}
use Rattle.hir_reports.proofs.StoreLaws.{added_nothing}
use Rattle.hir_reports.specs.Store.{added}
use Rattle.hir_heads.proofs.NameLemmas.{named, told_other, unnamed}
use Rattle.hir_heads.proofs.names.lower_ident.Goals as goal

pub returns-in-Ok-clause-told : goal.returns-in-Ok-clause-told
returns-in-Ok-clause-told c =
    added_nothing c.args.errors.now ∙ ap (added c.args.errors.now) (sym (named c.args.name.now (subst IsIdent c.as_str.ensures c.in-Ok.ensures.valid)))

pub returns-in_ok-tell_name-in-Err-Bad-clause-told : goal.returns-in_ok-tell_name-in-Err-Bad-clause-told
returns-in_ok-tell_name-in-Err-Bad-clause-told c =
    c.in_ok-tell_name-in-Err-Bad.ensures.told
    ∙ ap (added c.args.errors.now) (sym (unnamed c.args.name.now (subst (λ text. ¬ (IsIdent text)) c.as_str.ensures (c.in-Err-Bad.ensures.bad.0 (ap Err c.in-Err-Bad.field-0-is)))))

pub returns-in_ok-tell_name-in-Err-Bad-clause-made : goal.returns-in_ok-tell_name-in-Err-Bad-clause-made
returns-in_ok-tell_name-in-Err-Bad-clause-made c = λ none.
    absurd (told_other c.args.name.now (subst (λ text. ¬ (IsIdent text)) c.as_str.ensures (c.in-Err-Bad.ensures.bad.0 (ap Err c.in-Err-Bad.field-0-is))) none)
