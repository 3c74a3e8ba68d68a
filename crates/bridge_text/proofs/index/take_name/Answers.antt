use Rattle.std.proofs.Common.{sym, ◌∙◌}
use Rattle.bridge_text.proofs.NameIndexLemmas.{meanings_again, meanings_one_more}
use Rattle.bridge_text.proofs.index.take_name.Goals as goal

pub returns-in-Some-clause-taken : goal.returns-in-Some-clause-taken
returns-in-Some-clause-taken g c = λ named has.
    meanings_again c.args.index.now named c.args.name.now c.args.value c.in-Some.earlier.now
    (sym (c.in-Some.ensures.value ∙ has.finds c.args.name.now)) has

pub returns-clause-taken : goal.returns-clause-taken
returns-clause-taken g c = λ named has.
    meanings_one_more c.args.index.now c.insert.new.self named c.in_ok-key.key c.args.name.now c.args.value c.in_ok-key.ensures
    (sym (c.in_default.ensures.value ∙ has.finds c.args.name.now)) has c.in_ok-insert.ensures.updates.0
