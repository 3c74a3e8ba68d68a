use Rattle.bridge_comparing.proofs.WordLemmas.{shown_is}
use Rattle.bridge_comparing.proofs.shown.is_shown_as.Goals as goal

pub returns-in-Ok : goal.returns-in-Ok
returns-in-Ok g c =
    shown_is (g.D.Display.output c.args.value) c.args.word.now c.with-comparing.result c.write.new.self c.with-comparing.ensures c.in-Ok.ensures.writes c.is_whole.result
    c.is_whole.ensures
