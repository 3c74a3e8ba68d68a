use Rattle.std.proofs.Common.{List, ℕ, subst, sym, arith}
use Rattle.bridge_tool.specs.Running.{Answers, world}
use Rattle.bridge_tool.specs.inside.Answering.{Printed}
use Rattle.bridge_tool.proofs.RunLemmas.{says_answered, was_read}
use Rattle.bridge_tool.proofs.program.answer.Goals as goal

pub returns-in-Ok-clause-says : goal.returns-in-Ok-clause-says
returns-in-Ok-clause-says g c = λ words asks.
    let sink = g.K.Sink.state c.args.sink.now in
    let sink' = g.K.Sink.state c.obey-in-Ok.new.sink in
    says_answered words c.args.command.now (world (g.S.Source.state c.args.source.now) sink) (world (g.S.Source.state c.read_all.new.source) sink') c.in-Ok.bytes.items asks
    (was_read c.args.command.now (g.S.Source.state c.args.source.now) (g.S.Source.state c.read_all.new.source) c.in-Ok.bytes.items (sym c.if-not-reads.ensures)
    (record { all = c.in-Ok.ensures.whole; short = omega (arith, c.in-Ok.ensures.short, c.in-Ok.bytes.ok.0); none_left = c.in-Ok.ensures.at_end; no_fault = c.in-Ok.ensures.steady }))
    c.obey-in-Ok.result (subst (λ (bytes : List ℕ). Printed (Answers c.args.command.now bytes) sink sink' c.obey-in-Ok.result) c.deref.ensures.value c.obey-in-Ok.ensures)
