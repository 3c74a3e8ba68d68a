use Rattle.std.proofs.Common.{subst, sym, ℕ}
use Rattle.bridge_tool.specs.Headline.{Headline, IsComplete}
use Rattle.bridge_tool.specs.Running.{world}
use Rattle.bridge_tool.proofs.HeadlineLemmas.{complete_of, headline_of}
use Rattle.bridge_tool.proofs.program.run.Goals as goal

pub returns : goal.returns
returns g c =
    let old = world (g.S.Source.state c.args.source.now) (g.K.Sink.state c.args.sink.now) in
    let new = world (g.S.Source.state c.run_to_status.new.source) (g.K.Sink.state c.run_to_status.new.sink) in
    let words = c.args.words.now in
    let end = c.run_to_status.result in
    let says = c.run_to_status.ensures.says in
    let is = sym c.code.ensures in
    record {
      headline = subst (λ (code : ℕ). Headline words old new code) is (headline_of words old new end says);
      complete = subst (λ (code : ℕ). IsComplete words old new code) is (complete_of words old new end says);
      says = (end, c.code.ensures, says);
      unread = c.run_to_status.ensures.untouched;
      few_reads = c.run_to_status.ensures.few_reads;
      rest = c.run_to_status.ensures.rest;
    }
