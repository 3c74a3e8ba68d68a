use Rattle.std.proofs.Common.{subst, arith, sym, ◌∙◌, length, ◌<◌, ap, rules, ◌≡◌}
use Rattle.std.proofs.lemmas.List.{get_or_read}
use Rattle.definition_graph.specs.declared.search.Mark.TheVariants.{Unseen}
use Rattle.definition_graph.proofs.Ending.{root_before, root_seen, root_holds, root_energy}
use Rattle.definition_graph.specs.inside.SearchSteps.{potential, search_mark}
use Rattle.definition_graph.proofs.search.Search.search.Goals as goal
use Rattle.definition_graph.proofs.search.Search.search.Goals.{in-Unseen+in_ok-open+in_ok-run, in_default}

pub run-requires : goal.run-requires
run-requires g c =
    let within : c.loop-root.root < length c.args.graph.now = omega arith in
    root_holds c.args.graph.now c.loop-root.self c.open.new.self c.loop-root.root c.loop-root.invariant.holds
    c.loop-root.invariant.idle c.in_ok-open.ensures within
    (sym (get_or_read c.loop-root.self.marks.items c.loop-root.root _ (omega (arith, within, c.loop-root.invariant.holds.marks_each)) c.index.ensures Unseen)
    ∙ c.in-Unseen.is)

pub loop-root-preserved : goal.loop-root-preserved
loop-root-preserved g c =
    record {
      holds = search rules;
      idle = search rules;
      steps =
          elim c.match-index.branch [
            | in-Unseen+in_ok-open+in_ok-run w ↦
                omega (
                  arith,
                  ap potential w.self-is,
                  w.steps-is,
                  w.in_ok-run.ensures.steps,
                  root_energy _ _ _ w.in_ok-open.ensures,
                  c.loop-root.invariant.steps,
                  c.tick.ensures,
                )
            | in_default w ↦ omega (arith, ap potential w.self-is, w.steps-is, c.loop-root.invariant.steps, c.tick.ensures)
          ];
      all = λ v below.
          elim c.match-index.branch [
            | in-Unseen+in_ok-open+in_ok-run w ↦
                subst (λ s. search_mark s v ≡ Unseen → ⊥) (sym w.self-is)
                (root_seen c.args.graph.now c.loop-root.self w.open.new.self w.run.new.self c.loop-root.root c.loop-root.invariant.holds
                w.in_ok-open.ensures (omega arith) w.in_ok-run.ensures.seen c.loop-root.invariant.all v below)
            | in_default w ↦
                subst (λ s. search_mark s v ≡ Unseen → ⊥) (sym w.self-is)
                (root_before c.loop-root.self c.loop-root.root _
                (get_or_read c.loop-root.self.marks.items c.loop-root.root _ (omega (arith, c.loop-root.invariant.holds.marks_each)) c.index.ensures Unseen)
                w.in_default.not-Unseen c.loop-root.invariant.all v below)
          ];
    }
