use Rattle.std.proofs.Common.{◌≡◌, ◌+◌, ◌*◌, ◌≤◌, ℕ, ◌<◌, length}
use Rattle.definition_graph.specs.declared.search.Mark.TheVariants.{Unseen}
use Rattle.definition_graph.specs.inside.SearchSteps.{Holds, potential, search_mark}
use Rattle.definition_graph.proofs.search.Search.search.Given as goal

abbrev pub invariant-loop-root : goal.invariant-loop-root
invariant-loop-root g l =
    record {
      holds : Holds l.graph l.self;
      idle : length l.self.work.items ≡ 0;
      steps : l.steps + potential l.self ≤ l.initial.steps + potential l.initial.self + 4 * l.root;
      all : (v : ℕ) → v < l.root → search_mark l.self v ≡ Unseen → ⊥;
    }
