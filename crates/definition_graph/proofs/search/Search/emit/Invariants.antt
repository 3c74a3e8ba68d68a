use Rattle.std.proofs.Common.{◌≡◌, ◌+◌, ◌++◌, ◌-◌, take, drop}
use Rattle.definition_graph.specs.inside.SearchSteps.{MarksDone}
use Rattle.definition_graph.proofs.search.Search.emit.Given as goal

abbrev pub invariant-loop-place : goal.invariant-loop-place
invariant-loop-place g l =
    record {
      marks : MarksDone l.self.path.items l.start l.place l.component l.initial.self.marks.items l.self.marks.items;
      left : l.self.left ≡ l.initial.self.left;
      path : l.self.path ≡ l.initial.self.path;
      bounds : l.self.bounds ≡ l.initial.self.bounds;
      work : l.self.work ≡ l.initial.self.work;
      steps : l.steps + l.start ≡ l.initial.steps + l.place;
      order : l.self.order.items ≡ l.initial.self.order.items ++ take (l.place - l.start) (drop l.start l.self.path.items);
    }
