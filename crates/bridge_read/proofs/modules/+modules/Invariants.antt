use Rattle.std.proofs.Common.{◌≡◌, ◌+◌, ◌*◌, []}
use Rattle.serde_json.specs.View.{items_view}
use Rattle.std.specs.Vec.Iter.{into_iter_items}
use Rattle.bridge_read.specs.forms.Modules.{module_within}
use Rattle.bridge_read.proofs.ModuleLemmas.{modules_after}
use Rattle.bridge_read.proofs.modules.+modules.Given as goal

abbrev pub decreases-module_within : goal.decreases-module_within
decreases-module_within l = 4 * l.levels

abbrev pub decreases-inner_modules : goal.decreases-inner_modules
decreases-inner_modules l = 4 * l.levels + 1

abbrev pub invariant-inner_modules-loop-entry : goal.invariant-inner_modules-loop-entry
invariant-inner_modules-loop-entry l =
    modules_after (module_within l.levels l.path).read l.number l.modules (items_view (into_iter_items l.entry-iterator)) ≡ modules_after (module_within l.levels l.path).read 0 [] (items_view (into_iter_items l.initial.entry-iterator))

abbrev pub decreases-nested_modules : goal.decreases-nested_modules
decreases-nested_modules l = 4 * l.levels + 2

abbrev pub decreases-module_object : goal.decreases-module_object
decreases-module_object l = 4 * l.levels + 3
