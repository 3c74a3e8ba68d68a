use Rattle.std.proofs.Common.{◌≡◌, drop, map}
use Rattle.bridge_decl.specs.Lifetimes.{lifetime_names}
use Rattle.bridge_text.specs.NameIndex.{number_of}
use Rattle.hir_elide.proofs.PlaceLemmas.{shifted}
use Rattle.hir_number_slow.proofs.before.place_of.Given as goal

abbrev pub invariant-loop-place : goal.invariant-loop-place
invariant-loop-place l = number_of (lifetime_names l.declared) l.name ≡ shifted l.place (number_of (map (λ node. node.name) (drop l.place l.node-items)) l.name)
