use Rattle.std.proofs.Common.{◌≡◌, ◌++◌, take, string_bytes}
use Rattle.hir_docs.specs.Links.{folders}
use Rattle.hir_docs.proofs.links.push_folders.Given as goal

abbrev pub invariant-loop-segment : goal.invariant-loop-segment
invariant-loop-segment l = string_bytes l.text ≡ string_bytes l.initial.text ++ folders (take l.segment-index l.segments)
