use Rattle.std.proofs.Common.{◌≡◌, take}
use Rattle.std.specs.List.{flat_map}
use Rattle.hir_mentions.specs.Containing.{contained_in_type}
use Rattle.hir_mentions.proofs.containing.contained_structs.Given as goal

abbrev pub invariant-loop-field : goal.invariant-loop-field
invariant-loop-field g l = l.ids.items ≡ flat_map (λ f. contained_in_type g.P.StructPath.StructPathLike.id_of f.ty) (take l.field-index l.fields)
