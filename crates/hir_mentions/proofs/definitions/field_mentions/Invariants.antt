use Rattle.std.proofs.Common.{◌≡◌, take}
use Rattle.std.specs.List.{flat_map}
use Rattle.hir_mentions.specs.Seen.{all_mentioned}
use Rattle.hir_mentions.specs.Types.{type_mentions}
use Rattle.hir_mentions.proofs.definitions.field_mentions.Given as goal

abbrev pub invariant-loop-field : goal.invariant-loop-field
invariant-loop-field g l =
    all_mentioned l.mentions
    ≡ flat_map (λ f. type_mentions g.P.OpaqueOwnership.OpaqueOwner.borrow_of g.P.PositionMentions.of_struct g.P.PositionMentions.of_trait g.P.PositionMentions.of_callback f.ty) (take l.field-index l.fields)
