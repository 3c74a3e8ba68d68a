use Rattle.std.proofs.Common.{◌≡◌, take}
use Rattle.std.specs.List.{flat_map}
use Rattle.hir_usage.specs.Seen.{meant}
use Rattle.hir_usage.specs.Types.{type_usages}
use Rattle.hir_usage.proofs.definitions.field_usages.Given as goal

abbrev pub invariant-loop-field : goal.invariant-loop-field
invariant-loop-field g l =
    meant l.uses
    ≡ flat_map (λ f. type_usages g.P.TyPosition.IN_OUT_STATUS g.P.OpaqueOwnership.OpaqueOwner.borrow_of g.P.StructPath.StructPathLike.id_of g.P.PositionUses.of_callback f.ty) (take l.field-index l.fields)
