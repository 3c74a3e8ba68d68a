use Rattle.std.proofs.Common.{◌≡◌, ◌++◌, map, take}
use Rattle.std.specs.List.{flat_map}
use Rattle.hir_number.specs.Naming.{IsNaming, Naming}
use Rattle.hir_number.specs.Uses.{type_uses}
use Rattle.hir_number_slow.specs.Seen.{use_seen}
use Rattle.hir_number_slow.proofs.signatures.push_fields.Given as goal

abbrev pub invariant-loop-field : goal.invariant-loop-field
invariant-loop-field l = (names : Naming) → IsNaming l.env l.number names
    → map use_seen l.uses.items ≡ map use_seen l.fn.uses.items ++ flat_map (λ field. type_uses names field.ty) (take l.field-index l.fields)
