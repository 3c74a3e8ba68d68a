-- Whether a method may write through its receiver.
use Rattle.bridge_decl.specs.declared.types.Mutability.{Mutability}
use Rattle.bridge_decl.specs.declared.types.Mutability.TheVariants.{Immutable}
use Rattle.hir_ids.specs.Owners.{mutability_of}
use Rattle.hir_types.specs.declared.self_types.SelfType.{SelfType}
use Rattle.hir_types.specs.declared.self_types.SelfType.TheVariants as receiver

-- as its borrow says; a struct that the method takes itself may be written, and an enum is never
abbrev pub receiver_mutability : SelfType → Mutability
receiver_mutability (receiver.Opaque path) = path.owner.mutability
receiver_mutability (receiver.Struct path) = mutability_of path.owner
receiver_mutability (receiver.Enum path) = Immutable
