-- What may be owned.
use Rattle.std.specs.Prelude.{Option, Some, None}
use Rattle.bridge_decl.specs.declared.types.Mutability.{Mutability}
use Rattle.bridge_decl.specs.declared.types.Mutability.TheVariants.{Mutable}
use Rattle.hir_ids.specs.declared.owners.Borrow.{Borrow}
use Rattle.hir_ids.specs.declared.owners.MaybeOwn.{MaybeOwn}
use Rattle.hir_ids.specs.declared.owners.MaybeOwn.TheVariants as owner

-- the borrow, where it is one
abbrev pub lent : MaybeOwn → Option Borrow
lent owner.Own = None
lent (owner.Borrow b) = Some b

-- the borrow, or owned where there is none
abbrev pub owner_of : Option Borrow → MaybeOwn
owner_of None = owner.Own
owner_of (Some b) = owner.Borrow b

-- what is owned may be changed, and a borrow says it of itself
abbrev pub mutability_of : MaybeOwn → Mutability
mutability_of owner.Own = Mutable
mutability_of (owner.Borrow b) = b.mutability
