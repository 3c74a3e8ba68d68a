-- What a receiver stands for.
use Rattle.std.specs.Prelude.{ℕ, Option, Some, None}
use Rattle.bridge_decl.specs.declared.types.Mutability.{Mutability}
use Rattle.bridge_order.specs.Catalog.{entry_at}
use Rattle.bridge_rules.specs.Shapes.{slice_borrow}
use Rattle.bridge_order.specs.declared.catalog.Catalog.{Catalog}
use Rattle.bridge_order.specs.declared.catalog.Entry.{Entry}
use Rattle.bridge_order.specs.declared.catalog.Entry.TheVariants as entry
use Rattle.hir_ids.specs.Owners.{owner_of}
use Rattle.hir_ids.specs.declared.owners.Borrow.{Borrow}
use Rattle.hir_life.specs.declared.maybe_static.MaybeStatic.{MaybeStatic}
use Rattle.hir_number.specs.declared.numbered.Target.{Target}
use Rattle.hir_types.specs.declared.self_types.SelfType.{SelfType}
use Rattle.hir_types.specs.declared.self_types.SelfType.TheVariants as receiver
use Rattle.hir_form.specs.Forms.{Generics, enum_path, struct_path}

abbrev pub opaque_receiver : Generics → ℕ → Option Borrow → Option SelfType
opaque_receiver ls id (Some b) = Some (receiver.Opaque (record { lifetimes = ls; optional = record {}; owner = b; tcx_id = id }))
opaque_receiver ls id None = None

-- an opaque is a receiver by reference alone, and an enum is always taken itself. What isn't a type has no receivers, and
-- counts as an enum
abbrev pub entry_receiver : Generics → Option Borrow → Entry → Option SelfType
entry_receiver ls borrow (entry.Struct id has_fields) = Some (receiver.Struct (struct_path ls id (owner_of borrow)))
entry_receiver ls borrow (entry.OutStruct id has_fields) = None
entry_receiver ls borrow (entry.Opaque id mark) = opaque_receiver ls id borrow
entry_receiver ls borrow (entry.Enum id) = Some (receiver.Enum (enum_path id))
entry_receiver ls borrow (entry.Trait id) = Some (receiver.Enum (enum_path id))
entry_receiver ls borrow (entry.Function id) = Some (receiver.Enum (enum_path id))

-- `self` of a type, or a reference to it
abbrev pub receiver_form : Catalog → Option (MaybeStatic ℕ × Mutability) → Target → Option SelfType
receiver_form catalog borrow target = entry_receiver target.lifetimes (slice_borrow borrow) (entry_at catalog target.place)
