-- What is wrong in receivers and writers, and what traits and functions need.
use Rattle.std.specs.Prelude.{ℕ, List, [], ◌∷◌, ◌++◌, Bool, Option, Some, None}
use Rattle.bridge_ast.specs.declared.place.ItemPlace.{ItemPlace}
use Rattle.bridge_decl.specs.declared.types.Mutability.{Mutability}
use Rattle.bridge_decl.specs.declared.types.WriteType.{WriteType}
use Rattle.bridge_decl.specs.declared.types.WriteType.TheVariants as write
use Rattle.hir_backends.specs.declared.support.BackendAttrSupport.{BackendAttrSupport}
use Rattle.hir_backends.specs.declared.support.flag.SupportFlag.TheVariants as flag
use Rattle.hir_life.specs.declared.maybe_static.MaybeStatic.{MaybeStatic}
use Rattle.hir_reports.specs.declared.rule.Rule.TheVariants as rule
use Rattle.bridge_order.specs.declared.catalog.Catalog.{Catalog}
use Rattle.bridge_order.specs.declared.catalog.Entry.{Entry}
use Rattle.bridge_order.specs.declared.catalog.Entry.TheVariants as entry
use Rattle.bridge_order.specs.Catalog.{entry_at}
use Rattle.bridge_rules.specs.Table.{refs_flag}
use Rattle.bridge_grid.specs.declared.fault.TypeFault.{TypeFault}
use Rattle.bridge_grid.specs.declared.fault.TypeFault.TheVariants.{Broken}
use Rattle.bridge_grid.specs.Asked.{denied, denied_if, mark_faults}

-- a receiver by value
abbrev pub own_receiver_faults : Entry → List TypeFault
own_receiver_faults (entry.Struct id has_fields) = []
own_receiver_faults (entry.OutStruct id has_fields) = Broken rule.OutStructInput ∷ []
own_receiver_faults (entry.Opaque id mark) = Broken rule.OpaqueByValue ∷ []
own_receiver_faults (entry.Enum id) = []
own_receiver_faults (entry.Trait id) = []
own_receiver_faults (entry.Function id) = []

-- a receiver by reference
abbrev pub lent_receiver_faults : BackendAttrSupport → Mutability → Entry → List TypeFault
lent_receiver_faults support m (entry.Struct id has_fields) = denied support (refs_flag m)
lent_receiver_faults support m (entry.OutStruct id has_fields) = Broken rule.OutStructInput ∷ []
lent_receiver_faults support m (entry.Opaque id mark) = mark_faults m mark
lent_receiver_faults support m (entry.Enum id) = []
lent_receiver_faults support m (entry.Trait id) = []
lent_receiver_faults support m (entry.Function id) = []

abbrev pub receiver_faults : BackendAttrSupport → Catalog → Option (MaybeStatic ℕ × Mutability) → ItemPlace
    → List TypeFault
receiver_faults support catalog (Some b) place = lent_receiver_faults support b.1 (entry_at catalog place)
receiver_faults support catalog None place = own_receiver_faults (entry_at catalog place)

-- the trailing writer of a method or a function
abbrev pub writer_faults : BackendAttrSupport → WriteType → List TypeFault
writer_faults support write.Str = []
writer_faults support write.Str16 = denied support flag.Utf16Writeables
writer_faults support (write.Primitive p) = denied support flag.GenericWriteables

-- a trait that is `Send` or `Sync`
abbrev pub trait_faults : BackendAttrSupport → Bool → Bool → List TypeFault
trait_faults support is_send is_sync = denied_if support is_send flag.TraitsAreSend
    ++ denied_if support is_sync flag.TraitsAreSync

-- a function outside types
abbrev pub free_function_faults : BackendAttrSupport → List TypeFault
free_function_faults support = denied support flag.FreeFunctions
