-- Which rules receivers and writers break, and traits and functions by being there.
use Rattle.std.specs.Prelude.{◌≡◌, ◌⊎◌, ℕ, Bool, true, Option, Some, None}
use Rattle.bridge_ast.specs.declared.place.ItemPlace.{ItemPlace}
use Rattle.bridge_decl.specs.declared.types.Mutability.{Mutability}
use Rattle.bridge_decl.specs.declared.types.Mutability.TheVariants.{Mutable, Immutable}
use Rattle.bridge_decl.specs.declared.types.WriteType.{WriteType}
use Rattle.bridge_decl.specs.declared.types.WriteType.TheVariants as write
use Rattle.hir_backends.specs.declared.support.BackendAttrSupport.{BackendAttrSupport}
use Rattle.hir_backends.specs.declared.support.flag.SupportFlag.TheVariants as flag
use Rattle.hir_life.specs.declared.maybe_static.MaybeStatic.{MaybeStatic}
use Rattle.hir_reports.specs.declared.rule.Rule.TheVariants as rule
use Rattle.bridge_order.specs.declared.catalog.Catalog.{Catalog}
use Rattle.bridge_order.specs.declared.catalog.Entry.{Entry}
use Rattle.bridge_order.specs.declared.catalog.Entry.TheVariants as entry
use Rattle.bridge_order.specs.Catalog.{entry_at}
use Rattle.bridge_rules.specs.Table.{refs_flag}
use Rattle.bridge_grid.specs.declared.fault.TypeFault.{TypeFault}
use Rattle.bridge_grid.specs.declared.fault.TypeFault.TheVariants.{Broken}
use Rattle.bridge_grid.specs.rules.SupportDenied.{Lacks}

-- a receiver by value
abbrev pub OwnReceiverBreaks : Entry → TypeFault → Type 0
OwnReceiverBreaks (entry.Struct id has_fields) f = ⊥
OwnReceiverBreaks (entry.OutStruct id has_fields) f = f ≡ Broken rule.OutStructInput
OwnReceiverBreaks (entry.Opaque id mark) f = f ≡ Broken rule.OpaqueByValue
OwnReceiverBreaks (entry.Enum id) f = ⊥
OwnReceiverBreaks (entry.Trait id) f = ⊥
OwnReceiverBreaks (entry.Function id) f = ⊥

-- a receiver by reference
abbrev pub LentReceiverBreaks : BackendAttrSupport → Mutability → Entry → TypeFault → Type 0
LentReceiverBreaks support m (entry.Struct id has_fields) f = Lacks support (refs_flag m) f
LentReceiverBreaks support m (entry.OutStruct id has_fields) f = f ≡ Broken rule.OutStructInput
LentReceiverBreaks support m (entry.Opaque id mark) f = ((m ≡ Mutable) × (mark ≡ Immutable)) ×
    (f ≡ Broken rule.MutOpaqueUnmarked)
LentReceiverBreaks support m (entry.Enum id) f = ⊥
LentReceiverBreaks support m (entry.Trait id) f = ⊥
LentReceiverBreaks support m (entry.Function id) f = ⊥

abbrev pub ReceiverBreaks : BackendAttrSupport → Catalog → Option (MaybeStatic ℕ × Mutability) → ItemPlace
    → TypeFault → Type 0
ReceiverBreaks support catalog (Some b) place f = LentReceiverBreaks support b.1 (entry_at catalog place) f
ReceiverBreaks support catalog None place f = OwnReceiverBreaks (entry_at catalog place) f

-- the trailing writer of a method or a function
abbrev pub WriterBreaks : BackendAttrSupport → WriteType → TypeFault → Type 0
WriterBreaks support write.Str f = ⊥
WriterBreaks support write.Str16 f = Lacks support flag.Utf16Writeables f
WriterBreaks support (write.Primitive p) f = Lacks support flag.GenericWriteables f

-- a trait that is `Send` or `Sync`
abbrev pub TraitBreaks : BackendAttrSupport → Bool → Bool → TypeFault → Type 0
TraitBreaks support is_send is_sync f = ((is_send ≡ true) × Lacks support flag.TraitsAreSend f) ⊎
    ((is_sync ≡ true) × Lacks support flag.TraitsAreSync f)

-- a function outside types
abbrev pub FreeFunctionBreaks : BackendAttrSupport → TypeFault → Type 0
FreeFunctionBreaks support f = Lacks support flag.FreeFunctions f
