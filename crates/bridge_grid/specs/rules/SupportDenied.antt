-- SupportDenied: which features a shape needs of the backend.
use Rattle.std.specs.Prelude.{false, ◌≡◌, ℕ, Option, Some}
use Rattle.bridge_decl.specs.declared.types.Mutability.{Mutability}
use Rattle.bridge_decl.specs.declared.types.Mutability.TheVariants.{Mutable}
use Rattle.bridge_decl.specs.declared.types.PrimitiveType.{PrimitiveType}
use Rattle.bridge_decl.specs.declared.types.StdlibOrDiplomat.{StdlibOrDiplomat}
use Rattle.bridge_decl.specs.declared.types.StringEncoding.{StringEncoding}
use Rattle.hir_life.specs.declared.maybe_static.MaybeStatic.{MaybeStatic}
use Rattle.hir_life.specs.declared.maybe_static.MaybeStatic.TheVariants.{Static}
use Rattle.hir_ids.specs.declared.owners.Borrow.{Borrow}
use Rattle.hir_backends.specs.declared.support.BackendAttrSupport.{BackendAttrSupport}
use Rattle.hir_backends.specs.declared.support.flag.SupportFlag.{SupportFlag}
use Rattle.hir_backends.specs.declared.support.flag.SupportFlag.TheVariants as flag
use Rattle.bridge_rules.specs.declared.position.Position.{Position}
use Rattle.bridge_rules.specs.declared.position.Position.TheVariants as at
use Rattle.bridge_rules.specs.declared.shape.Element.{Element}
use Rattle.bridge_rules.specs.declared.shape.Element.TheVariants as element
use Rattle.bridge_rules.specs.declared.shape.FlatSlice.TheVariants as flat
use Rattle.bridge_rules.specs.declared.shape.Shape.{Shape}
use Rattle.bridge_rules.specs.declared.shape.Shape.TheVariants as shape
use Rattle.bridge_rules.specs.declared.shape.Value.{Value}
use Rattle.bridge_rules.specs.Table.{refs_flag}
use Rattle.hir_backends.specs.Support.{flag_on}
use Rattle.bridge_grid.specs.declared.fault.TypeFault.{TypeFault}
use Rattle.bridge_grid.specs.declared.fault.TypeFault.TheVariants.{Denied}
use Rattle.bridge_grid.specs.declared.part.Part.{Part}
use Rattle.bridge_grid.specs.Ways.{ComesIn}
use Rattle.bridge_grid.specs.rules.OwnedSliceMisplaced.{IsBytes}

-- the backend lacks a feature
abbrev pub Lacks : BackendAttrSupport → SupportFlag → TypeFault → Type 0
Lacks support flag f = (flag_on support flag ≡ false) × (f ≡ Denied flag)

pub data Asks : Position → Part → Shape → SupportFlag → Type 0 where
  trait_in_parameter : (part : Part) (id : ℕ) → Asks at.Param part (shape.ImplTrait id) flag.Traits
  trait_from_callback : (part : Part) (id : ℕ) → Asks at.CallbackReturn part (shape.ImplTrait id) flag.Traits
  reference_in_field : (part : Part) (b : Borrow) (id : ℕ)
      → Asks at.Field part (shape.StructReference b id) (refs_flag b.mutability)
  reference_in_parameter : (part : Part) (b : Borrow) (id : ℕ)
      → Asks at.Param part (shape.StructReference b id) (refs_flag b.mutability)
  option : (at : Position) (part : Part) (v : Value) (d : StdlibOrDiplomat)
      → Asks at part (shape.OptionOfValue v d) flag.Option
  static_text : (at : Position) (part : Part) (l : MaybeStatic ℕ) (e : StringEncoding) → ComesIn at
      → l ≡ Static → Asks at part (shape.Flat (flat.Str l e)) flag.StaticSlices
  static_slice : (at : Position) (part : Part) (b : Borrow) (p : PrimitiveType) → ComesIn at
      → b.lifetime ≡ Static → Asks at part (shape.Flat (flat.Primitives b p)) flag.StaticSlices
  static_slice_of_types : (at : Position) (part : Part) (b : Borrow) (e : Element) → b.lifetime ≡ Static
      → Asks at part (shape.Slice (Some b) e) flag.StaticSlices
  mutable_slice : (at : Position) (part : Part) (b : Borrow) (p : PrimitiveType) → b.mutability ≡ Mutable
      → Asks at part (shape.Flat (flat.Primitives b p)) flag.MutableSlices
  mutable_slice_of_types : (at : Position) (part : Part) (b : Borrow) (e : Element) → b.mutability ≡ Mutable
      → Asks at part (shape.Slice (Some b) e) flag.MutableSlices
  owned_text_in_field : (part : Part) (e : StringEncoding)
      → Asks at.Field part (shape.Flat (flat.OwnedStr e)) flag.OwnedSlices
  owned_text_in_parameter : (part : Part) (e : StringEncoding)
      → Asks at.Param part (shape.Flat (flat.OwnedStr e)) flag.OwnedSlices
  owned_slice_in_field : (part : Part) (p : PrimitiveType)
      → Asks at.Field part (shape.Flat (flat.OwnedPrimitives p)) flag.OwnedSlices
  owned_slice_in_parameter : (part : Part) (p : PrimitiveType)
      → Asks at.Param part (shape.Flat (flat.OwnedPrimitives p)) flag.OwnedSlices
  bytes_returned : (part : Part) (p : PrimitiveType) → IsBytes p part
      → Asks at.Return part (shape.Flat (flat.OwnedPrimitives p)) flag.OwnedByteSliceReturns
  slice_of_opaques : (at : Position) (part : Part) (s : Option Borrow) (b : Borrow) (id : ℕ) (mark : Mutability)
      → ComesIn at → Asks at part (shape.Slice s (element.OpaqueReference b id mark)) flag.OpaqueSlices
  slice_of_optional_opaques : (at : Position) (part : Part) (s : Option Borrow) (b : Borrow) (id : ℕ) (d : StdlibOrDiplomat)
      → ComesIn at → Asks at part (shape.Slice s (element.OpaqueOption b id d)) flag.OpaqueSlices
  callback : (part : Part) → Asks at.Param part shape.Function flag.Callbacks
