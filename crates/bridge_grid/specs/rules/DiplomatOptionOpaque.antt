-- DiplomatOptionOpaque: an option of a pointer to an opaque is the standard library's, also as an element of a slice.
use Rattle.std.specs.Prelude.{ℕ, Option}
use Rattle.std.specs.Prelude.{◌≡◌}
use Rattle.bridge_decl.specs.declared.types.StdlibOrDiplomat.{StdlibOrDiplomat}
use Rattle.bridge_decl.specs.declared.types.StdlibOrDiplomat.TheVariants.{Diplomat}
use Rattle.hir_ids.specs.declared.owners.Borrow.{Borrow}
use Rattle.bridge_rules.specs.declared.position.Position.{Position}
use Rattle.bridge_rules.specs.declared.position.Position.TheVariants as at
use Rattle.bridge_rules.specs.declared.shape.Element.TheVariants as element
use Rattle.bridge_rules.specs.declared.shape.Shape.{Shape}
use Rattle.bridge_rules.specs.declared.shape.Shape.TheVariants as shape
use Rattle.bridge_grid.specs.declared.part.Part.{Part}
use Rattle.bridge_grid.specs.declared.part.Part.TheVariants.{Whole}

pub data DiplomatOptionOpaque : Position → Part → Shape → Type 0 where
  reference : (at : Position) (part : Part) (b : Borrow) (id : ℕ) (d : StdlibOrDiplomat) → d ≡ Diplomat
      → DiplomatOptionOpaque at part (shape.OptionOfReference b id d)
  element_reference : (at : Position) (part : Part) (s : Option Borrow) (b : Borrow) (id : ℕ) (d : StdlibOrDiplomat)
      → d ≡ Diplomat → DiplomatOptionOpaque at part (shape.Slice s (element.OpaqueOption b id d))
  box_to_callback : (part : Part) (id : ℕ) (d : StdlibOrDiplomat) → d ≡ Diplomat
      → DiplomatOptionOpaque at.CallbackParam part (shape.OptionOfBox id d)
  box_in_out_field : (part : Part) (id : ℕ) (d : StdlibOrDiplomat) → d ≡ Diplomat
      → DiplomatOptionOpaque at.OutField part (shape.OptionOfBox id d)
  box_returned : (part : Part) (id : ℕ) (d : StdlibOrDiplomat) → d ≡ Diplomat
      → DiplomatOptionOpaque at.Return part (shape.OptionOfBox id d)
  -- a callback may return neither spelling, and at the top Diplomat's is told as such
  box_from_callback : (part : Part) (id : ℕ) (d : StdlibOrDiplomat) → part ≡ Whole → d ≡ Diplomat
      → DiplomatOptionOpaque at.CallbackReturn part (shape.OptionOfBox id d)
