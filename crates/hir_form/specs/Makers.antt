-- What differs by the position: how an opaque is held, and which structs and traits there are.
use Rattle.std.specs.Prelude.{Bool, true, false, Option, Some, None}
use Rattle.hir_ids.specs.declared.owners.Borrow.{Borrow}
use Rattle.hir_ids.specs.declared.owners.MaybeOwn.{MaybeOwn}
use Rattle.hir_ids.specs.declared.owners.MaybeOwn.TheVariants as owner
use Rattle.hir_types.specs.declared.paths.ReturnableStructPath.{ReturnableStructPath}
use Rattle.hir_types.specs.declared.paths.ReturnableStructPath.TheVariants as returnable
use Rattle.hir_types.specs.declared.paths.NoTraitPath.{NoTraitPath}
use Rattle.hir_types.specs.declared.paths.StructPath.{StructPath}
use Rattle.hir_types.specs.declared.paths.TraitPath.{TraitPath}

-- what a position makes of a borrow, of a box, of the path of a struct, which may be one that only comes out, and of the
-- path of a trait
pub record Makers (O S T : Type 0) : Type 0 where
  pub borrowed : Borrow → O
  pub boxed : Option O
  pub named : Bool → StructPath → Option S
  pub implementing : TraitPath → Option T

-- a struct that only comes out doesn't come in
abbrev pub struct_coming_in : Bool → StructPath → Option StructPath
struct_coming_in true path = None
struct_coming_in false path = Some path

abbrev pub struct_going_out : Bool → StructPath → Option ReturnableStructPath
struct_going_out true path = Some (returnable.OutStruct (record { lifetimes = path.lifetimes; tcx_id = path.tcx_id; owner = path.owner }))
struct_going_out false path = Some (returnable.Struct path)

-- what comes in: an opaque is borrowed, and traits there are or there are none
abbrev pub coming_in : {T : Type 0} → (TraitPath → Option T) → Makers Borrow StructPath T
coming_in implementing = record { borrowed = λ b. b; boxed = None; named = struct_coming_in; implementing = implementing }

-- the fields of structs, which go either way
abbrev pub of_fields : Makers Borrow StructPath NoTraitPath
of_fields = coming_in (λ _. None)

-- the parameters of methods, and what callbacks return
abbrev pub of_inputs : Makers Borrow StructPath TraitPath
of_inputs = coming_in (λ path. Some path)

-- what goes out: an opaque may be in a box
abbrev pub of_outputs : Makers MaybeOwn ReturnableStructPath NoTraitPath
of_outputs = record { borrowed = λ b. owner.Borrow b; boxed = Some owner.Own; named = struct_going_out; implementing = λ _. None }
