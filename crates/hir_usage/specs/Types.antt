-- How types use definitions, in order: what stands inside before what it stands in. Of
-- `&'p [Option<&'p Page>]` at an input, `Page` is in an option, and then it is sliced.
use Rattle.std.specs.Prelude.{List, [], ◌∷◌, ◌++◌, Option, Some, Bool, true, false}
use Rattle.std.specs.Option.{is_none}
use Rattle.hir_ids.specs.declared.ids.TypeId.{TypeId}
use Rattle.hir_ids.specs.declared.ids.TypeId.TheVariants as type
use Rattle.hir_ids.specs.declared.owners.Borrow.{Borrow as Loan}
use Rattle.hir_ids.specs.declared.owners.InputOrOutput.{InputOrOutput}
use Rattle.hir_ids.specs.declared.owners.Optional.{Optional}
use Rattle.hir_types.specs.declared.paths.OpaquePath.{OpaquePath}
use Rattle.hir_types.specs.declared.slices.Slice.{Slice}
use Rattle.hir_types.specs.declared.slices.Slice.TheVariants as slice
use Rattle.hir_types.specs.declared.types.HirType.{HirType, fold-HirType}
use Rattle.hir_types.specs.declared.types.HirType.TheOpen.{HirType-F}
use Rattle.hir_usage.specs.Uses.{Used, Sliced, optioned_where, is_optioned}

-- over whether the position is one of inputs, and by which borrow an opaque is held
module _ {O : Type 0} (status : InputOrOutput) (borrow : O → Option Loan) where
  -- an opaque by itself
  abbrev pub opaque_usages : OpaquePath Optional O → List Used
  opaque_usages path =
      optioned_where (is_optioned status path.optional.0 (is_none (borrow path.owner))) (type.Opaque path.tcx_id)

-- over whether the position is one of inputs, and which struct a path names
module _ {P C O I S T : Type 0} (status : InputOrOutput) (struct : S → TypeId) where
  -- a slice: an element that is an opaque by itself, and then that the element is sliced
  abbrev pub slice_usages : Slice P C O I S T → List Used
  slice_usages (slice.Str _ _) = []
  slice_usages (slice.Primitive _ _) = []
  slice_usages (slice.Strs _) = []
  slice_usages (slice.Struct _ path) = Sliced (struct path) ∷ []
  slice_usages (slice.Enum _ path) = Sliced (type.Enum path.tcx_id) ∷ []
  slice_usages (slice.Opaque _ path) = opaque_usages status Some path ++ Sliced (type.Opaque path.tcx_id) ∷ []

-- over whether the position is one of inputs, by which borrow an opaque is held, which struct a path names, and how a
-- callback uses definitions
module _ {P C O I S T : Type 0} (status : InputOrOutput) (borrow : O → Option Loan) (struct : S → TypeId) (of_callback : C → List Used) where
  -- a type, by whether it stands directly in an option, from what is inside an option by the same
  abbrev pub uses_step : HirType-F P C O I S T (Bool → List Used) → Bool → List Used
  uses_step (HirType-F.Primitive _) in_option = []
  uses_step (HirType-F.Opaque path) in_option =
      opaque_usages status borrow path ++ optioned_where in_option (type.Opaque path.tcx_id)
  uses_step (HirType-F.Struct path) in_option = optioned_where in_option (struct path)
  uses_step (HirType-F.ImplTrait _) in_option = []
  uses_step (HirType-F.Enum path) in_option = optioned_where in_option (type.Enum path.tcx_id)
  uses_step (HirType-F.Slice s) in_option = slice_usages status struct s
  uses_step (HirType-F.Callback callback) in_option = of_callback callback
  uses_step (HirType-F.DiplomatOption inside) in_option = inside true

  abbrev pub uses_within : HirType P C O I S T → Bool → List Used
  uses_within t = fold-HirType _ _ _ _ _ _ (Bool → List Used) uses_step t

  -- a type by itself
  abbrev pub type_usages : HirType P C O I S T → List Used
  type_usages t = uses_within t false

  -- a type directly in an option
  abbrev pub optioned_usages : HirType P C O I S T → List Used
  optioned_usages t = uses_within t true
