-- What types, paths and returns name, in order: a path before the reference that it is behind, and
-- the elements of a slice before the slice. In `&'p Page<'a>` it is `Page` with 'a, and then 'p.
use Rattle.std.specs.Prelude.{ℕ, List, [], ◌∷◌, ◌++◌, Option}
use Rattle.hir_life.specs.declared.maybe_static.MaybeStatic.{MaybeStatic}
use Rattle.hir_ids.specs.declared.ids.SymbolId.TheVariants as symbol
use Rattle.hir_ids.specs.declared.ids.TypeId.TheVariants as type
use Rattle.hir_ids.specs.declared.owners.Borrow.{Borrow as Loan}
use Rattle.hir_types.specs.Returns.{error_of, success_of, type_in}
use Rattle.hir_types.specs.declared.paths.OutStructPath.{OutStructPath}
use Rattle.hir_types.specs.declared.paths.ReturnableStructPath.{ReturnableStructPath}
use Rattle.hir_types.specs.declared.paths.ReturnableStructPath.TheVariants as returnable
use Rattle.hir_types.specs.declared.paths.StructPath.{StructPath}
use Rattle.hir_types.specs.declared.paths.TraitPath.{TraitPath}
use Rattle.hir_types.specs.declared.returns.ReturnType.{ReturnType}
use Rattle.hir_types.specs.declared.self_types.SelfType.{SelfType}
use Rattle.hir_types.specs.declared.self_types.SelfType.TheVariants as receiver
use Rattle.hir_types.specs.declared.slices.Slice.{Slice}
use Rattle.hir_types.specs.declared.slices.Slice.TheVariants as slice
use Rattle.hir_types.specs.declared.types.HirType.{HirType, fold-HirType}
use Rattle.hir_types.specs.declared.types.HirType.TheOpen.{HirType-F}
use Rattle.hir_mentions.specs.Mentions.{Mentioned, Path, Borrow, where_any, borrow_mentions, owner_mentions, opaque_mention, enum_mention}

-- a path to a struct
abbrev pub struct_path_mentions : StructPath → List Mentioned
struct_path_mentions path = Path (symbol.TypeId (type.Struct path.tcx_id)) path.lifetimes ∷ owner_mentions path.owner

-- a path to a struct that is only returned
abbrev pub out_path_mentions : OutStructPath → List Mentioned
out_path_mentions path = Path (symbol.TypeId (type.OutStruct path.tcx_id)) path.lifetimes ∷ owner_mentions path.owner

-- a path to a struct of either kind
abbrev pub returnable_mentions : ReturnableStructPath → List Mentioned
returnable_mentions (returnable.Struct path) = struct_path_mentions path
returnable_mentions (returnable.OutStruct path) = out_path_mentions path

-- a path to a trait
abbrev pub trait_path_mentions : TraitPath → List Mentioned
trait_path_mentions path = Path (symbol.TraitId path.tcx_id) path.lifetimes ∷ []

-- a receiver
abbrev pub receiver_mentions : SelfType → List Mentioned
receiver_mentions (receiver.Opaque path) =
    opaque_mention path.tcx_id path.lifetimes ∷ borrow_mentions path.owner
receiver_mentions (receiver.Struct path) = struct_path_mentions path
receiver_mentions (receiver.Enum path) = enum_mention path.tcx_id ∷ []

-- the lifetime of a text
abbrev pub text_mentions : MaybeStatic ℕ → List Mentioned
text_mentions lifetime = Borrow lifetime ∷ []

-- over what a path to a struct names
module _ {P C O I S T : Type 0} (of_struct : S → List Mentioned) where
  abbrev pub slice_mentions : Slice P C O I S T → List Mentioned
  slice_mentions (slice.Str lifetime _) = where_any text_mentions lifetime
  slice_mentions (slice.Primitive owner _) = owner_mentions owner
  slice_mentions (slice.Strs _) = []
  slice_mentions (slice.Struct owner path) = of_struct path ++ owner_mentions owner
  slice_mentions (slice.Enum owner path) = enum_mention path.tcx_id ∷ owner_mentions owner
  slice_mentions (slice.Opaque owner path) =
      opaque_mention path.tcx_id path.lifetimes ∷ borrow_mentions path.owner ++ owner_mentions owner

-- over how an opaque is borrowed, and what a path to a struct, one to a trait and a callback name
module _ {P C O I S T : Type 0} (borrow : O → Option Loan) (of_struct : S → List Mentioned) (of_trait : T → List Mentioned) (of_callback : C → List Mentioned) where
  -- a type, from what is inside an option
  abbrev pub mentions_step : HirType-F P C O I S T (List Mentioned) → List Mentioned
  mentions_step (HirType-F.Primitive _) = []
  mentions_step (HirType-F.Opaque path) =
      opaque_mention path.tcx_id path.lifetimes ∷ where_any borrow_mentions (borrow path.owner)
  mentions_step (HirType-F.Struct path) = of_struct path
  mentions_step (HirType-F.ImplTrait path) = of_trait path
  mentions_step (HirType-F.Enum path) = enum_mention path.tcx_id ∷ []
  mentions_step (HirType-F.Slice s) = slice_mentions of_struct s
  mentions_step (HirType-F.Callback callback) = of_callback callback
  mentions_step (HirType-F.DiplomatOption inside) = inside

  abbrev pub type_mentions : HirType P C O I S T → List Mentioned
  type_mentions t = fold-HirType _ _ _ _ _ _ (List Mentioned) mentions_step t

-- the type of the success and then that of the error, over what a type names
module _ {P C O I S T : Type 0} (of_type : HirType P C O I S T → List Mentioned) where
  abbrev pub return_mentions : ReturnType P C O I S T → List Mentioned
  return_mentions r = where_any of_type (type_in (success_of r)) ++ where_any of_type (error_of r)
