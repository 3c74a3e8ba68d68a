-- Which structs a struct contains: by value, in options or by reference. The elements of a slice
-- aren't contained in it, and no more is what is inside an opaque.
use Rattle.std.specs.Prelude.{List, [], ◌∷◌}
use Rattle.std.specs.List.{flat_map}
use Rattle.hir_ids.specs.declared.ids.TypeId.{TypeId}
use Rattle.hir_types.specs.declared.types.HirType.{HirType, fold-HirType}
use Rattle.hir_types.specs.declared.types.HirType.TheOpen.{HirType-F}
use Rattle.hir_definitions.specs.declared.definitions.StructField.{StructField}

-- over what a path to a struct names
module _ {P C O I S T : Type 0} (struct : S → TypeId) where
  -- the struct that the type is or that is inside its options
  abbrev pub contained_step : HirType-F P C O I S T (List TypeId) → List TypeId
  contained_step (HirType-F.Struct path) = struct path ∷ []
  contained_step (HirType-F.DiplomatOption inside) = inside
  contained_step _ = []

  abbrev pub contained_in_type : HirType P C O I S T → List TypeId
  contained_in_type t = fold-HirType _ _ _ _ _ _ (List TypeId) contained_step t

  -- the structs of all fields, in order
  abbrev pub contained_in : List (StructField P C O I S T) → List TypeId
  contained_in fields = flat_map (λ f. contained_in_type f.ty) fields
