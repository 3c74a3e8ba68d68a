-- How returns use definitions. `Result<Line, Color>` is a result by `Line`, and then by `Color`.
use Rattle.std.specs.Prelude.{List, [], ◌∷◌, ◌++◌, Option}
use Rattle.hir_ids.specs.declared.ids.TypeId.{TypeId}
use Rattle.hir_types.specs.Returns.{type_in}
use Rattle.hir_types.specs.Types.{type_id}
use Rattle.hir_types.specs.declared.returns.ReturnType.{ReturnType}
use Rattle.hir_types.specs.declared.returns.ReturnType.TheVariants as returned
use Rattle.hir_types.specs.declared.returns.SuccessType.{SuccessType}
use Rattle.hir_types.specs.declared.types.HirType.{HirType}
use Rattle.hir_definitions.specs.declared.usage.ResultUsage.{ResultUsage}
use Rattle.hir_mentions.specs.Mentions.{where_any}
use Rattle.hir_usage.specs.Uses.{Used, InResult}

-- over which struct a path names
module _ {P C O I S T : Type 0} (struct : S → TypeId) where
  -- the result, as a use of the definition that this type names, where it names one
  abbrev pub result_usages : ResultUsage → HirType P C O I S T → List Used
  result_usages result t = where_any (λ id. InResult id result ∷ []) (type_id struct t)

-- over how a type uses definitions by itself, and how directly in an option, which struct a path names, and which result
-- a success and an error make
module _ {P C O I S T : Type 0} (of_type : HirType P C O I S T → List Used) (of_optioned : HirType P C O I S T → List Used) (struct : S → TypeId) (result_of : SuccessType P C O I S T → Option (HirType P C O I S T) → ResultUsage) where
  -- the types of the success and the error, and then the result by the one and by the other
  abbrev pub fallible_usages : SuccessType P C O I S T → Option (HirType P C O I S T) → List Used
  fallible_usages ok err =
      where_any of_type (type_in ok) ++ where_any of_type err
      ++ where_any (result_usages struct (result_of ok err)) (type_in ok)
      ++ where_any (result_usages struct (result_of ok err)) err

  -- a return: what may be nothing is in an option
  abbrev pub return_usages : ReturnType P C O I S T → List Used
  return_usages (returned.Infallible ok) = where_any of_type (type_in ok)
  return_usages (returned.Nullable ok) = where_any of_optioned (type_in ok)
  return_usages (returned.Fallible ok err) = fallible_usages ok err
