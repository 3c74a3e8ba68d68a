-- What the parts of definitions name.
use Rattle.std.specs.Prelude.{ℕ, List, [], ◌∷◌, ◌++◌}
use Rattle.std.specs.List.{flat_map}
use Rattle.hir_ids.specs.declared.ids.SymbolId.TheVariants as symbol
use Rattle.hir_ids.specs.declared.ids.TypeId.TheVariants as type
use Rattle.hir_types.specs.Returns.{type_in}
use Rattle.hir_types.specs.declared.types.HirType.{HirType}
use Rattle.hir_definitions.specs.declared.definitions.StructField.{StructField}
use Rattle.hir_definitions.specs.declared.definitions.TraitDef.{TraitDef}
use Rattle.hir_definitions.specs.declared.special.SpecialMethodPresence.{SpecialMethodPresence}
use Rattle.hir_definitions.specs.declared.usage.ResultUsage.{ResultUsage}
use Rattle.hir_definitions.specs.declared.usage.ResultUsage.TheVariants as usage
use Rattle.hir_definitions.specs.declared.usage.TypingUseInfo.{TypingUseInfo}
use Rattle.hir_mentions.specs.Mentions.{Mentioned, Plain, where_any}
use Rattle.hir_mentions.specs.Callbacks.{output_mentions, callback_return_mentions, callback_mentions}

-- over what a type names
module _ {P C O I S T : Type 0} (of_type : HirType P C O I S T → List Mentioned) where
  -- fields, in order
  abbrev pub fields_mentions : List (StructField P C O I S T) → List Mentioned
  fields_mentions fields = flat_map (λ f. of_type f.ty) fields

-- the methods of a trait, in order
abbrev pub trait_mentions : TraitDef → List Mentioned
trait_mentions def = flat_map callback_mentions def.methods

-- a result that a type is used in: its success and its error
abbrev pub result_mentions : ResultUsage → List Mentioned
result_mentions (usage.Input info) =
    where_any callback_return_mentions (type_in info.ok) ++ where_any callback_return_mentions info.err
result_mentions (usage.Output info) = where_any output_mentions (type_in info.ok) ++ where_any output_mentions info.err

-- how a type is used: the results that it is in, in order
abbrev pub usage_mentions : TypingUseInfo → List Mentioned
usage_mentions info = flat_map result_mentions info.results

-- an opaque that is kept without a path
abbrev pub opaque_alone : ℕ → List Mentioned
opaque_alone id = Plain (symbol.TypeId (type.Opaque id)) ∷ []

-- methods that are more than methods: what one gives that steps through values, and the opaque that one gives and that does
abbrev pub special_mentions : SpecialMethodPresence → List Mentioned
special_mentions p =
    where_any (λ s. where_any output_mentions (type_in s)) p.iterator ++ where_any opaque_alone p.iterable
