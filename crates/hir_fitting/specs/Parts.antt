-- The parts of definitions: what each names, and how many lifetimes are in the environment of its
-- names. The methods of a trait, and what is kept beside definitions, keep no environment.
use Rattle.std.specs.Prelude.{ℕ, List, [], ◌∷◌, ◌++◌, map, Option, Some, None}
use Rattle.std.specs.List.{All, Any}
use Rattle.hir_ids.specs.declared.ids.SymbolId.{SymbolId}
use Rattle.hir_types.specs.declared.types.HirType.{HirType}
use Rattle.hir_definitions.specs.declared.definitions.EnumDef.{EnumDef}
use Rattle.hir_definitions.specs.declared.definitions.OpaqueDef.{OpaqueDef}
use Rattle.hir_definitions.specs.declared.definitions.StructDef.{StructDef}
use Rattle.hir_definitions.specs.declared.definitions.TraitDef.{TraitDef}
use Rattle.hir_definitions.specs.declared.methods.Method.{Method}
use Rattle.hir_definitions.specs.declared.special.SpecialMethodPresence.{SpecialMethodPresence}
use Rattle.hir_definitions.specs.declared.usage.TypingUseInfo.{TypingUseInfo}
use Rattle.hir_mentions.specs.Callbacks.{method_mentions}
use Rattle.hir_mentions.specs.Definitions.{fields_mentions, special_mentions, trait_mentions, usage_mentions}
use Rattle.hir_mentions.specs.Mentions.{Mentioned}
use Rattle.hir_fitting.specs.Fitting.{Fits, Misfits}
use Rattle.hir_fitting.specs.declared.census.Census.{Census}

-- a part of a definition
pub record Part : Type 0 where
  -- how many lifetimes its environment has, where it keeps one
  pub lifetimes : Option ℕ
  -- what it names
  pub mentions : List Mentioned

-- what is named in an environment of so many lifetimes
abbrev pub bound : ℕ → List Mentioned → Part
bound count mentions = record { lifetimes = Some count; mentions = mentions }

-- what is named in no environment
abbrev pub free : List Mentioned → Part
free mentions = record { lifetimes = None; mentions = mentions }

-- a method or a function, with the lifetimes of its signature
abbrev pub method_part : Method → Part
method_part m = bound m.lifetime_env.count (method_mentions m)

-- what each type has: its methods, and what is kept beside it
abbrev pub parts_of_type : List Method → SpecialMethodPresence → TypingUseInfo → List Part
parts_of_type methods special usage = map method_part methods ++ free (special_mentions special) ∷ free (usage_mentions usage) ∷ []

-- over what a type names
module _ {P C O I S T : Type 0} (of_type : HirType P C O I S T → List Mentioned) where
  -- the fields of a struct, with its own lifetimes
  abbrev pub fields_part : StructDef P C O I S T → Part
  fields_part def = bound def.lifetimes.count (fields_mentions of_type def.fields)

  -- a struct of either kind: its fields, and what each type has
  abbrev pub parts_of_struct : StructDef P C O I S T → List Part
  parts_of_struct def = fields_part def ∷ parts_of_type def.methods def.special_method_presence def.usage

-- an opaque: what each type has
abbrev pub parts_of_opaque : OpaqueDef → List Part
parts_of_opaque def = parts_of_type def.methods def.special_method_presence def.usage

-- an enum: what each type has
abbrev pub parts_of_enum : EnumDef → List Part
parts_of_enum def = parts_of_type def.methods def.special_method_presence def.usage

-- a trait: its methods, and how it is used
abbrev pub parts_of_trait : TraitDef → List Part
parts_of_trait def = free (trait_mentions def) ∷ free (usage_mentions def.usage) ∷ []

-- a function: as a method
abbrev pub parts_of_function : Method → List Part
parts_of_function m = method_part m ∷ []

-- each mention of the part fits
abbrev pub PartFits : Census → Part → Type 0
PartFits census part = All (Fits census part.lifetimes) part.mentions

-- some mention of the part doesn't fit, and what is told of it is `named`
abbrev pub PartMisfits : Census → SymbolId → Part → SymbolId → Type 0
PartMisfits census holder part named = Any (λ m. Misfits census part.lifetimes holder m named) part.mentions

-- each part fits
abbrev pub DefinitionFits : Census → List Part → Type 0
DefinitionFits census parts = All (PartFits census) parts

-- some part of the definition `holder` doesn't fit, and what is told of it is `named`
abbrev pub DefinitionMisfits : Census → SymbolId → List Part → SymbolId → Type 0
DefinitionMisfits census holder parts named = Any (λ part. PartMisfits census holder part named) parts
