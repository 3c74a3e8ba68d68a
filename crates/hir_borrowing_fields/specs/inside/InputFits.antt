-- When types fit among definitions, as their skeletons tell. The example throughout is that of `Skeletons`:
--     pub struct Mark<'x, 'y> { page: &'x Page<'y>, line: u32 }
--     fn open<'a, 'b: 'a>(mark: DiplomatOption<Mark<'a, 'b>>) -> &'a Page<'b>
use Rattle.std.specs.Prelude.{⊤, ◌≡◌, ℕ, length, option_map, Some}
use Rattle.std.specs.List.{All}
use Rattle.hir_ids.specs.declared.ids.TypeId.{TypeId}
use Rattle.hir_definitions.specs.declared.methods.Method.{Method}
use Rattle.hir_context.specs.declared.parts.Definitions.{Definitions}
use Rattle.hir_skeleton.specs.Skeletons.{Skeleton, Nothing, Carrier, Struct, HasLifetimesBelow}
use Rattle.hir_context.specs.Lookups.{InputStruct}
use Rattle.hir_skeleton.specs.Lowered.{field_skeleton}
use Rattle.hir_skeleton.specs.Inputs.{input_struct, method_inputs}

-- there is a struct of this id, and it takes so many lifetimes: `Mark` takes two
abbrev pub TakesSoMany : Definitions → TypeId → ℕ → Type 0
TakesSoMany defs id n = option_map (λ def. def.lifetimes.count) (input_struct defs id) ≡ Some n

-- a struct that is named is there, and takes as many lifetimes as it is given: `Mark` is given two
abbrev pub NamesStruct : Definitions → Skeleton TypeId → Type 0
NamesStruct defs Nothing = ⊤
NamesStruct defs (Carrier lifetimes) = ⊤
NamesStruct defs (Struct id args) = TakesSoMany defs id (length args)

-- the same, and all lifetimes are among the first n: those of `mark` are among the two of `open`
abbrev pub SkeletonFits : Definitions → ℕ → Skeleton TypeId → Type 0
SkeletonFits defs n s = NamesStruct defs s × HasLifetimesBelow n s

-- each field of each struct fits, and its lifetimes are among those of the struct: those of `page` are among the two of `Mark`
abbrev pub FieldsFit : Definitions → Type 0
FieldsFit defs = (id : TypeId) (def : InputStruct) → input_struct defs id ≡ Some def
    → All (λ field. SkeletonFits defs def.lifetimes.count (field_skeleton field.ty)) def.fields

-- each input of a method fits, and its lifetimes are among those of the method
abbrev pub InputsFit : Definitions → Method → Type 0
InputsFit defs m = All (SkeletonFits defs m.lifetime_env.count) (method_inputs m)
