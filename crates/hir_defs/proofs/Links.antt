-- What is linkable is there, with as many lifetimes.
use Rattle.std.proofs.Common.{◌≡◌, ◌<◌, ℕ, List, length, slice_get, Option, Some, None, option_map, refl, subst}
use Rattle.std.specs.Prelude.{IsSomeAnd}
use Rattle.std.proofs.lemmas.Option.{slice_get_within}
use Rattle.hir_life.specs.Environment.{Environment}
use Rattle.hir_life.specs.declared.maybe_static.MaybeStatic.{MaybeStatic}
use Rattle.hir_ids.specs.declared.ids.TypeId.TheVariants as type
use Rattle.hir_definitions.specs.declared.definitions.OpaqueDef.{OpaqueDef}
use Rattle.hir_context.specs.Lookups.{InputStruct, OutputStruct}
use Rattle.hir_context.specs.declared.parts.Definitions.{Definitions}
use Rattle.hir_defs.specs.Linking.{IsLinkable}

module _ {X Y : Type 0} (of : X → Y) where
  -- it is one of these
  pub is_there : (xs : List X) (place : ℕ) (P : Y → Type 0) → IsSomeAnd (option_map of (slice_get xs place)) P → place < length xs
  is_there xs place P h = found (slice_get xs place) refl h where
    found : (o : Option X) → slice_get xs place ≡ o → IsSomeAnd (option_map of o) P → place < length xs
    found None is h = absurd h
    found (Some x) is h = slice_get_within xs place x is

  -- what is asked of it holds of the one that was found
  pub holds_of : (o : Option X) (x : X) (P : Y → Type 0) → o ≡ Some x → IsSomeAnd (option_map of o) P → P (of x)
  holds_of None x P is h = absurd h
  holds_of (Some y) x P is h = let same : y ≡ x = cc in subst (λ z. P (of z)) same h

-- ---- the kinds

module _ (defs : Definitions) (place : ℕ) (given : List (MaybeStatic ℕ)) where
  abbrev fits : Environment → Type 0
  fits env = length given ≡ env.count

  pub opaque_in : IsLinkable defs (type.Opaque place) given → place < length defs.opaques.defs
  opaque_in h = is_there (λ def. def.lifetimes) defs.opaques.defs place fits h

  pub opaque_arity : (def : OpaqueDef) → slice_get defs.opaques.defs place ≡ Some def → IsLinkable defs (type.Opaque place) given → length given ≡ def.lifetimes.count
  opaque_arity def is h = holds_of (λ d. d.lifetimes) (slice_get defs.opaques.defs place) def fits is h

  pub struct_in : IsLinkable defs (type.Struct place) given → place < length defs.structs.defs
  struct_in h = is_there (λ def. def.lifetimes) defs.structs.defs place fits h

  pub struct_arity : (def : InputStruct) → slice_get defs.structs.defs place ≡ Some def → IsLinkable defs (type.Struct place) given → length given ≡ def.lifetimes.count
  struct_arity def is h = holds_of (λ d. d.lifetimes) (slice_get defs.structs.defs place) def fits is h

  pub out_in : IsLinkable defs (type.OutStruct place) given → place < length defs.out_structs.defs
  out_in h = is_there (λ def. def.lifetimes) defs.out_structs.defs place fits h

  pub out_arity : (def : OutputStruct) → slice_get defs.out_structs.defs place ≡ Some def → IsLinkable defs (type.OutStruct place) given → length given ≡ def.lifetimes.count
  out_arity def is h = holds_of (λ d. d.lifetimes) (slice_get defs.out_structs.defs place) def fits is h
