-- Where each type stands among all: at one place, that of its id.
use Rattle.std.proofs.Common.{◌≡◌, ℕ, ◌+◌, List, ◌++◌, length, map, slice_get, Some, refl, sym, ap, subst, ◌∙◌, arith, inl, inr, option_map}
use Rattle.std.specs.List.{enumerate_from}
use Rattle.hir_ids.specs.declared.ids.TypeId.{TypeId}
use Rattle.hir_ids.specs.declared.ids.TypeId.TheVariants as type
use Rattle.hir_context.specs.Iterating.{all_types, enum_entry, opaque_entry, out_struct_entry, struct_entry}
use Rattle.hir_context.specs.Lookups.{DefinedType, Struct, OutStruct, Opaque, Enum, defined_at}
use Rattle.hir_context.specs.declared.parts.Definitions.{Definitions}
use Rattle.hir_context.proofs.Places.{at_place, at_place_alone, at_rest, listed_alone, listed_at, made_of}

module _ (defs : Definitions) where
  -- the entries of all but structs, and of those of these that go on
  abbrev opaques_on : List (TypeId × DefinedType)
  opaques_on = map opaque_entry (enumerate_from 0 defs.opaques.defs) ++ map enum_entry (enumerate_from 0 defs.enums.defs)

  abbrev outs_on : List (TypeId × DefinedType)
  outs_on = map out_struct_entry (enumerate_from 0 defs.out_structs.defs) ++ opaques_on

  -- the place of an id
  abbrev pub type_place : TypeId → ℕ
  type_place (type.Struct place) = place
  type_place (type.OutStruct place) = length defs.structs.defs + place
  type_place (type.Opaque place) = length defs.structs.defs + (length defs.out_structs.defs + place)
  type_place (type.Enum place) = length defs.structs.defs + (length defs.out_structs.defs + (length defs.opaques.defs + place))

  -- the entry is that of a type, and stands at the place of its id
  abbrev pub Stands : ℕ → TypeId × DefinedType → Type 0
  Stands place entry = (defined_at defs entry.0 ≡ Some entry.1) × (type_place entry.0 ≡ place)

  enum_stands : (a b c place : ℕ) (entry : TypeId × DefinedType) → a ≡ length defs.structs.defs + b → b ≡ length defs.out_structs.defs + c
      → c ≡ length defs.opaques.defs + place → slice_get (map enum_entry (enumerate_from 0 defs.enums.defs)) place ≡ Some entry → Stands a entry
  enum_stands a b c place entry first second third at =
      let w = listed_alone enum_entry 0 defs.enums.defs place entry at in
      let is : entry ≡ (type.Enum place, Enum w.0) = w.2 place (omega arith) in
      let here : length defs.structs.defs + (length defs.out_structs.defs + (length defs.opaques.defs + place)) ≡ a = omega arith in
      subst (Stands a) (sym is) (ap (option_map Enum) w.1, here)

  opaque_stands : (a b place : ℕ) (entry : TypeId × DefinedType) → a ≡ length defs.structs.defs + b → b ≡ length defs.out_structs.defs + place
      → slice_get opaques_on place ≡ Some entry → Stands a entry
  opaque_stands a b place entry first second at =
      elim (listed_at opaque_entry 0 defs.opaques.defs (map enum_entry (enumerate_from 0 defs.enums.defs)) place entry at) [
        | inl w ↦
            let is : entry ≡ (type.Opaque place, Opaque w.0) = w.2 place (omega arith) in
            let here : length defs.structs.defs + (length defs.out_structs.defs + place) ≡ a = omega arith in
            subst (Stands a) (sym is) (ap (option_map Opaque) w.1, here)
        | inr w ↦ enum_stands a b place w.0 entry first second w.1 w.2
      ]

  out_stands : (a place : ℕ) (entry : TypeId × DefinedType) → a ≡ length defs.structs.defs + place → slice_get outs_on place ≡ Some entry → Stands a entry
  out_stands a place entry first at =
      elim (listed_at out_struct_entry 0 defs.out_structs.defs opaques_on place entry at) [
        | inl w ↦
            let is : entry ≡ (type.OutStruct place, OutStruct w.0) = w.2 place (omega arith) in
            subst (Stands a) (sym is) (ap (option_map OutStruct) w.1, sym first)
        | inr w ↦ opaque_stands a place w.0 entry first w.1 w.2
      ]

  pub stands : (place : ℕ) (entry : TypeId × DefinedType) → slice_get (all_types defs) place ≡ Some entry → Stands place entry
  stands place entry at =
      elim (listed_at struct_entry 0 defs.structs.defs outs_on place entry at) [
        | inl w ↦
            let is : entry ≡ (type.Struct place, Struct w.0) = w.2 place (omega arith) in
            subst (Stands place) (sym is) (ap (option_map Struct) w.1, refl)
        | inr w ↦ out_stands place w.0 entry w.1 w.2
      ]

  -- each type stands at the place of its id
  pub is_listed : (id : TypeId) (def : DefinedType) → defined_at defs id ≡ Some def → slice_get (all_types defs) (type_place id) ≡ Some (id, def)
  is_listed (type.Struct place) def at =
      let w = made_of Struct (slice_get defs.structs.defs place) def at in
      at_place struct_entry 0 defs.structs.defs outs_on place place w.0 (omega arith) w.1 ∙ ap (λ d. Some (type.Struct place, d)) w.2
  is_listed (type.OutStruct place) def at =
      let w = made_of OutStruct (slice_get defs.out_structs.defs place) def at in
      at_rest struct_entry 0 defs.structs.defs outs_on (type_place (type.OutStruct place)) place refl
      ∙ at_place out_struct_entry 0 defs.out_structs.defs opaques_on place place w.0 (omega arith) w.1 ∙ ap (λ d. Some (type.OutStruct place, d)) w.2
  is_listed (type.Opaque place) def at =
      let w = made_of Opaque (slice_get defs.opaques.defs place) def at in
      at_rest struct_entry 0 defs.structs.defs outs_on (type_place (type.Opaque place)) (length defs.out_structs.defs + place) refl
      ∙ at_rest out_struct_entry 0 defs.out_structs.defs opaques_on (length defs.out_structs.defs + place) place refl
      ∙ at_place opaque_entry 0 defs.opaques.defs (map enum_entry (enumerate_from 0 defs.enums.defs)) place place w.0 (omega arith) w.1
      ∙ ap (λ d. Some (type.Opaque place, d)) w.2
  is_listed (type.Enum place) def at =
      let w = made_of Enum (slice_get defs.enums.defs place) def at in
      at_rest struct_entry 0 defs.structs.defs outs_on (type_place (type.Enum place)) (length defs.out_structs.defs + (length defs.opaques.defs + place)) refl
      ∙ at_rest out_struct_entry 0 defs.out_structs.defs opaques_on (length defs.out_structs.defs + (length defs.opaques.defs + place)) (length defs.opaques.defs + place) refl
      ∙ at_rest opaque_entry 0 defs.opaques.defs (map enum_entry (enumerate_from 0 defs.enums.defs)) (length defs.opaques.defs + place) place refl
      ∙ at_place_alone enum_entry 0 defs.enums.defs place place w.0 (omega arith) w.1 ∙ ap (λ d. Some (type.Enum place, d)) w.2
