-- What is told of a type at itself is what breaks a rule.
use Rattle.std.proofs.Common.{◌≡◌, ◌⊎◌, inl, inr, ℕ, List, [], ◌∷◌, Bool, true, Some, slice_get, refl, sym, subst, ap, ◌∙◌}
use Rattle.std.specs.Prelude.{◌||◌, is_some, option_map}
use Rattle.std.specs.List.{Contains, flat_map, list_any}
use Rattle.bridge_telling.specs.Telling.{TellsExactly, one_if}
use Rattle.bridge_telling.proofs.ExactLemmas.{exactly_as, exactly_both, exactly_each, exactly_if, exactly_none, in_first, in_none}
use Rattle.bridge_telling.proofs.TestLemmas.{and_parts, false_of_not, not_of_false, or_cases, or_first, or_second, parts_and, passes_some, some_passes}
use Rattle.hir_attrs.specs.Reading.{about}
use Rattle.hir_context.proofs.Places.{made_of}
use Rattle.hir_context.specs.Lookups.{DefinedType, InputStruct, defined_at}
use Rattle.hir_context.specs.Lookups as defined
use Rattle.hir_context.specs.declared.parts.Definitions.{Definitions}
use Rattle.hir_ids.specs.declared.ids.TypeId.{TypeId}
use Rattle.hir_ids.specs.declared.ids.TypeId.TheVariants as type
use Rattle.hir_ids.specs.declared.owners.Borrow.{Borrow}
use Rattle.hir_ids.specs.declared.owners.MaybeOwn.{MaybeOwn}
use Rattle.hir_ids.specs.declared.owners.MaybeOwn.TheVariants as owner
use Rattle.hir_life.specs.declared.bounds.BoundedLifetime.{BoundedLifetime}
use Rattle.hir_life.specs.declared.maybe_static.MaybeStatic.{MaybeStatic}
use Rattle.hir_reports.specs.declared.report.LoweringError.{LoweringError}
use Rattle.hir_reports.specs.declared.rule.Rule.TheVariants as rule
use Rattle.hir_validation.specs.Structs.{LoweredField, breaks_layout, field_errors, field_type_errors, is_compatible, is_lent_struct, has_broken_layout, keeps_layout, layout_errors, type_errors}
use Rattle.hir_validation.specs.LoweredTypeBreaks.{FieldBreaks, LoweredTypeBreaks}
use Rattle.hir_validation.specs.Visited.{is_borrowed, visited_errors}
use Rattle.hir_validation.specs.VisitedBreaks.{VisitedBreaks}
use Rattle.hir_validation.specs.WholeTypes.{Whole, Primitive, Enum, Opaque, Struct, Slice, Callback, Other, field_whole}
use Rattle.hir_validation.specs.rules.AbiLayout.{AbiLayout, KeepsLayout}
use Rattle.hir_validation.specs.rules.FieldBorrow.{FieldBorrow}
use Rattle.hir_validation.proofs.ExactlyLemmas.{false_isnt, isnt, of_such, such_of}
use Rattle.hir_validation.proofs.VisitedLemmas.{visited_exactly}

-- ---- layout

module _ (defs : Definitions) where
  compatible_of : (id : TypeId) (held : MaybeOwn) (given : List (MaybeStatic ℕ)) (def : DefinedType) → defined_at defs id ≡ Some def → is_compatible def ≡ true
      → KeepsLayout defs (Struct id held given)
  compatible_of (type.Struct number) held given def found marked =
      let at = made_of defined.Struct (slice_get defs.structs.defs number) def found in
      KeepsLayout.struct number held given at.0 at.1 (ap is_compatible at.2 ∙ marked)
  compatible_of (type.OutStruct number) held given def found marked =
      let at = made_of defined.OutStruct (slice_get defs.out_structs.defs number) def found in
      absurd (false_isnt (is_compatible (defined.OutStruct at.0)) refl (ap is_compatible at.2 ∙ marked))
  compatible_of (type.Opaque number) held given def found marked =
      let at = made_of defined.Opaque (slice_get defs.opaques.defs number) def found in
      absurd (false_isnt (is_compatible (defined.Opaque at.0)) refl (ap is_compatible at.2 ∙ marked))
  compatible_of (type.Enum number) held given def found marked =
      let at = made_of defined.Enum (slice_get defs.enums.defs number) def found in
      absurd (false_isnt (is_compatible (defined.Enum at.0)) refl (ap is_compatible at.2 ∙ marked))

  keeps_of : (ty : Whole) → keeps_layout defs ty ≡ true → KeepsLayout defs ty
  keeps_of Primitive h = KeepsLayout.primitive
  keeps_of (Enum number) h = KeepsLayout.enum number
  keeps_of (Struct id held given) h = let at = such_of is_compatible (defined_at defs id) h in compatible_of id held given at.0 at.1.0 at.1.1
  keeps_of (Opaque number borrow given) h = cc
  keeps_of (Slice element) h = cc
  keeps_of (Callback output) h = cc
  keeps_of Other h = cc

  of_keeps : (ty : Whole) → KeepsLayout defs ty → keeps_layout defs ty ≡ true
  of_keeps _ KeepsLayout.primitive = refl
  of_keeps _ (KeepsLayout.enum number) = refl
  of_keeps _ (KeepsLayout.struct number held given def found marked) =
      of_such is_compatible (defined_at defs (type.Struct number)) (defined.Struct def) (ap (option_map defined.Struct) found) marked

  some_bound : (bounds : List BoundedLifetime) → is_some (slice_get bounds 0) ≡ true → (l : BoundedLifetime) × Contains bounds l
  some_bound [] h = cc
  some_bound (l ∷ bounds) h = (l, in_first l bounds)

  of_bound : (bounds : List BoundedLifetime) (l : BoundedLifetime) → Contains bounds l → is_some (slice_get bounds 0) ≡ true
  of_bound [] l h = absurd (in_none l h)
  of_bound (b ∷ bounds) l h = refl

  module _ (def : InputStruct) where
    abbrev has_lifetime : Bool
    has_lifetime = is_some (slice_get def.lifetimes.bounds 0)

    abbrev has_misfit : Bool
    has_misfit = list_any (breaks_layout defs) def.fields

    layout_of : has_broken_layout defs def ≡ true → AbiLayout defs def
    layout_of h =
        let parts = and_parts def.attrs.abi_compatible (has_lifetime || has_misfit) h in
        elim (or_cases has_lifetime has_misfit parts.1) [
          | inl l ↦ let one = some_bound def.lifetimes.bounds l in AbiLayout.lifetime parts.0 one.0 one.1
          | inr m ↦
              let one = some_passes (breaks_layout defs) def.fields m in
              let ty = field_whole one.0.ty in
              AbiLayout.field parts.0 one.0 one.1.0 (λ k. false_isnt (keeps_layout defs ty) (false_of_not (keeps_layout defs ty) one.1.1) (of_keeps ty k))
        ]

    of_layout : AbiLayout defs def → has_broken_layout defs def ≡ true
    of_layout (AbiLayout.lifetime marked l has) =
        parts_and def.attrs.abi_compatible (has_lifetime || has_misfit) marked (or_first has_lifetime has_misfit (of_bound def.lifetimes.bounds l has))
    of_layout (AbiLayout.field marked f has breaks) =
        let ty = field_whole f.ty in
        parts_and def.attrs.abi_compatible (has_lifetime || has_misfit) marked
        (or_second has_lifetime has_misfit (passes_some (breaks_layout defs) def.fields f has (not_of_false (keeps_layout defs ty) (isnt (keeps_layout defs ty) (λ t. breaks (keeps_of ty t))))))

-- ---- fields

borrowed_of : (held : MaybeOwn) → is_borrowed held ≡ true → (b : Borrow) × (held ≡ owner.Borrow b)
borrowed_of owner.Own h = cc
borrowed_of (owner.Borrow b) h = (b, refl)

lent_of : (ty : Whole) → is_lent_struct ty ≡ true → FieldBorrow ty
lent_of (Struct id held given) h =
    let b = borrowed_of held h in
    record { id = id; borrow = b.0; given = given; is_reference = ap (λ (m : MaybeOwn). Struct id m given) b.1 }
lent_of Primitive h = cc
lent_of (Enum number) h = cc
lent_of (Opaque number borrow given) h = cc
lent_of (Slice element) h = cc
lent_of (Callback output) h = cc
lent_of Other h = cc

of_lent : (ty : Whole) → FieldBorrow ty → is_lent_struct ty ≡ true
of_lent ty b = ap is_lent_struct b.is_reference

module _ (must_fail : Bool) (defs : Definitions) where
  module _ (name : List ℕ) (ty : Whole) where
    abbrev OfField : LoweringError → Type 0
    OfField e = VisitedBreaks must_fail defs ty e ⊎ ((is_lent_struct ty ≡ true) × (e ≡ about rule.FieldBorrow name))

    field_breaks : (e : LoweringError) → OfField e → FieldBreaks must_fail defs name ty e
    field_breaks e h = elim h [
      | inl v ↦ FieldBreaks.visited e v
      | inr b ↦ subst (FieldBreaks must_fail defs name ty) (sym b.1) (FieldBreaks.field_borrow (lent_of ty b.0))
    ]

    of_field_breaks : (e : LoweringError) → FieldBreaks must_fail defs name ty e → OfField e
    of_field_breaks e (FieldBreaks.visited _ v) = inl v
    of_field_breaks _ (FieldBreaks.field_borrow b) = inr (of_lent ty b, refl)

    field_exactly : TellsExactly (field_type_errors must_fail defs name ty) (FieldBreaks must_fail defs name ty)
    field_exactly =
        exactly_as (field_type_errors must_fail defs name ty) OfField (FieldBreaks must_fail defs name ty) (λ e. (λ h. field_breaks e h, λ b. of_field_breaks e b))
        (exactly_both (visited_errors must_fail defs ty) (one_if (is_lent_struct ty) (about rule.FieldBorrow name)) (VisitedBreaks must_fail defs ty)
        (λ e. (is_lent_struct ty ≡ true) × (e ≡ about rule.FieldBorrow name)) (visited_exactly must_fail defs ty)
        (exactly_if (is_lent_struct ty) (about rule.FieldBorrow name)))

  -- ---- types

  abbrev OneField : LoweredField → LoweringError → Type 0
  OneField f e = FieldBreaks must_fail defs f.name (field_whole f.ty) e

  abbrev OfType : DefinedType → LoweringError → Type 0
  OfType (defined.Struct def) e =
      ((has_broken_layout defs def ≡ true) × (e ≡ about rule.AbiLayout def.name.0)) ⊎ ((f : LoweredField) × (Contains def.fields f × OneField f e))
  OfType (defined.OutStruct def) e = ⊥
  OfType (defined.Opaque def) e = ⊥
  OfType (defined.Enum def) e = ⊥

  told_exactly : (def : DefinedType) → TellsExactly (type_errors must_fail defs def) (OfType def)
  unfolding type_errors
  told_exactly (defined.Struct def) =
      exactly_both (layout_errors defs def) (flat_map (field_errors must_fail defs) def.fields) (λ e. (has_broken_layout defs def ≡ true) × (e ≡ about rule.AbiLayout def.name.0))
      (λ e. (f : LoweredField) × (Contains def.fields f × OneField f e)) (exactly_if (has_broken_layout defs def) (about rule.AbiLayout def.name.0))
      (exactly_each (field_errors must_fail defs) OneField (λ f. field_exactly f.name (field_whole f.ty)) def.fields)
  told_exactly (defined.OutStruct def) = exactly_none
  told_exactly (defined.Opaque def) = exactly_none
  told_exactly (defined.Enum def) = exactly_none

  breaks_of : (def : DefinedType) (e : LoweringError) → OfType def e → LoweredTypeBreaks must_fail defs def e
  breaks_of (defined.Struct def) e h = elim h [
    | inl l ↦ subst (LoweredTypeBreaks must_fail defs (defined.Struct def)) (sym l.1) (LoweredTypeBreaks.abi_layout def (layout_of defs def l.0))
    | inr f ↦ LoweredTypeBreaks.field def f.0 e f.1.0 f.1.1
  ]
  breaks_of (defined.OutStruct def) e h = absurd h
  breaks_of (defined.Opaque def) e h = absurd h
  breaks_of (defined.Enum def) e h = absurd h

  of_breaks : (def : DefinedType) (e : LoweringError) → LoweredTypeBreaks must_fail defs def e → OfType def e
  of_breaks _ _ (LoweredTypeBreaks.abi_layout def b) = inl (of_layout defs def b, refl)
  of_breaks _ _ (LoweredTypeBreaks.field def f e has b) = inr (f, (has, b))

  pub type_exactly : (def : DefinedType) → TellsExactly (type_errors must_fail defs def) (LoweredTypeBreaks must_fail defs def)
  type_exactly def =
      exactly_as (type_errors must_fail defs def) (OfType def) (LoweredTypeBreaks must_fail defs def) (λ e. (λ h. breaks_of def e h, λ b. of_breaks def e b)) (told_exactly def)
