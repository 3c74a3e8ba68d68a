-- What is told of a visited type is what breaks a rule.
use Rattle.std.proofs.Common.{◌≡◌, ◌⊎◌, inl, inr, ℕ, List, Bool, true, false, Option, Some, None, option_map, slice_get, refl, sym, subst, ap, ◌∙◌}
use Rattle.std.specs.Prelude.{◌&&◌, not, option_and_then}
use Rattle.bridge_decl.specs.declared.types.Mutability.{Mutability}
use Rattle.bridge_decl.specs.declared.types.Mutability.TheVariants.{Mutable, Immutable}
use Rattle.bridge_telling.specs.Telling.{TellsExactly, one_if}
use Rattle.bridge_telling.proofs.ExactLemmas.{exactly_as, exactly_both, exactly_if, exactly_none, exactly_one}
use Rattle.bridge_telling.proofs.TestLemmas.{and_parts, false_of_not, not_of_false, parts_and}
use Rattle.hir_attrs.specs.Reading.{about}
use Rattle.hir_context.proofs.Places.{made_of}
use Rattle.hir_context.specs.Lookups.{DefinedType, InputStruct, OutputStruct, defined_at}
use Rattle.hir_context.specs.Lookups as defined
use Rattle.hir_context.specs.declared.parts.Definitions.{Definitions}
use Rattle.hir_ids.specs.declared.ids.TypeId.{TypeId}
use Rattle.hir_ids.specs.declared.ids.TypeId.TheVariants as type
use Rattle.hir_ids.specs.declared.owners.Borrow.{Borrow}
use Rattle.hir_ids.specs.declared.owners.MaybeOwn.{MaybeOwn}
use Rattle.hir_ids.specs.declared.owners.MaybeOwn.TheVariants as owner
use Rattle.hir_mentions.specs.Mentions.{where_any}
use Rattle.hir_life.specs.declared.maybe_static.MaybeStatic.{MaybeStatic}
use Rattle.hir_reports.specs.Texts.{plain_error}
use Rattle.hir_reports.specs.declared.report.LoweringError.{LoweringError}
use Rattle.hir_reports.specs.declared.rule.Rule.TheVariants as rule
use Rattle.hir_validation.specs.Visited.{held_errors, is_borrowed, is_borrowed_mutably, may_write, slice_errors, visited_errors}
use Rattle.hir_validation.specs.VisitedBreaks.{RefersTo, VisitedBreaks}
use Rattle.hir_validation.specs.WholeTypes.{Whole, Primitive, Enum, Opaque, Struct, Slice, Callback, Other}
use Rattle.hir_validation.specs.rules.AbiUnmarked.{AbiUnmarked}
use Rattle.hir_validation.specs.rules.CallbackReturn.{CallbackReturn}
use Rattle.hir_validation.specs.rules.MutStructRef.{MutStructRef}
use Rattle.hir_validation.specs.rules.OutStructSlice.{OutStructSlice}
use Rattle.hir_validation.proofs.CallbackLemmas.{callback_exactly}
use Rattle.hir_validation.proofs.ExactlyLemmas.{any_exactly, cond_exactly, never_some}

-- ---- slices

abbrev OfSlice : DefinedType → LoweringError → Type 0
OfSlice (defined.Struct def) e = (not def.attrs.abi_compatible ≡ true) × (e ≡ about rule.AbiUnmarked def.name.0)
OfSlice (defined.Enum def) e = (not def.attrs.abi_compatible ≡ true) × (e ≡ about rule.AbiUnmarked def.name.0)
OfSlice (defined.OutStruct def) e = e ≡ plain_error rule.OutStructSlice
OfSlice (defined.Opaque def) e = ⊥

slice_exactly : (def : DefinedType) → TellsExactly (slice_errors def) (OfSlice def)
slice_exactly (defined.Struct def) = exactly_if (not def.attrs.abi_compatible) (about rule.AbiUnmarked def.name.0)
slice_exactly (defined.Enum def) = exactly_if (not def.attrs.abi_compatible) (about rule.AbiUnmarked def.name.0)
slice_exactly (defined.OutStruct def) = exactly_one (plain_error rule.OutStructSlice)
slice_exactly (defined.Opaque def) = exactly_none

-- ---- what is held

writes : (m : Mutability) → may_write m ≡ true → m ≡ Mutable
writes Mutable h = refl
writes Immutable h = cc

borrow_of : (held : MaybeOwn) → is_borrowed_mutably held ≡ true → (b : Borrow) × ((held ≡ owner.Borrow b) × (b.mutability ≡ Mutable))
borrow_of owner.Own h = cc
borrow_of (owner.Borrow b) h = (b, (refl, writes b.mutability h))

abbrev mutable_test : InputStruct → MaybeOwn → Bool
mutable_test def held = is_borrowed_mutably held && not def.attrs.mut_struct_ref

pub mutable_of : (def : InputStruct) (held : MaybeOwn) → mutable_test def held ≡ true → MutStructRef def held
mutable_of def held h =
    let parts = and_parts (is_borrowed_mutably held) (not def.attrs.mut_struct_ref) h in
    let b = borrow_of held parts.0 in
    record { borrow = b.0; is_borrowed = b.1.0; is_mutable = b.1.1; unmarked = false_of_not def.attrs.mut_struct_ref parts.1 }

pub of_mutable : (def : InputStruct) (held : MaybeOwn) → MutStructRef def held → mutable_test def held ≡ true
of_mutable def held b =
    parts_and (is_borrowed_mutably held) (not def.attrs.mut_struct_ref) (ap is_borrowed_mutably b.is_borrowed ∙ ap may_write b.is_mutable)
    (not_of_false def.attrs.mut_struct_ref b.unmarked)

abbrev pub OfHeld : MaybeOwn → DefinedType → LoweringError → Type 0
OfHeld held (defined.Struct def) e =
    ((mutable_test def held ≡ true) × (e ≡ about rule.MutStructRef def.name.0)) ⊎ ((def.attrs.tuple ≡ true) × (e ≡ plain_error rule.TupleReference))
OfHeld held (defined.OutStruct def) e = ⊥
OfHeld held (defined.Opaque def) e = ⊥
OfHeld held (defined.Enum def) e = ⊥

pub held_exactly : (held : MaybeOwn) (def : DefinedType) → TellsExactly (held_errors held def) (OfHeld held def)
held_exactly held (defined.Struct def) =
    exactly_both (one_if (mutable_test def held) (about rule.MutStructRef def.name.0)) (one_if def.attrs.tuple (plain_error rule.TupleReference))
    (λ e. (mutable_test def held ≡ true) × (e ≡ about rule.MutStructRef def.name.0)) (λ e. (def.attrs.tuple ≡ true) × (e ≡ plain_error rule.TupleReference))
    (exactly_if (mutable_test def held) (about rule.MutStructRef def.name.0)) (exactly_if def.attrs.tuple (plain_error rule.TupleReference))
held_exactly held (defined.OutStruct def) = exactly_none
held_exactly held (defined.Opaque def) = exactly_none
held_exactly held (defined.Enum def) = exactly_none

-- ---- of a type

module _ (must_fail : Bool) (defs : Definitions) where
  abbrev Lent : TypeId → MaybeOwn → LoweringError → Type 0
  Lent id held e = (is_borrowed held ≡ true) × ((def : DefinedType) × ((defined_at defs id ≡ Some def) × OfHeld held def e))

  abbrev Elements : Option TypeId → LoweringError → Type 0
  Elements element e = (def : DefinedType) × ((option_and_then (defined_at defs) element ≡ Some def) × OfSlice def e)

  abbrev Visits : Whole → LoweringError → Type 0
  Visits (Struct id held given) e = Lent id held e
  Visits (Slice element) e = Elements element e
  Visits (Callback output) e = CallbackReturn must_fail defs output × (e ≡ plain_error rule.CallbackReturn)
  Visits Primitive e = ⊥
  Visits (Enum number) e = ⊥
  Visits (Opaque number borrow given) e = ⊥
  Visits Other e = ⊥

  visits_exactly : (ty : Whole) → TellsExactly (visited_errors must_fail defs ty) (Visits ty)
  unfolding visited_errors
  visits_exactly (Struct id held given) =
      cond_exactly (is_borrowed held) (where_held id held) (λ e. (def : DefinedType) × ((defined_at defs id ≡ Some def) × OfHeld held def e))
      (any_exactly (held_errors held) (OfHeld held) (held_exactly held) (defined_at defs id))
    where
      where_held : TypeId → MaybeOwn → List LoweringError
      where_held i h = where_any (held_errors h) (defined_at defs i)
  visits_exactly (Slice element) = any_exactly slice_errors OfSlice slice_exactly (option_and_then (defined_at defs) element)
  visits_exactly (Callback output) = callback_exactly must_fail defs output
  visits_exactly Primitive = exactly_none
  visits_exactly (Enum number) = exactly_none
  visits_exactly (Opaque number borrow given) = exactly_none
  visits_exactly Other = exactly_none

  -- ---- as the rules say it

  abbrev Breaks : Whole → LoweringError → Type 0
  Breaks ty e = VisitedBreaks must_fail defs ty e

  as_break : {d : LoweringError} (ty : Whole) (e : LoweringError) → e ≡ d → Breaks ty d → Breaks ty e
  as_break ty e is b = subst (Breaks ty) (sym is) b

  -- a reference to what has this id
  lent_breaks : (id : TypeId) (held : MaybeOwn) (given : List (MaybeStatic ℕ)) (e : LoweringError) → Lent id held e → Breaks (Struct id held given) e
  lent_breaks (type.Struct number) (owner.Borrow b) given e h =
      let at = made_of defined.Struct (slice_get defs.structs.defs number) h.1.0 h.1.1.0 in
      by_struct at.0 at.1 (subst (λ (d : DefinedType). OfHeld (owner.Borrow b) d e) (sym at.2) h.1.1.1)
    where
      by_struct : (def : InputStruct) → slice_get defs.structs.defs number ≡ Some def → OfHeld (owner.Borrow b) (defined.Struct def) e
          → Breaks (Struct (type.Struct number) (owner.Borrow b) given) e
      by_struct def found told =
          let refers : RefersTo defs (Struct (type.Struct number) (owner.Borrow b) given) b def =
          record { number = number; given = given; is_reference = refl; found = found } in
          elim told [
            | inl m ↦
                as_break (Struct (type.Struct number) (owner.Borrow b) given) e m.1 (VisitedBreaks.mut_struct_ref b def refers (mutable_of def (owner.Borrow b) m.0))
            | inr t ↦
                as_break (Struct (type.Struct number) (owner.Borrow b) given) e t.1 (VisitedBreaks.tuple_reference b def refers (record { marked = t.0 }))
          ]
  lent_breaks (type.OutStruct number) (owner.Borrow b) given e h =
      let at = made_of defined.OutStruct (slice_get defs.out_structs.defs number) h.1.0 h.1.1.0 in
      absurd (subst (λ (d : DefinedType). OfHeld (owner.Borrow b) d e) (sym at.2) h.1.1.1)
  lent_breaks (type.Opaque number) (owner.Borrow b) given e h =
      let at = made_of defined.Opaque (slice_get defs.opaques.defs number) h.1.0 h.1.1.0 in
      absurd (subst (λ (d : DefinedType). OfHeld (owner.Borrow b) d e) (sym at.2) h.1.1.1)
  lent_breaks (type.Enum number) (owner.Borrow b) given e h =
      let at = made_of defined.Enum (slice_get defs.enums.defs number) h.1.0 h.1.1.0 in
      absurd (subst (λ (d : DefinedType). OfHeld (owner.Borrow b) d e) (sym at.2) h.1.1.1)
  lent_breaks id owner.Own given e h = absurd (never h.0) where
    never : ¬ (false ≡ true)
    never is = cc

  -- a slice of what has this id
  slice_breaks : (element : Option TypeId) (e : LoweringError) → Elements element e → Breaks (Slice element) e
  slice_breaks None e h = absurd (never_some h.0 h.1.0)
  slice_breaks (Some (type.Struct number)) e h =
      let at = made_of defined.Struct (slice_get defs.structs.defs number) h.0 h.1.0 in
      let told : OfSlice (defined.Struct at.0) e = subst (λ (d : DefinedType). OfSlice d e) (sym at.2) h.1.1 in
      as_break (Slice (Some (type.Struct number))) e told.1
      (VisitedBreaks.abi_unmarked at.0.name.0 (AbiUnmarked.structs number at.0 at.1 (false_of_not at.0.attrs.abi_compatible told.0)))
  slice_breaks (Some (type.Enum number)) e h =
      let at = made_of defined.Enum (slice_get defs.enums.defs number) h.0 h.1.0 in
      let told : OfSlice (defined.Enum at.0) e = subst (λ (d : DefinedType). OfSlice d e) (sym at.2) h.1.1 in
      as_break (Slice (Some (type.Enum number))) e told.1
      (VisitedBreaks.abi_unmarked at.0.name.0 (AbiUnmarked.enums number at.0 at.1 (false_of_not at.0.attrs.abi_compatible told.0)))
  slice_breaks (Some (type.OutStruct number)) e h =
      let at = made_of defined.OutStruct (slice_get defs.out_structs.defs number) h.0 h.1.0 in
      let told : OfSlice (defined.OutStruct at.0) e = subst (λ (d : DefinedType). OfSlice d e) (sym at.2) h.1.1 in
      as_break (Slice (Some (type.OutStruct number))) e told (VisitedBreaks.out_struct_slice (OutStructSlice.out_structs number at.0 at.1))
  slice_breaks (Some (type.Opaque number)) e h =
      let at = made_of defined.Opaque (slice_get defs.opaques.defs number) h.0 h.1.0 in
      absurd (subst (λ (d : DefinedType). OfSlice d e) (sym at.2) h.1.1)

  breaks_of : (ty : Whole) (e : LoweringError) → Visits ty e → Breaks ty e
  breaks_of (Struct id held given) e h = lent_breaks id held given e h
  breaks_of (Slice element) e h = slice_breaks element e h
  breaks_of (Callback output) e h = as_break (Callback output) e h.1 (VisitedBreaks.callback_return output refl h.0)
  breaks_of Primitive e h = absurd h
  breaks_of (Enum number) e h = absurd h
  breaks_of (Opaque number borrow given) e h = absurd h
  breaks_of Other e h = absurd h

  -- what breaks one is told

  unmarked_visits : (ty : Whole) (name : List ℕ) → AbiUnmarked defs ty name → Visits ty (about rule.AbiUnmarked name)
  unmarked_visits _ _ (AbiUnmarked.structs number def found unmarked) =
      (defined.Struct def, (ap (option_map defined.Struct) found, (not_of_false def.attrs.abi_compatible unmarked, refl)))
  unmarked_visits _ _ (AbiUnmarked.enums number def found unmarked) =
      (defined.Enum def, (ap (option_map defined.Enum) found, (not_of_false def.attrs.abi_compatible unmarked, refl)))

  out_visits : (ty : Whole) → OutStructSlice defs ty → Visits ty (plain_error rule.OutStructSlice)
  out_visits _ (OutStructSlice.out_structs number def found) = (defined.OutStruct def, (ap (option_map defined.OutStruct) found, refl))

  refers_visits : (ty : Whole) (b : Borrow) (def : InputStruct) (e : LoweringError) → RefersTo defs ty b def → OfHeld (owner.Borrow b) (defined.Struct def) e → Visits ty e
  refers_visits ty b def e r held =
      subst (λ (t : Whole). Visits t e) (sym r.is_reference) (refl, (defined.Struct def, (ap (option_map defined.Struct) r.found, held)))

  of_breaks : (ty : Whole) (e : LoweringError) → Breaks ty e → Visits ty e
  of_breaks ty _ (VisitedBreaks.abi_unmarked name b) = unmarked_visits ty name b
  of_breaks ty _ (VisitedBreaks.out_struct_slice b) = out_visits ty b
  of_breaks ty _ (VisitedBreaks.mut_struct_ref b def r m) =
      refers_visits ty b def (about rule.MutStructRef def.name.0) r (inl (of_mutable def (owner.Borrow b) m, refl))
  of_breaks ty _ (VisitedBreaks.tuple_reference b def r t) = refers_visits ty b def (plain_error rule.TupleReference) r (inr (t.marked, refl))
  of_breaks ty _ (VisitedBreaks.callback_return output is b) =
      subst (λ (t : Whole). Visits t (plain_error rule.CallbackReturn)) (sym is) (b, refl)

  pub visited_exactly : (ty : Whole) → TellsExactly (visited_errors must_fail defs ty) (VisitedBreaks must_fail defs ty)
  visited_exactly ty =
      exactly_as (visited_errors must_fail defs ty) (Visits ty) (VisitedBreaks must_fail defs ty) (λ e. (λ h. breaks_of ty e h, λ b. of_breaks ty e b)) (visits_exactly ty)
