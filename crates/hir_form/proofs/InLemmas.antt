-- A shape of which nothing is wrong where it comes in stands for something.
use Rattle.std.proofs.Common.{◌≡◌, [], ◌++◌, true, Option, is_some, refl}
use Rattle.std.specs.Prelude.{⊤}
use Rattle.bridge_decl.specs.declared.types.StdlibOrDiplomat.TheVariants.{Stdlib, Diplomat}
use Rattle.bridge_grid.specs.Asked.{cell_faults, slice_borrows}
use Rattle.bridge_grid.specs.Faults.{in_option, shape_faults}
use Rattle.bridge_grid.specs.declared.part.Part.{Part}
use Rattle.bridge_grid.specs.declared.part.Part.TheVariants.{Whole, Inside, Error}
use Rattle.bridge_rules.specs.Table.{cell_of}
use Rattle.bridge_rules.specs.declared.position.Position.{Position}
use Rattle.bridge_rules.specs.declared.position.Position.TheVariants as at
use Rattle.bridge_rules.specs.declared.shape.Element.{Element}
use Rattle.bridge_rules.specs.declared.shape.Element.TheVariants as element
use Rattle.bridge_rules.specs.declared.shape.Shape.{Shape}
use Rattle.bridge_rules.specs.declared.shape.Shape.TheVariants as shape
use Rattle.bridge_rules.specs.declared.shape.Value.{Value}
use Rattle.bridge_rules.specs.declared.shape.Value.TheVariants as value
use Rattle.hir_backends.specs.declared.support.BackendAttrSupport.{BackendAttrSupport}
use Rattle.hir_ids.specs.declared.owners.Borrow.{Borrow}
use Rattle.hir_types.specs.declared.paths.TraitPath.{TraitPath}
use Rattle.hir_form.specs.Forms.{Generics, shape_form, value_form}
use Rattle.hir_form.specs.Makers.{coming_in}
use Rattle.hir_form.proofs.EmptyLemmas.{no_cons, own_none, inside_none, right_none, map_given}

-- where what comes in stands
pub data In : Type 0 where
  InField : In
  InParam : In
  InReturn : In

abbrev pub in_at : In → Position
in_at InField = at.Field
in_at InParam = at.Param
in_at InReturn = at.CallbackReturn

-- traits stand where the table lets them
abbrev pub HasTraits : {T : Type 0} → In → (TraitPath → Option T) → Type 0
HasTraits InField t = ⊤
HasTraits InParam t = (path : TraitPath) → is_some (t path) ≡ true
HasTraits InReturn t = (path : TraitPath) → is_some (t path) ≡ true

-- a function that is a parameter is lowered apart
abbrev pub IsNoFunction : Shape → Type 0
IsNoFunction shape.Function = ⊥
IsNoFunction _ = ⊤

abbrev pub IsLoweredHere : In → Shape → Type 0
IsLoweredHere InField s = ⊤
IsLoweredHere InParam s = IsNoFunction s
IsLoweredHere InReturn s = ⊤

module _ (P C I T : Type 0) (t : TraitPath → Option T) where
  pub value_in : (k : In) (support : BackendAttrSupport) (part : Part) (ls : Generics) (v : Value)
      → cell_faults support part (cell_of (shape.Value v) (in_at k)) ≡ []
      → is_some (value_form {P = P} {C = C} {I = I} (coming_in t) ls v) ≡ true
  value_in k support part ls (value.Primitive _) h = refl
  value_in k support part ls (value.Enum _) h = refl
  value_in k support part ls (value.Struct _) h = refl
  value_in k support part ls (value.Empty _) h = refl
  value_in InField support part ls (value.EmptyOut _) h = absurd (no_cons h)
  value_in InParam support part ls (value.EmptyOut _) h = absurd (no_cons h)
  value_in InReturn support part ls (value.EmptyOut _) h = absurd (no_cons h)
  value_in InField support part ls (value.OutStruct _) h = absurd (no_cons h)
  value_in InParam support part ls (value.OutStruct _) h = absurd (no_cons h)
  value_in InReturn support part ls (value.OutStruct _) h = absurd (no_cons h)

  slice_in : (k : In) (support : BackendAttrSupport) (part : Part) (ls : Generics) (b : Option Borrow) (e : Element)
      → shape_faults support (in_at k) part (shape.Slice b e) ≡ []
      → is_some (shape_form {P = P} {C = C} {I = I} (coming_in t) ls (shape.Slice b e)) ≡ true
  slice_in k support part ls b (element.OpaqueReference _ _ _) h = refl
  slice_in k support part ls b (element.OpaqueOption _ _ _) h = refl
  slice_in k support part ls b (element.Value (value.Enum _)) h = refl
  slice_in k support part ls b (element.Value (value.Struct _)) h = refl
  slice_in k support part ls b (element.Value (value.Empty _)) h = refl
  slice_in InField support part ls b (element.Value (value.Primitive _)) h =
      absurd (no_cons (right_none (slice_borrows support b) _ (own_none _ _ h)))
  slice_in InParam support part ls b (element.Value (value.Primitive _)) h =
      absurd (no_cons (right_none (slice_borrows support b) _ (own_none _ _ h)))
  slice_in InReturn support part ls b (element.Value (value.Primitive _)) h =
      absurd (no_cons (right_none (slice_borrows support b) _ (own_none _ _ h)))
  slice_in InField support part ls b element.Opaque h =
      absurd (no_cons (right_none (slice_borrows support b) _ (own_none _ _ h)))
  slice_in InParam support part ls b element.Opaque h =
      absurd (no_cons (right_none (slice_borrows support b) _ (own_none _ _ h)))
  slice_in InReturn support part ls b element.Opaque h =
      absurd (no_cons (right_none (slice_borrows support b) _ (own_none _ _ h)))
  slice_in InField support part ls b element.Other h =
      absurd (no_cons (right_none (slice_borrows support b) _ (own_none _ _ h)))
  slice_in InParam support part ls b element.Other h =
      absurd (no_cons (right_none (slice_borrows support b) _ (own_none _ _ h)))
  slice_in InReturn support part ls b element.Other h =
      absurd (no_cons (right_none (slice_borrows support b) _ (own_none _ _ h)))
  slice_in InField support part ls b (element.Value (value.EmptyOut _)) h =
      absurd (no_cons (inside_none (slice_borrows support b ++ []) _ h))
  slice_in InParam support part ls b (element.Value (value.EmptyOut _)) h =
      absurd (no_cons (inside_none (slice_borrows support b ++ []) _ h))
  slice_in InReturn support part ls b (element.Value (value.EmptyOut _)) h =
      absurd (no_cons (inside_none (slice_borrows support b ++ []) _ h))
  slice_in InField support part ls b (element.Value (value.OutStruct _)) h =
      absurd (no_cons (inside_none (slice_borrows support b ++ []) _ h))
  slice_in InParam support part ls b (element.Value (value.OutStruct _)) h =
      absurd (no_cons (inside_none (slice_borrows support b ++ []) _ h))
  slice_in InReturn support part ls b (element.Value (value.OutStruct _)) h =
      absurd (no_cons (inside_none (slice_borrows support b ++ []) _ h))

  pub shape_in : (k : In) → HasTraits k t → (support : BackendAttrSupport) (part : Part) (ls : Generics) (s : Shape)
      → IsLoweredHere k s → shape_faults support (in_at k) part s ≡ []
      → is_some (shape_form {P = P} {C = C} {I = I} (coming_in t) ls s) ≡ true
  shape_in InField ht support part ls (shape.Value v) n h = value_in InField support part ls v (own_none _ _ h)
  shape_in InParam ht support part ls (shape.Value v) n h = value_in InParam support part ls v (own_none _ _ h)
  shape_in InReturn ht support part ls (shape.Value v) n h = value_in InReturn support part ls v (own_none _ _ h)
  shape_in k ht support part ls shape.Ordering n h = refl
  shape_in k ht support part ls (shape.OpaqueReference _ _ _) n h = refl
  shape_in k ht support part ls (shape.StructReference _ _) n h = refl
  shape_in k ht support part ls (shape.OptionOfReference _ _ _) n h = refl
  shape_in k ht support part ls (shape.OptionOfStrings _) n h = refl
  shape_in k ht support part ls (shape.OptionOfFlat _) n h = refl
  shape_in k ht support part ls (shape.Flat _) n h = refl
  shape_in k ht support part ls (shape.Strings _) n h = refl
  shape_in k ht support part ls shape.Opaque n h = absurd (no_cons h)
  shape_in k ht support part ls shape.OtherReference n h = absurd (no_cons h)
  shape_in k ht support part ls shape.OtherBox n h = absurd (no_cons h)
  shape_in k ht support part ls shape.OptionOfPointer n h = absurd (no_cons h)
  shape_in k ht support part ls shape.OtherOption n h = absurd (no_cons h)
  shape_in k ht support part ls shape.Result n h = absurd (no_cons h)
  shape_in k ht support part ls shape.Writer n h = absurd (no_cons h)
  shape_in k ht support part ls shape.Unit n h = absurd (no_cons h)
  shape_in InField ht support part ls (shape.ImplTrait _) n h = absurd (no_cons h)
  shape_in InParam ht support part ls (shape.ImplTrait _) n h = map_given _ _ (ht _)
  shape_in InReturn ht support part ls (shape.ImplTrait _) n h = map_given _ _ (ht _)
  shape_in InField ht support part ls (shape.OutStructReference _ _) n h = absurd (no_cons h)
  shape_in InParam ht support part ls (shape.OutStructReference _ _) n h = absurd (no_cons h)
  shape_in InReturn ht support part ls (shape.OutStructReference _ _) n h = absurd (no_cons h)
  shape_in InField ht support part ls (shape.OpaqueBox _) n h = absurd (no_cons h)
  shape_in InParam ht support part ls (shape.OpaqueBox _) n h = absurd (no_cons h)
  shape_in InReturn ht support part ls (shape.OpaqueBox _) n h = absurd (no_cons h)
  shape_in InField ht support part ls (shape.OptionOfBox _ _) n h = absurd (no_cons h)
  shape_in InParam ht support part ls (shape.OptionOfBox _ _) n h = absurd (no_cons h)
  shape_in InReturn ht support Whole ls (shape.OptionOfBox _ Stdlib) n h = absurd (no_cons h)
  shape_in InReturn ht support Whole ls (shape.OptionOfBox _ Diplomat) n h = absurd (no_cons h)
  shape_in InReturn ht support Inside ls (shape.OptionOfBox _ Stdlib) n h = absurd (no_cons h)
  shape_in InReturn ht support Inside ls (shape.OptionOfBox _ Diplomat) n h = absurd (no_cons h)
  shape_in InReturn ht support Error ls (shape.OptionOfBox _ Stdlib) n h = absurd (no_cons h)
  shape_in InReturn ht support Error ls (shape.OptionOfBox _ Diplomat) n h = absurd (no_cons h)
  shape_in InField ht support part ls (shape.OptionOfValue v d) n h =
      map_given _ _ (value_in InField support (in_option part) ls v (inside_none _ _ h))
  shape_in InParam ht support part ls (shape.OptionOfValue v d) n h =
      map_given _ _ (value_in InParam support (in_option part) ls v (inside_none _ _ h))
  shape_in InReturn ht support part ls (shape.OptionOfValue v d) n h =
      map_given _ _ (value_in InReturn support (in_option part) ls v (inside_none _ _ h))
  shape_in k ht support part ls (shape.Slice b e) n h = slice_in k support part ls b e h
  shape_in InField ht support part ls shape.Function n h = absurd (no_cons h)
  shape_in InParam ht support part ls shape.Function n h = absurd n
  shape_in InReturn ht support part ls shape.Function n h = absurd (no_cons h)
