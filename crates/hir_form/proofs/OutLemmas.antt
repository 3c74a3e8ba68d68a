-- A shape of which nothing is wrong where it goes out stands for something.
use Rattle.std.proofs.Common.{◌≡◌, [], true, Option, is_some, refl}
use Rattle.bridge_grid.specs.Asked.{slice_borrows}
use Rattle.bridge_grid.specs.Faults.{shape_faults}
use Rattle.bridge_grid.specs.declared.part.Part.{Part}
use Rattle.bridge_rules.specs.declared.position.Position.{Position}
use Rattle.bridge_rules.specs.declared.position.Position.TheVariants as at
use Rattle.bridge_rules.specs.declared.shape.Element.{Element}
use Rattle.bridge_rules.specs.declared.shape.Element.TheVariants as element
use Rattle.bridge_rules.specs.declared.shape.Shape.{Shape}
use Rattle.bridge_rules.specs.declared.shape.Shape.TheVariants as shape
use Rattle.bridge_rules.specs.declared.shape.Value.{Value}
use Rattle.bridge_rules.specs.declared.shape.Value.TheVariants as value
use Rattle.hir_backends.specs.declared.support.BackendAttrSupport.{BackendAttrSupport}
use Rattle.hir_ids.specs.declared.owners.Borrow.{Borrow}
use Rattle.hir_form.specs.Forms.{Generics, shape_form, value_form}
use Rattle.hir_form.specs.Makers.{of_outputs}
use Rattle.hir_form.proofs.EmptyLemmas.{no_cons, own_none, right_none, map_given}

-- where what goes out stands
pub data Out : Type 0 where
  OutParam : Out
  OutField : Out
  OutReturn : Out

abbrev pub out_at : Out → Position
out_at OutParam = at.CallbackParam
out_at OutField = at.OutField
out_at OutReturn = at.Return

module _ (P C I : Type 0) where
  value_out : (ls : Generics) (v : Value) → is_some (value_form {P = P} {C = C} {I = I} of_outputs ls v) ≡ true
  value_out ls (value.Primitive _) = refl
  value_out ls (value.Enum _) = refl
  value_out ls (value.Struct _) = refl
  value_out ls (value.Empty _) = refl
  value_out ls (value.EmptyOut _) = refl
  value_out ls (value.OutStruct _) = refl

  slice_out : (k : Out) (support : BackendAttrSupport) (part : Part) (ls : Generics) (b : Option Borrow) (e : Element)
      → shape_faults support (out_at k) part (shape.Slice b e) ≡ []
      → is_some (shape_form {P = P} {C = C} {I = I} of_outputs ls (shape.Slice b e)) ≡ true
  slice_out k support part ls b (element.OpaqueReference _ _ _) h = refl
  slice_out k support part ls b (element.OpaqueOption _ _ _) h = refl
  slice_out k support part ls b (element.Value (value.Enum _)) h = refl
  slice_out k support part ls b (element.Value (value.Struct _)) h = refl
  slice_out k support part ls b (element.Value (value.Empty _)) h = refl
  slice_out k support part ls b (element.Value (value.EmptyOut _)) h = refl
  slice_out k support part ls b (element.Value (value.OutStruct _)) h = refl
  slice_out OutParam support part ls b (element.Value (value.Primitive _)) h =
      absurd (no_cons (right_none (slice_borrows support b) _ (own_none _ _ h)))
  slice_out OutField support part ls b (element.Value (value.Primitive _)) h =
      absurd (no_cons (right_none (slice_borrows support b) _ (own_none _ _ h)))
  slice_out OutReturn support part ls b (element.Value (value.Primitive _)) h =
      absurd (no_cons (right_none (slice_borrows support b) _ (own_none _ _ h)))
  slice_out OutParam support part ls b element.Opaque h =
      absurd (no_cons (right_none (slice_borrows support b) _ (own_none _ _ h)))
  slice_out OutField support part ls b element.Opaque h =
      absurd (no_cons (right_none (slice_borrows support b) _ (own_none _ _ h)))
  slice_out OutReturn support part ls b element.Opaque h =
      absurd (no_cons (right_none (slice_borrows support b) _ (own_none _ _ h)))
  slice_out OutParam support part ls b element.Other h =
      absurd (no_cons (right_none (slice_borrows support b) _ (own_none _ _ h)))
  slice_out OutField support part ls b element.Other h =
      absurd (no_cons (right_none (slice_borrows support b) _ (own_none _ _ h)))
  slice_out OutReturn support part ls b element.Other h =
      absurd (no_cons (right_none (slice_borrows support b) _ (own_none _ _ h)))

  pub shape_out : (k : Out) (support : BackendAttrSupport) (part : Part) (ls : Generics) (s : Shape)
      → shape_faults support (out_at k) part s ≡ []
      → is_some (shape_form {P = P} {C = C} {I = I} of_outputs ls s) ≡ true
  shape_out k support part ls (shape.Value v) h = value_out ls v
  shape_out k support part ls shape.Ordering h = refl
  shape_out k support part ls (shape.OpaqueReference _ _ _) h = refl
  shape_out k support part ls (shape.StructReference _ _) h = refl
  shape_out k support part ls (shape.OutStructReference _ _) h = refl
  shape_out k support part ls (shape.OpaqueBox _) h = refl
  shape_out k support part ls (shape.OptionOfReference _ _ _) h = refl
  shape_out k support part ls (shape.OptionOfBox _ _) h = refl
  shape_out k support part ls (shape.OptionOfStrings _) h = refl
  shape_out k support part ls (shape.OptionOfFlat _) h = refl
  shape_out k support part ls (shape.Flat _) h = refl
  shape_out k support part ls (shape.Strings _) h = refl
  shape_out k support part ls shape.Opaque h = absurd (no_cons h)
  shape_out k support part ls shape.OtherReference h = absurd (no_cons h)
  shape_out k support part ls shape.OtherBox h = absurd (no_cons h)
  shape_out k support part ls shape.OptionOfPointer h = absurd (no_cons h)
  shape_out k support part ls shape.OtherOption h = absurd (no_cons h)
  shape_out k support part ls shape.Result h = absurd (no_cons h)
  shape_out k support part ls shape.Writer h = absurd (no_cons h)
  shape_out k support part ls shape.Unit h = absurd (no_cons h)
  shape_out OutParam support part ls (shape.ImplTrait _) h = absurd (no_cons h)
  shape_out OutField support part ls (shape.ImplTrait _) h = absurd (no_cons h)
  shape_out OutReturn support part ls (shape.ImplTrait _) h = absurd (no_cons h)
  shape_out OutParam support part ls shape.Function h = absurd (no_cons h)
  shape_out OutField support part ls shape.Function h = absurd (no_cons h)
  shape_out OutReturn support part ls shape.Function h = absurd (no_cons h)
  shape_out k support part ls (shape.OptionOfValue v _) h = map_given _ _ (value_out ls v)
  shape_out k support part ls (shape.Slice b e) h = slice_out k support part ls b e h
