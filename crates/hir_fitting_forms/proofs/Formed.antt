-- What a shape that fits stands for names what fits.
use Rattle.std.proofs.Common.{◌≡◌, ℕ, List, [], ◌∷◌, Bool, true, false, Option, Some, None, sym, subst}
use Rattle.std.specs.Prelude.{IfSome}
use Rattle.bridge_order.specs.declared.catalog.Catalog.{Catalog}
use Rattle.bridge_rules.specs.declared.shape.Element.{Element}
use Rattle.bridge_rules.specs.declared.shape.Element.TheVariants as element
use Rattle.bridge_rules.specs.declared.shape.FlatSlice.{FlatSlice}
use Rattle.bridge_rules.specs.declared.shape.FlatSlice.TheVariants as flat
use Rattle.bridge_rules.specs.declared.shape.Shape.{Shape}
use Rattle.bridge_rules.specs.declared.shape.Shape.TheVariants as shape
use Rattle.bridge_rules.specs.declared.shape.Value.{Value}
use Rattle.bridge_rules.specs.declared.shape.Value.TheVariants as value
use Rattle.bridge_rules.specs.Shapes.{shape_of}
use Rattle.hir_elide.proofs.BelowLemmas.{Each}
use Rattle.hir_fitting.specs.Fitting.{Fits}
use Rattle.hir_fitting.specs.declared.census.Census.{Census}
use Rattle.hir_form.specs.Forms.{Generics, boxed_form, elements_form, enum_path, flat_form, opaque_path, opaque_type, option_type, primitive_form, shape_form, slice_type, struct_form, struct_path, struct_type, structs_form, trait_path, trait_type, value_form, values_form}
use Rattle.hir_form.specs.Makers.{Makers}
use Rattle.hir_form.specs.TypeForms.{generics_in, type_form}
use Rattle.hir_ids.specs.Owners.{owner_of}
use Rattle.hir_ids.specs.declared.owners.Borrow.{Borrow as Loan}
use Rattle.hir_ids.specs.declared.owners.MaybeOwn.{MaybeOwn}
use Rattle.hir_ids.specs.declared.owners.MaybeOwn.TheVariants as owner
use Rattle.hir_ids.specs.declared.primitives.PrimitiveType.TheVariants as primitive
use Rattle.hir_mentions.specs.Mentions.{Mentioned, Path, borrow_mentions, owner_mentions, where_any}
use Rattle.hir_mentions.specs.Types.{mentions_step, slice_mentions, trait_path_mentions, type_mentions}
use Rattle.hir_number.proofs.FaultLemmas.{each_both}
use Rattle.hir_number.specs.declared.numbered.NumberedType.{NumberedType}
use Rattle.hir_types.specs.declared.paths.StructPath.{StructPath}
use Rattle.hir_types.specs.declared.paths.TraitPath.{TraitPath}
use Rattle.hir_types.specs.declared.slices.Slice.{Slice}
use Rattle.hir_types.specs.declared.slices.Slice.TheVariants as slice
use Rattle.hir_types.specs.declared.types.HirType.{HirType, map-HirType, roll-HirType}
use Rattle.hir_types.specs.declared.types.HirType.TheOpen.{HirType-F}
use Rattle.hir_types.specs.declared.types.HirType.TheFolds.{fold-roll-HirType}
use Rattle.hir_fitting_forms.proofs.Lists.{if_made}
use Rattle.hir_fitting_forms.proofs.Shaped.{AllKnown, ElementFits, FlatFits, Leads, LeadsToOpaque, Lends, MayLend, ShapeFits, ValueFits, shape_fits, struct_symbol}

-- what a position makes of parts names what the parts do
pub record NamesTheSame {O S T : Type 0} (m : Makers O S T) (borrow : O → Option Loan) (of_struct : S → List Mentioned) (of_trait : T → List Mentioned) : Type 0 where
  pub borrowed : (b : Loan) → borrow (m.borrowed b) ≡ Some b
  pub boxed : IfSome m.boxed (λ held. borrow held ≡ None)
  pub named : (is_out : Bool) (path : StructPath) → IfSome (m.named is_out path) (λ s. of_struct s ≡ Path (struct_symbol is_out path.tcx_id) path.lifetimes ∷ owner_mentions path.owner)
  pub implementing : (path : TraitPath) → IfSome (m.implementing path) (λ t. of_trait t ≡ trait_path_mentions path)

module _ (census : Census) (count : ℕ) where
  -- what is named is there, and its lifetimes are
  abbrev pub Fitting : Mentioned → Type 0
  Fitting = Fits census (Some count)

  pub owner_known : (b : Option Loan) → MayLend census count b → Each Fitting (owner_mentions (owner_of b))
  owner_known None h = tt
  owner_known (Some b) h = (h, tt)

  module _ (P C I : Type 0) {O S T : Type 0} (m : Makers O S T) (borrow : O → Option Loan) (of_struct : S → List Mentioned) (of_trait : T → List Mentioned)
      (of_callback : C → List Mentioned) (same : NamesTheSame m borrow of_struct of_trait)
    where
      abbrev names_of : HirType P C O I S T → List Mentioned
      names_of = type_mentions borrow of_struct of_trait of_callback

      abbrev Good : HirType P C O I S T → Type 0
      Good t = Each Fitting (names_of t)

      abbrev GoodSlice : Slice P C O I S T → Type 0
      GoodSlice s = Each Fitting (slice_mentions of_struct s)

      -- a type of one layer
      made : (x : HirType-F P C O I S T (HirType P C O I S T)) → Each Fitting (mentions_step borrow of_struct of_trait of_callback (map-HirType _ _ _ _ _ _ _ _ names_of x)) → Good (roll-HirType _ _ _ _ _ _ x)
      made x h = subst (Each Fitting) (sym (fold-roll-HirType _ _ _ _ _ _ (List Mentioned) (mentions_step borrow of_struct of_trait of_callback) x)) h

      slice_made : (s : Slice P C O I S T) → GoodSlice s → Good (slice_type s)
      slice_made s h = made (HirType-F.Slice s) h

      option_made : (t : HirType P C O I S T) → Good t → Good (option_type t)
      option_made t h = made (HirType-F.DiplomatOption t) h

      opaque_made : (ls : Generics) (is_optional : Bool) (id : ℕ) (held : O) → LeadsToOpaque census count id ls → Each Fitting (where_any borrow_mentions (borrow held)) → Good (opaque_type (opaque_path ls is_optional id held))
      opaque_made ls is_optional id held leads lends = made (HirType-F.Opaque (opaque_path ls is_optional id held)) (leads, lends)

      lent_made : (ls : Generics) (is_optional : Bool) (id : ℕ) (b : Loan) → LeadsToOpaque census count id ls → Lends census count b → Good (opaque_type (opaque_path ls is_optional id (m.borrowed b)))
      lent_made ls is_optional id b leads lends = opaque_made ls is_optional id (m.borrowed b) leads (subst (λ o. Each Fitting (where_any borrow_mentions o)) (sym (same.borrowed b)) (lends, tt))

      struct_made : (ls : Generics) (is_out : Bool) (id : ℕ) (held : MaybeOwn) → Leads census count (struct_symbol is_out id) ls → Each Fitting (owner_mentions held)
          → IfSome (struct_form {P = P} {C = C} {I = I} m ls is_out id held) Good
      struct_made ls is_out id held leads lends =
          if_made (λ s. of_struct s ≡ Path (struct_symbol is_out id) ls ∷ owner_mentions held) Good struct_type
          (λ s is. made (HirType-F.Struct s) (subst (Each Fitting) (sym is) (leads, lends))) (m.named is_out (struct_path ls id held)) (same.named is_out (struct_path ls id held))

      value_made : (ls : Generics) (v : Value) → ValueFits census count ls v → IfSome (value_form {P = P} {C = C} {I = I} m ls v) Good
      value_made ls (value.Primitive p) h = made (HirType-F.Primitive (primitive_form p)) tt
      value_made ls (value.Enum id) h = made (HirType-F.Enum (enum_path id)) (h, tt)
      value_made ls (value.Struct id) h = struct_made ls false id owner.Own h tt
      value_made ls (value.Empty id) h = struct_made ls false id owner.Own h tt
      value_made ls (value.EmptyOut id) h = struct_made ls true id owner.Own h tt
      value_made ls (value.OutStruct id) h = struct_made ls true id owner.Own h tt

      boxed_made : (ls : Generics) (is_optional : Bool) (id : ℕ) → LeadsToOpaque census count id ls → IfSome (boxed_form {P = P} {C = C} {I = I} m ls is_optional id) Good
      boxed_made ls is_optional id leads =
          if_made (λ held. borrow held ≡ None) Good (λ held. opaque_type (opaque_path ls is_optional id held))
          (λ held is. opaque_made ls is_optional id held leads (subst (λ o. Each Fitting (where_any borrow_mentions o)) (sym is) tt)) m.boxed same.boxed

      flat_made : (f : FlatSlice) → FlatFits census count f → GoodSlice (flat_form f)
      flat_made (flat.Str l e) h = (h, tt)
      flat_made (flat.OwnedStr e) h = tt
      flat_made (flat.Primitives b p) h = (h, tt)
      flat_made (flat.OwnedPrimitives p) h = tt

      -- ---- slices of other types

      structs_made : (ls : Generics) (held : MaybeOwn) (is_out : Bool) (id : ℕ) → Leads census count (struct_symbol is_out id) ls → Each Fitting (owner_mentions held)
          → IfSome (structs_form {P = P} {C = C} {I = I} m ls held is_out id) GoodSlice
      structs_made ls held is_out id leads lends =
          if_made (λ s. of_struct s ≡ Path (struct_symbol is_out id) ls ∷ []) GoodSlice (λ path. slice.Struct held path)
          (λ s is. each_both Fitting (of_struct s) (owner_mentions held) (subst (Each Fitting) (sym is) (leads, tt)) lends) (m.named is_out (struct_path ls id owner.Own)) (same.named is_out (struct_path ls id owner.Own))

      values_made : (ls : Generics) (held : MaybeOwn) (v : Value) → ValueFits census count ls v → Each Fitting (owner_mentions held) → IfSome (values_form {P = P} {C = C} {I = I} m ls held v) GoodSlice
      values_made ls held (value.Primitive p) h lends = tt
      values_made ls held (value.Enum id) h lends = (h, lends)
      values_made ls held (value.Struct id) h lends = structs_made ls held false id h lends
      values_made ls held (value.Empty id) h lends = structs_made ls held false id h lends
      values_made ls held (value.EmptyOut id) h lends = structs_made ls held true id h lends
      values_made ls held (value.OutStruct id) h lends = structs_made ls held true id h lends

      elements_made : (ls : Generics) (held : MaybeOwn) (e : Element) → ElementFits census count ls e → Each Fitting (owner_mentions held) → IfSome (elements_form {P = P} {C = C} {I = I} m ls held e) GoodSlice
      elements_made ls held (element.Value v) h lends = values_made ls held v h lends
      elements_made ls held element.Opaque h lends = tt
      elements_made ls held (element.OpaqueReference b id mark) h lends = (h.0, (h.1, lends))
      elements_made ls held (element.OpaqueOption b id d) h lends = (h.0, (h.1, lends))
      elements_made ls held element.Other h lends = tt

      -- ---- the whole

      shape_made : (ls : Generics) (s : Shape) → ShapeFits census count ls s → IfSome (shape_form {P = P} {C = C} {I = I} m ls s) Good
      shape_made ls (shape.Value v) h = value_made ls v h
      shape_made ls shape.Ordering h = made (HirType-F.Primitive primitive.Ordering) tt
      shape_made ls (shape.ImplTrait id) h =
          if_made (λ t. of_trait t ≡ trait_path_mentions (trait_path ls id)) Good trait_type
          (λ t is. made (HirType-F.ImplTrait t) (subst (Each Fitting) (sym is) (h, tt))) (m.implementing (trait_path ls id)) (same.implementing (trait_path ls id))
      shape_made ls (shape.OpaqueReference b id mark) h = lent_made ls false id b h.0 h.1
      shape_made ls (shape.StructReference b id) h = struct_made ls false id (owner.Borrow b) h.0 (h.1, tt)
      shape_made ls (shape.OutStructReference b id) h = struct_made ls true id (owner.Borrow b) h.0 (h.1, tt)
      shape_made ls (shape.OpaqueBox id) h = boxed_made ls false id h
      shape_made ls (shape.OptionOfReference b id d) h = lent_made ls true id b h.0 h.1
      shape_made ls (shape.OptionOfBox id d) h = boxed_made ls true id h
      shape_made ls (shape.OptionOfValue v d) h = if_made Good Good option_type option_made (value_form m ls v) (value_made ls v h)
      shape_made ls (shape.OptionOfStrings e) h = option_made (slice_type (slice.Strs e)) (slice_made (slice.Strs e) tt)
      shape_made ls (shape.OptionOfFlat f) h = option_made (slice_type (flat_form f)) (slice_made (flat_form f) (flat_made f h))
      shape_made ls (shape.Flat f) h = slice_made (flat_form f) (flat_made f h)
      shape_made ls (shape.Strings e) h = slice_made (slice.Strs e) tt
      shape_made ls (shape.Slice b e) h = if_made GoodSlice Good slice_type slice_made (elements_form m ls (owner_of b) e) (elements_made ls (owner_of b) e h.0 (owner_known b h.1))
      shape_made ls _ h = tt

      pub type_made : (catalog : Catalog) (ty : NumberedType) → AllKnown census count catalog ty → IfSome (type_form {P = P} {C = C} {I = I} m catalog ty) Good
      type_made catalog ty h = shape_made (generics_in ty) (shape_of catalog ty) (shape_fits census count catalog ty h)
