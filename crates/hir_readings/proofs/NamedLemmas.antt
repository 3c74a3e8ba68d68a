-- What a return stands for names the lifetimes in its type.
use Rattle.std.proofs.Common.{◌≡◌, ℕ, List, [], ◌∷◌, ◌++◌, Bool, true, false, Option, Some, None, refl, ap, ◌∙◌}
use Rattle.std.specs.Prelude.{⊤, IfSome, option_map}
use Rattle.bridge_rules.specs.declared.shape.Element.{Element}
use Rattle.bridge_rules.specs.declared.shape.Element.TheVariants as element
use Rattle.bridge_rules.specs.declared.shape.FlatSlice.{FlatSlice}
use Rattle.bridge_rules.specs.declared.shape.FlatSlice.TheVariants as flat
use Rattle.bridge_rules.specs.declared.shape.Shape.{Shape}
use Rattle.bridge_rules.specs.declared.shape.Shape.TheVariants as shape
use Rattle.bridge_rules.specs.declared.shape.Value.{Value}
use Rattle.bridge_rules.specs.declared.shape.Value.TheVariants as value
use Rattle.hir_form.specs.Forms.{Generics, elements_form, enum_path, flat_form, opaque_path, option_type, primitive_form, shape_form, slice_type, struct_form, struct_path, struct_type, value_form}
use Rattle.hir_form.specs.Makers.{of_outputs, struct_going_out}
use Rattle.hir_ids.specs.Owners.{lent, owner_of}
use Rattle.hir_ids.specs.declared.owners.Borrow.{Borrow}
use Rattle.hir_ids.specs.declared.owners.MaybeOwn.{MaybeOwn}
use Rattle.hir_ids.specs.declared.owners.MaybeOwn.TheVariants as owner
use Rattle.hir_ids.specs.declared.primitives.PrimitiveType.TheVariants as primitive
use Rattle.hir_life.specs.declared.maybe_static.MaybeStatic.{MaybeStatic}
use Rattle.hir_types.specs.Named.{ReturnedType}
use Rattle.hir_types.specs.Paths.{returnable_lifetimes}
use Rattle.hir_types.specs.Slices.{at_most_one, lifetime_of, slice_lifetimes}
use Rattle.hir_types.specs.Types.{lifetimes_step, lifetimes_within}
use Rattle.hir_types.specs.declared.callbacks.NoCallback.{NoCallback}
use Rattle.hir_types.specs.declared.paths.NoTraitPath.{NoTraitPath}
use Rattle.hir_types.specs.declared.paths.ReturnableStructPath.{ReturnableStructPath}
use Rattle.hir_types.specs.declared.positions.OutputOnly.{OutputOnly}
use Rattle.hir_types.specs.declared.slices.Slice.{Slice}
use Rattle.hir_types.specs.declared.slices.Slice.TheVariants as slice
use Rattle.hir_types.specs.declared.types.HirType.{map-HirType, roll-HirType}
use Rattle.hir_types.specs.declared.types.HirType.TheOpen.{HirType-F}
use Rattle.hir_types.specs.declared.types.HirType.TheFolds.{fold-roll-HirType}
use Rattle.hir_readings.proofs.FormedLemmas.{flat_carries, own_lifetime}

abbrev pub Lifetimes : Type 0
Lifetimes = List (MaybeStatic ℕ)

pub none_more : (ls : Lifetimes) → ls ++ [] ≡ ls
none_more [] = refl
none_more (l ∷ ls) = ap (λ more. l ∷ more) (none_more ls)

-- ---- what shapes have

abbrev pub ValueNames : Lifetimes → Generics → Value → Type 0
ValueNames all ls (value.Primitive p) = [] ≡ all
ValueNames all ls (value.Enum id) = [] ≡ all
ValueNames all ls _ = ls ≡ all

abbrev pub ElementNames : Lifetimes → Generics → Element → Type 0
ElementNames all ls (element.Value v) = ValueNames all ls v
ElementNames all ls element.Opaque = ⊤
ElementNames all ls (element.OpaqueReference b id mark) = ls ++ b.lifetime ∷ [] ≡ all
ElementNames all ls (element.OpaqueOption b id d) = ls ++ b.lifetime ∷ [] ≡ all
ElementNames all ls element.Other = ⊤

pub record SliceNames (all : Lifetimes) (ls : Generics) (b : Option Borrow) (e : Element) : Type 0 where
  pub elements : Lifetimes
  pub named : ElementNames elements ls e
  pub whole : elements ++ own_lifetime b ≡ all

abbrev pub ShapeNames : Lifetimes → Generics → Shape → Type 0
ShapeNames all ls (shape.Value v) = ValueNames all ls v
ShapeNames all ls shape.Ordering = [] ≡ all
ShapeNames all ls (shape.OpaqueReference b id mark) = ls ++ b.lifetime ∷ [] ≡ all
ShapeNames all ls (shape.StructReference b id) = ls ≡ all
ShapeNames all ls (shape.OutStructReference b id) = ls ≡ all
ShapeNames all ls (shape.OpaqueBox id) = ls ≡ all
ShapeNames all ls (shape.OptionOfReference b id d) = ls ++ b.lifetime ∷ [] ≡ all
ShapeNames all ls (shape.OptionOfBox id d) = ls ≡ all
ShapeNames all ls (shape.OptionOfValue v d) = ValueNames all ls v
ShapeNames all ls (shape.OptionOfStrings e) = [] ≡ all
ShapeNames all ls (shape.OptionOfFlat f) = flat_carries f ≡ all
ShapeNames all ls (shape.Flat f) = flat_carries f ≡ all
ShapeNames all ls (shape.Strings e) = [] ≡ all
ShapeNames all ls (shape.Slice b e) = SliceNames all ls b e
ShapeNames all ls _ = ⊤

-- ---- what is made

abbrev in_type : ReturnedType → Lifetimes
in_type t = lifetimes_within lent returnable_lifetimes (λ _. owner.Own) t

abbrev pub Names : Lifetimes → ReturnedType → Type 0
Names all t = in_type t ≡ all

rolled : (x : HirType-F OutputOnly NoCallback MaybeOwn ℕ ReturnableStructPath NoTraitPath ReturnedType) (all : Lifetimes)
    → lifetimes_step lent returnable_lifetimes (λ _. owner.Own) (map-HirType _ _ _ _ _ _ _ _ in_type x) ≡ all → in_type (roll-HirType _ _ _ _ _ _ x) ≡ all
rolled x all h = fold-roll-HirType _ _ _ _ _ _ Lifetimes (lifetimes_step lent returnable_lifetimes (λ _. owner.Own)) x ∙ h

named_made : (all : Lifetimes) (o : Option ReturnableStructPath) → IfSome o (λ s. returnable_lifetimes s ≡ all) → IfSome (option_map struct_type o) (Names all)
named_made all None h = tt
named_made all (Some s) h = rolled (HirType-F.Struct s) all h

struct_made : (ls : Generics) (is_out : Bool) (id : ℕ) (held : MaybeOwn) (all : Lifetimes) → ls ≡ all → IfSome (struct_form {P = OutputOnly} {C = NoCallback} {I = ℕ} of_outputs ls is_out id held) (Names all)
struct_made ls true id held all h = named_made all (struct_going_out true (struct_path ls id held)) h
struct_made ls false id held all h = named_made all (struct_going_out false (struct_path ls id held)) h

value_made : (ls : Generics) (v : Value) (all : Lifetimes) → ValueNames all ls v → IfSome (value_form {P = OutputOnly} {C = NoCallback} {I = ℕ} of_outputs ls v) (Names all)
value_made ls (value.Primitive p) all h = rolled (HirType-F.Primitive (primitive_form p)) all h
value_made ls (value.Enum id) all h = rolled (HirType-F.Enum (enum_path id)) all h
value_made ls (value.Struct id) all h = struct_made ls false id owner.Own all h
value_made ls (value.Empty id) all h = struct_made ls false id owner.Own all h
value_made ls (value.EmptyOut id) all h = struct_made ls true id owner.Own all h
value_made ls (value.OutStruct id) all h = struct_made ls true id owner.Own all h

option_made : (all : Lifetimes) (o : Option ReturnedType) → IfSome o (Names all) → IfSome (option_map option_type o) (Names all)
option_made all None h = tt
option_made all (Some t) h = rolled (HirType-F.DiplomatOption t) all h

flat_names : (f : FlatSlice) → slice_lifetimes returnable_lifetimes (λ _. owner.Own) (flat_form {P = OutputOnly} {C = NoCallback} {O = MaybeOwn} {I = ℕ} {S = ReturnableStructPath} {T = NoTraitPath} f) ≡ flat_carries f
flat_names (flat.Str l e) = refl
flat_names (flat.OwnedStr e) = refl
flat_names (flat.Primitives b p) = refl
flat_names (flat.OwnedPrimitives p) = refl

own_named : (b : Option Borrow) → at_most_one (lifetime_of (owner_of b)) ≡ own_lifetime b
own_named None = refl
own_named (Some b) = refl

elements_made : (b : Option Borrow) (ls : Generics) (named : Lifetimes) (e : Element) → ElementNames named ls e
    → IfSome (elements_form {P = OutputOnly} {C = NoCallback} {I = ℕ} of_outputs ls (owner_of b) e) (λ s. slice_lifetimes returnable_lifetimes (λ _. owner.Own) s ≡ named ++ own_lifetime b)
elements_made b ls named (element.Value (value.Primitive p)) h = tt
elements_made b ls named (element.Value (value.Enum id)) h = own_named b ∙ ap (λ more. more ++ own_lifetime b) h
elements_made b ls named (element.Value (value.Struct id)) h = ap (λ own. (ls ++ []) ++ own) (own_named b) ∙ ap (λ more. more ++ own_lifetime b) (none_more ls ∙ h)
elements_made b ls named (element.Value (value.Empty id)) h = ap (λ own. (ls ++ []) ++ own) (own_named b) ∙ ap (λ more. more ++ own_lifetime b) (none_more ls ∙ h)
elements_made b ls named (element.Value (value.EmptyOut id)) h = ap (λ own. (ls ++ []) ++ own) (own_named b) ∙ ap (λ more. more ++ own_lifetime b) (none_more ls ∙ h)
elements_made b ls named (element.Value (value.OutStruct id)) h = ap (λ own. (ls ++ []) ++ own) (own_named b) ∙ ap (λ more. more ++ own_lifetime b) (none_more ls ∙ h)
elements_made b ls named element.Opaque h = tt
elements_made b ls named (element.OpaqueReference r id mark) h = ap (λ own. (ls ++ r.lifetime ∷ []) ++ own) (own_named b) ∙ ap (λ more. more ++ own_lifetime b) h
elements_made b ls named (element.OpaqueOption r id d) h = ap (λ own. (ls ++ r.lifetime ∷ []) ++ own) (own_named b) ∙ ap (λ more. more ++ own_lifetime b) h
elements_made b ls named element.Other h = tt

slice_made : (all named : Lifetimes) (b : Option Borrow) (whole : named ++ own_lifetime b ≡ all) (o : Option (Slice OutputOnly NoCallback MaybeOwn ℕ ReturnableStructPath NoTraitPath))
    → IfSome o (λ s. slice_lifetimes returnable_lifetimes (λ _. owner.Own) s ≡ named ++ own_lifetime b) → IfSome (option_map slice_type o) (Names all)
slice_made all named b whole None h = tt
slice_made all named b whole (Some s) h = rolled (HirType-F.Slice s) all (h ∙ whole)

pub shape_made : (all : Lifetimes) (ls : Generics) (x : Shape) → ShapeNames all ls x → IfSome (shape_form {P = OutputOnly} {C = NoCallback} {I = ℕ} of_outputs ls x) (Names all)
shape_made all ls (shape.Value v) h = value_made ls v all h
shape_made all ls shape.Ordering h = rolled (HirType-F.Primitive primitive.Ordering) all h
shape_made all ls (shape.ImplTrait id) h = tt
shape_made all ls (shape.OpaqueReference b id mark) h = rolled (HirType-F.Opaque (opaque_path ls false id (owner.Borrow b))) all h
shape_made all ls (shape.StructReference b id) h = struct_made ls false id (owner.Borrow b) all h
shape_made all ls (shape.OutStructReference b id) h = struct_made ls true id (owner.Borrow b) all h
shape_made all ls (shape.OpaqueBox id) h = rolled (HirType-F.Opaque (opaque_path ls false id owner.Own)) all (none_more ls ∙ h)
shape_made all ls (shape.OptionOfReference b id d) h = rolled (HirType-F.Opaque (opaque_path ls true id (owner.Borrow b))) all h
shape_made all ls (shape.OptionOfBox id d) h = rolled (HirType-F.Opaque (opaque_path ls true id owner.Own)) all (none_more ls ∙ h)
shape_made all ls (shape.OptionOfValue v d) h = option_made all (value_form of_outputs ls v) (value_made ls v all h)
shape_made all ls (shape.OptionOfStrings e) h = option_made all (Some (slice_type (slice.Strs e))) (rolled (HirType-F.Slice (slice.Strs e)) all h)
shape_made all ls (shape.OptionOfFlat f) h = option_made all (Some (slice_type (flat_form f))) (rolled (HirType-F.Slice (flat_form f)) all (flat_names f ∙ h))
shape_made all ls (shape.Flat f) h = rolled (HirType-F.Slice (flat_form f)) all (flat_names f ∙ h)
shape_made all ls (shape.Strings e) h = rolled (HirType-F.Slice (slice.Strs e)) all h
shape_made all ls (shape.Slice b e) h = slice_made all h.elements b h.whole (elements_form of_outputs ls (owner_of b) e) (elements_made b ls h.elements e h.named)
shape_made all ls _ h = tt
