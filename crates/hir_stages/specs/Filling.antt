-- A type without numbers, into which numbers are filled one after another. In the example of the crate's head, `&'_ Page<'_>` with the lists
-- 'a; 'b, 'c is `&'a Page<'b>` with the list 'c left over.
use Rattle.std.specs.Prelude.{ℕ, List, [], ◌∷◌, Option, Some, None}
use Rattle.bridge_decl.specs.declared.types.Mutability.{Mutability}
use Rattle.hir_life.specs.declared.maybe_static.MaybeStatic.{MaybeStatic}
use Rattle.hir_life.specs.declared.maybe_static.MaybeStatic.TheVariants.{Static}
use Rattle.hir_number.specs.declared.numbered.NumberedType.{NumberedType, fold-NumberedType, roll-NumberedType}
use Rattle.hir_number.specs.declared.numbered.NumberedType.TheOpen.{NumberedType-F}
use Rattle.hir_number.specs.declared.numbered.Target.{Target}
use Rattle.hir_number.specs.declared.numbered.TraitTarget.{TraitTarget}
use Rattle.hir_number.specs.Shapes.{NumberLists}

-- what is filled takes the first lists of numbers, and leaves the others
abbrev pub Fill : Type 0 → Type 0
Fill A = NumberLists → A × NumberLists

-- the first list, the first number of that, and the lists after it
abbrev pub first_list : NumberLists → List (MaybeStatic ℕ)
first_list [] = []
first_list (l ∷ ls) = l

abbrev pub first_number : NumberLists → MaybeStatic ℕ
first_number ((n ∷ _) ∷ _) = n
first_number _ = Static

abbrev pub others_of : NumberLists → NumberLists
others_of [] = []
others_of (l ∷ ls) = ls

-- what is made of that which is filled
abbrev pub then_made : {A B : Type 0} → (A → B) → A × NumberLists → B × NumberLists
then_made make filled = (make filled.0, filled.1)

-- what paths lead to, with the generics of the next list
abbrev pub fill_target : Target → Fill Target
fill_target t ns = (record { place = t.place; kind = t.kind; lifetimes = first_list ns }, others_of ns)

abbrev pub fill_trait : TraitTarget → Fill TraitTarget
fill_trait t ns = (record { place = t.place; lifetimes = first_list ns }, others_of ns)

-- borrows, with the next number where there is one
abbrev pub fill_borrow : Option (MaybeStatic ℕ × Mutability) → Fill (Option (MaybeStatic ℕ × Mutability))
fill_borrow None ns = (None, ns)
fill_borrow (Some b) ns = (Some (first_number ns, b.1), others_of ns)

abbrev pub fill_optional : Option (MaybeStatic ℕ) → Fill (Option (MaybeStatic ℕ))
fill_optional None ns = (None, ns)
fill_optional (Some n) ns = (Some (first_number ns), others_of ns)

-- one after another
abbrev pub fill_each : {A : Type 0} → List (Fill A) → Fill (List A)
fill_each [] ns = ([], ns)
fill_each (f ∷ fs) ns = then_made (λ xs. (f ns).0 ∷ xs) (fill_each fs (f ns).1)

-- one level of a type, with the types in it
abbrev pub level_fill : NumberedType-F (Fill NumberedType) → Fill NumberedType
level_fill (NumberedType-F.Primitive p) ns = (roll-NumberedType (NumberedType-F.Primitive p), ns)
level_fill NumberedType-F.Ordering ns = (roll-NumberedType NumberedType-F.Ordering, ns)
level_fill (NumberedType-F.Named t) ns = then_made (λ x. roll-NumberedType (NumberedType-F.Named x)) (fill_target t ns)
level_fill (NumberedType-F.SelfType t) ns = then_made (λ x. roll-NumberedType (NumberedType-F.SelfType x)) (fill_target t ns)
level_fill (NumberedType-F.ImplTrait t) ns = then_made (λ x. roll-NumberedType (NumberedType-F.ImplTrait x)) (fill_trait t ns)
level_fill (NumberedType-F.Reference n m t) ns = then_made (λ x. roll-NumberedType (NumberedType-F.Reference (first_number ns) m x)) (t (others_of ns))
level_fill (NumberedType-F.Box t) ns = then_made (λ x. roll-NumberedType (NumberedType-F.Box x)) (t ns)
level_fill (NumberedType-F.Option t d) ns = then_made (λ x. roll-NumberedType (NumberedType-F.Option x d)) (t ns)
level_fill (NumberedType-F.Result t e d) ns = then_made (λ y. roll-NumberedType (NumberedType-F.Result (t ns).0 y d)) (e (t ns).1)
level_fill (NumberedType-F.Write w) ns = (roll-NumberedType (NumberedType-F.Write w), ns)
level_fill (NumberedType-F.StrReference n e d) ns = then_made (λ x. roll-NumberedType (NumberedType-F.StrReference x e d)) (fill_optional n ns)
level_fill (NumberedType-F.StrSlice e d) ns = (roll-NumberedType (NumberedType-F.StrSlice e d), ns)
level_fill (NumberedType-F.PrimitiveSlice b p d) ns = then_made (λ x. roll-NumberedType (NumberedType-F.PrimitiveSlice x p d)) (fill_borrow b ns)
level_fill (NumberedType-F.CustomTypeSlice b t d) ns =
    then_made (λ x. roll-NumberedType (NumberedType-F.CustomTypeSlice (fill_borrow b ns).0 x d)) (t (fill_borrow b ns).1)
level_fill (NumberedType-F.Function ts t m) ns =
    then_made (λ x. roll-NumberedType (NumberedType-F.Function (fill_each ts ns).0 x m)) (t (fill_each ts ns).1)
level_fill NumberedType-F.Unit ns = (roll-NumberedType NumberedType-F.Unit, ns)

-- a type
abbrev pub fill_type : NumberedType → Fill NumberedType
fill_type = fold-NumberedType (Fill NumberedType) level_fill

-- receivers, and what is returned, where there is anything
abbrev pub fill_own : Option Target → Fill (Option Target)
fill_own None ns = (None, ns)
fill_own (Some t) ns = then_made (λ u. Some u) (fill_target t ns)

abbrev pub fill_trait_own : Option TraitTarget → Fill (Option TraitTarget)
fill_trait_own None ns = (None, ns)
fill_trait_own (Some t) ns = then_made (λ u. Some u) (fill_trait t ns)

abbrev pub fill_output : Option NumberedType → Fill (Option NumberedType)
fill_output None ns = (None, ns)
fill_output (Some t) ns = then_made (λ u. Some u) (fill_type t ns)
