-- A numbered type is what comes of its bare type where the numbers in it are filled in again, one after another. So it is the only one with
-- this bare type and these numbers.
use Rattle.std.proofs.Common.{◌≡◌, ℕ, List, [], ◌∷◌, ◌++◌, map, Option, Some, None, refl, sym, ap, subst, ◌∙◌, append_assoc}
use Rattle.bridge_decl.specs.declared.types.Mutability.{Mutability}
use Rattle.hir_life.specs.declared.maybe_static.MaybeStatic.{MaybeStatic}
use Rattle.hir_number.specs.declared.numbered.NumberedType.{NumberedType, roll-NumberedType, map-NumberedType}
use Rattle.hir_number.specs.declared.numbered.NumberedType.TheOpen.{NumberedType-F}
use Rattle.hir_number.specs.declared.numbered.NumberedType.TheFolds.{fold-roll-NumberedType, ind-NumberedType}
use Rattle.hir_number.specs.declared.numbered.Target.{Target}
use Rattle.hir_number.specs.declared.numbered.TraitTarget.{TraitTarget}
use Rattle.hir_number.specs.Shapes.{NumberLists, bare, bare_borrow, bare_optional, bare_target, bare_trait, borrow_numbers, level_bare, level_numbers, numbers_in, optional_numbers}
use Rattle.hir_number.specs.Uses.{concatenated}
use Rattle.hir_stages.specs.Filling.{Fill, fill_borrow, fill_each, fill_optional, fill_target, fill_trait, fill_type, level_fill, then_made}

-- filled with its numbers it is itself
abbrev pub Refills : {A B : Type 0} → (B → Fill A) → (A → B) → (A → NumberLists) → A → Type 0
Refills fill strip numbers x = (rest : NumberLists) → fill (strip x) (numbers x ++ rest) ≡ (x, rest)

pub target_refills : (t : Target) → Refills fill_target bare_target (λ u. u.lifetimes ∷ []) t
target_refills t rest = refl

pub trait_refills : (t : TraitTarget) → Refills fill_trait bare_trait (λ u. u.lifetimes ∷ []) t
trait_refills t rest = refl

pub borrow_refills : (b : Option (MaybeStatic ℕ × Mutability)) → Refills fill_borrow bare_borrow borrow_numbers b
borrow_refills None rest = refl
borrow_refills (Some b) rest = refl

optional_refills : (n : Option (MaybeStatic ℕ)) → Refills fill_optional bare_optional optional_numbers n
optional_refills None rest = refl
optional_refills (Some n) rest = refl

abbrev Claim : NumberedType → Type 0
Claim t = Refills fill_type bare numbers_in t

abbrev plain : NumberedType-F ((t : NumberedType) × Claim t) → NumberedType-F NumberedType
plain y = map-NumberedType ((t : NumberedType) × Claim t) NumberedType (λ e. e.0) y

abbrev types_of : List ((t : NumberedType) × Claim t) → List NumberedType
types_of ys = map (λ e. e.0) ys

-- one after the other
both_refill :
    {A B C : Type 0} (f : Fill A) (g : Fill B) (make : A → B → C) (xs ys rest : NumberLists) (a : A) (b : B)
    → f (xs ++ (ys ++ rest)) ≡ (a, ys ++ rest) → g (ys ++ rest) ≡ (b, rest)
    → then_made (make (f ((xs ++ ys) ++ rest)).0) (g (f ((xs ++ ys) ++ rest)).1) ≡ (make a b, rest)
both_refill f g make xs ys rest a b first second =
    let here : f ((xs ++ ys) ++ rest) ≡ (a, ys ++ rest) = ap f (append_assoc xs ys rest) ∙ first in
    subst (λ r. then_made (make r.0) (g r.1) ≡ (make a b, rest)) (sym here) (ap (then_made (make a)) second)

each_refill : (ys : List ((t : NumberedType) × Claim t)) (rest : NumberLists)
    → fill_each (map fill_type (map bare (types_of ys))) (concatenated (map numbers_in (types_of ys)) ++ rest) ≡ (types_of ys, rest)
each_refill [] rest = refl
each_refill (y ∷ ys) rest =
    both_refill (fill_type (bare y.0)) (fill_each (map fill_type (map bare (types_of ys)))) (λ x xs. x ∷ xs) (numbers_in y.0)
    (concatenated (map numbers_in (types_of ys))) rest y.0 (types_of ys) (y.1 (concatenated (map numbers_in (types_of ys)) ++ rest)) (each_refill ys rest)

unfoldable Layered : NumberedType-F ((t : NumberedType) × Claim t) → Type 0
Layered y = (rest : NumberLists)
    → level_fill (map-NumberedType NumberedType (Fill NumberedType) fill_type (level_bare (map-NumberedType NumberedType NumberedType bare (plain y))))
    (level_numbers (map-NumberedType NumberedType NumberLists numbers_in (plain y)) ++ rest) ≡ (roll-NumberedType (plain y), rest)

layer : (y : NumberedType-F ((t : NumberedType) × Claim t)) → Layered y
unfolding Layered
layer (NumberedType-F.Primitive p) rest = refl
layer NumberedType-F.Ordering rest = refl
layer (NumberedType-F.Named t) rest = refl
layer (NumberedType-F.SelfType t) rest = refl
layer (NumberedType-F.ImplTrait t) rest = refl
layer (NumberedType-F.Reference n m t) rest = ap (then_made (λ x. roll-NumberedType (NumberedType-F.Reference n m x))) (t.1 rest)
layer (NumberedType-F.Box t) rest = ap (then_made (λ x. roll-NumberedType (NumberedType-F.Box x))) (t.1 rest)
layer (NumberedType-F.Option t d) rest = ap (then_made (λ x. roll-NumberedType (NumberedType-F.Option x d))) (t.1 rest)
layer (NumberedType-F.Result t e d) rest =
    both_refill (fill_type (bare t.0)) (fill_type (bare e.0)) (λ x y. roll-NumberedType (NumberedType-F.Result x y d)) (numbers_in t.0) (numbers_in e.0) rest t.0 e.0
    (t.1 (numbers_in e.0 ++ rest)) (e.1 rest)
layer (NumberedType-F.Write w) rest = refl
layer (NumberedType-F.StrReference n e d) rest = ap (then_made (λ x. roll-NumberedType (NumberedType-F.StrReference x e d))) (optional_refills n rest)
layer (NumberedType-F.StrSlice e d) rest = refl
layer (NumberedType-F.PrimitiveSlice b p d) rest = ap (then_made (λ x. roll-NumberedType (NumberedType-F.PrimitiveSlice x p d))) (borrow_refills b rest)
layer (NumberedType-F.CustomTypeSlice b t d) rest =
    both_refill (fill_borrow (bare_borrow b)) (fill_type (bare t.0)) (λ x y. roll-NumberedType (NumberedType-F.CustomTypeSlice x y d)) (borrow_numbers b) (numbers_in t.0) rest b t.0
    (borrow_refills b (numbers_in t.0 ++ rest)) (t.1 rest)
layer (NumberedType-F.Function ts t m) rest =
    both_refill (fill_each (map fill_type (map bare (types_of ts)))) (fill_type (bare t.0)) (λ x y. roll-NumberedType (NumberedType-F.Function x y m))
    (concatenated (map numbers_in (types_of ts))) (numbers_in t.0) rest (types_of ts) t.0 (each_refill ts (numbers_in t.0 ++ rest)) (t.1 rest)
layer NumberedType-F.Unit rest = refl

rolled : (x : NumberedType-F NumberedType) (rest : NumberLists)
    → fill_type (bare (roll-NumberedType x)) (numbers_in (roll-NumberedType x) ++ rest)
    ≡ level_fill (map-NumberedType NumberedType (Fill NumberedType) fill_type (level_bare (map-NumberedType NumberedType NumberedType bare x))) (level_numbers (map-NumberedType NumberedType NumberLists numbers_in x) ++ rest)
rolled x rest =
    ap (λ t. fill_type t (numbers_in (roll-NumberedType x) ++ rest)) (fold-roll-NumberedType NumberedType (λ y. roll-NumberedType (level_bare y)) x)
    ∙ ap (λ f. f (numbers_in (roll-NumberedType x) ++ rest)) (fold-roll-NumberedType (Fill NumberedType) level_fill (level_bare (map-NumberedType NumberedType NumberedType bare x)))
    ∙ ap (λ ns. level_fill (map-NumberedType NumberedType (Fill NumberedType) fill_type (level_bare (map-NumberedType NumberedType NumberedType bare x))) (ns ++ rest)) (fold-roll-NumberedType NumberLists level_numbers x)

-- each type is what comes of its bare type and its numbers
pub type_refills : (t : NumberedType) → Refills fill_type bare numbers_in t
unfolding Layered
type_refills = ind-NumberedType Claim (λ x y is rest.
    rolled x rest ∙ subst (λ z. level_fill (map-NumberedType NumberedType (Fill NumberedType) fill_type (level_bare (map-NumberedType NumberedType NumberedType bare z)))
    (level_numbers (map-NumberedType NumberedType NumberLists numbers_in z) ++ rest) ≡ (roll-NumberedType z, rest)) is (layer y rest))

pub types_refill : (ts : List NumberedType) (rest : NumberLists) → fill_each (map fill_type (map bare ts)) (concatenated (map numbers_in ts) ++ rest) ≡ (ts, rest)
types_refill [] rest = refl
types_refill (t ∷ ts) rest =
    both_refill (fill_type (bare t)) (fill_each (map fill_type (map bare ts))) (λ x xs. x ∷ xs) (numbers_in t) (concatenated (map numbers_in ts)) rest t ts
    (type_refills t (concatenated (map numbers_in ts) ++ rest)) (types_refill ts rest)
