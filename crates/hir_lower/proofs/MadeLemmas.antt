-- What is made of items and of lists of them.
use Rattle.std.proofs.Common.{◌≡◌, ◌<◌, ℕ, List, [], ◌∷◌, ◌++◌, Bool, true, false, Option, Some, None, if◌then◌else◌, ap, length, map, refl, sym, ◌∙◌}
use Rattle.std.specs.Prelude.{IfSome, option_and_then, option_map, slice_get}
use Rattle.std.specs.List.{All, flat_map}
use Rattle.std.proofs.lemmas.List.Elements.{All-append, All-cons, All-head, All-nil, All-tail}
use Rattle.std.proofs.lemmas.Option.{slice_get_within}
use Rattle.bridge_ast.specs.Types.{item_of}
use Rattle.bridge_ast.specs.declared.place.ItemPlace.{ItemPlace}
use Rattle.bridge_decl.specs.declared.modules.Item.{Item}
use Rattle.bridge_decl.specs.declared.modules.Module.{Module}
use Rattle.hir_form.specs.ParamForms.{all_given}
use Rattle.hir_form.specs.ReturnForms.{both_given}
use Rattle.hir_lowering.specs.Interface.{Interface}
use Rattle.hir_lowering.specs.Kinds.{ItemMaking}
use Rattle.hir_lowering.specs.Placing.{beside_module, form_at, form_of}

-- ---- what is made where there is anything

pub made_of_both : {A B C : Type 0} (P : C → Type 0) (f : A → B → C) → ((a : A) (b : B) → P (f a b)) → (x : Option A) (y : Option B) → IfSome (both_given f x y) P
made_of_both P f makes (Some a) (Some b) = makes a b
made_of_both P f makes (Some a) None = tt
made_of_both P f makes None y = tt

pub made_of_one : {A B : Type 0} (P : B → Type 0) (f : A → B) → ((a : A) → P (f a)) → (x : Option A) → IfSome (option_map f x) P
made_of_one P f makes (Some a) = makes a
made_of_one P f makes None = tt

pub made_in_first : {D : Type 0} (P : D → Type 0) (b : Bool) (o : Option D) → IfSome o P → IfSome (if b then o else None) P
made_in_first P true o h = h
made_in_first P false o h = tt

pub made_in_second : {D : Type 0} (P : D → Type 0) (b : Bool) (o : Option D) → IfSome o P → IfSome (if b then None else o) P
made_in_second P true o h = tt
made_in_second P false o h = h

-- of what is made at a place, where it holds of all that is made of an item of a module
pub made_there :
    {D : Type 0} (it : Interface) (made : ItemMaking D) (place : ItemPlace) (P : Option Item → D → Type 0)
    → ((m : Module) (i : Item) → place.«module» < length it.modules → IfSome (form_of it made place (m, i)) (P (Some i)))
    → IfSome (form_at it made place) (P (item_of it.modules place))
made_there {D} it made place P makes = in_module (slice_get it.modules place.«module») refl where
  in_place : (m : Module) → place.«module» < length it.modules → (q : Option Item) → IfSome (option_and_then (form_of it made place) (beside_module m q)) (P q)
  in_place m within None = tt
  in_place m within (Some i) = makes m i within

  in_module : (o : Option Module) → slice_get it.modules place.«module» ≡ o
      → IfSome (option_and_then (form_of it made place) (option_and_then (λ m. beside_module m (slice_get m.items place.item)) o)) (P (option_and_then (λ m. slice_get m.items place.item) o))
  in_module None is = tt
  in_module (Some m) is = in_place m (slice_get_within it.modules place.«module» m is) (slice_get m.items place.item)

-- ---- lists

-- what is counted of all that is made is what is counted of all that it is made of
module _ {X D : Type 0} (form : X → Option D) (f : D → ℕ) (g : X → ℕ) (makes : (x : X) → IfSome (form x) (λ d. f d ≡ g x)) where
  pub counted : (xs : List X) (ds : List D) → all_given (map form xs) ≡ Some ds → map f ds ≡ map g xs
  counted [] ds is = let same : [] ≡ ds = cc in ap (map f) (sym same)
  counted (x ∷ xs) ds is = first (form x) (makes x) (counted xs) is where
    rest : (d : D) → f d ≡ g x → ((more : List D) → all_given (map form xs) ≡ Some more → map f more ≡ map g xs) → (o : Option (List D)) → all_given (map form xs) ≡ o
        → option_map (λ more. d ∷ more) o ≡ Some ds → map f ds ≡ map g (x ∷ xs)
    rest d one later None so all = absurd cc
    rest d one later (Some more) so all =
        let same : d ∷ more ≡ ds = cc in
        ap (map f) (sym same) ∙ ap (λ n. n ∷ map f more) one ∙ ap (λ ns. g x ∷ ns) (later more so)

    first : (o : Option D) → IfSome o (λ d. f d ≡ g x) → ((more : List D) → all_given (map form xs) ≡ Some more → map f more ≡ map g xs)
        → all_given (o ∷ map form xs) ≡ Some ds → map f ds ≡ map g (x ∷ xs)
    first None one later all = absurd cc
    first (Some d) one later all = rest d one later (all_given (map form xs)) refl all

-- what holds of all that lists give
pub all_flat : {X Y : Type 0} (P : Y → Type 0) (Q : X → Type 0) (f : X → List Y) → ((x : X) → Q x → All P (f x)) → (xs : List X) → All Q xs → All P (flat_map f xs)
all_flat P Q f gives [] all = All-nil P
all_flat P Q f gives (x ∷ xs) all =
    All-append P (f x) (flat_map f xs) (gives x (All-head Q x xs all)) (all_flat P Q f gives xs (All-tail Q x xs all))

-- what holds of all of a list and of more, as of each of these
pub all_front : {X Y : Type 0} (P : Y → Type 0) (f : X → Y) (xs : List X) (more : List Y) → All P (map f xs ++ more) → All (λ x. P (f x)) xs
all_front P f [] more all = All-nil (λ x. P (f x))
all_front P f (x ∷ xs) more all =
    All-cons (λ x. P (f x)) x xs (All-head P (f x) (map f xs ++ more) all) (all_front P f xs more (All-tail P (f x) (map f xs ++ more) all))
