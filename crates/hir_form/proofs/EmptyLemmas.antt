-- Lists of faults that are empty, and forms that there are.
use Rattle.std.proofs.Common.{◌≡◌, List, [], ◌∷◌, ◌++◌, Bool, true, false, if◌then◌else◌, Option, Some, None, is_some, refl}
use Rattle.std.specs.Prelude.{option_map}
use Rattle.bridge_grid.specs.declared.fault.TypeFault.{TypeFault}
use Rattle.bridge_grid.specs.Faults.{or_inside}
use Rattle.hir_form.specs.ParamForms.{all_given}
use Rattle.hir_form.specs.ReturnForms.{both_given}

pub no_cons : {A : Type 0} {x : A} {xs : List A} → x ∷ xs ≡ [] → ⊥
no_cons h = cc

-- what is said of a shape, and of what stands inside it
pub own_none : (xs more : List TypeFault) → or_inside xs more ≡ [] → xs ≡ []
own_none [] more h = refl
own_none (x ∷ xs) more h = h

pub inside_none : (xs more : List TypeFault) → or_inside xs more ≡ [] → more ≡ []
inside_none [] more h = h
inside_none (x ∷ xs) more h = absurd (no_cons h)

pub left_none : {A : Type 0} (xs ys : List A) → xs ++ ys ≡ [] → xs ≡ []
left_none [] ys h = refl
left_none (x ∷ xs) ys h = absurd (no_cons h)

pub right_none : {A : Type 0} (xs ys : List A) → xs ++ ys ≡ [] → ys ≡ []
right_none [] ys h = h
right_none (x ∷ xs) ys h = absurd (no_cons h)

-- where there is a fault otherwise, it is the first of the two
pub chosen_none : (b : Bool) (xs : List TypeFault) (f : TypeFault) → (if b then xs else f ∷ []) ≡ [] → xs ≡ []
chosen_none true xs f h = h
chosen_none false xs f h = absurd (no_cons h)

-- what is made of a form is there where the form is
pub map_given : {A B : Type 0} (f : A → B) (x : Option A) → is_some x ≡ true → is_some (option_map f x) ≡ true
map_given f (Some x) h = refl
map_given f None h = h

pub both_there : {A B C : Type 0} (f : A → B → C) (x : Option A) (y : Option B) → is_some x ≡ true → is_some y ≡ true → is_some (both_given f x y) ≡ true
both_there f (Some x) (Some y) h k = refl
both_there f (Some x) None h k = k
both_there f None y h k = h

pub all_more : {A : Type 0} (x : Option A) (xs : List (Option A)) → is_some x ≡ true → is_some (all_given xs) ≡ true → is_some (all_given (x ∷ xs)) ≡ true
all_more (Some x) xs h k = map_given _ _ k
all_more None xs h k = h
