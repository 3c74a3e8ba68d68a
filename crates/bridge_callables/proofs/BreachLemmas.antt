-- A method in which nothing is wrong has a receiver exactly where one is declared: its path names a type.
use Rattle.std.proofs.Common.{◌≡◌, ℕ, List, [], ◌∷◌, ◌++◌, map, Bool, true, false, Option, Some, None, if◌then◌else◌, refl, ap, ◌∙◌}
use Rattle.std.specs.Prelude.{is_some, length, nat_lt, option_map}
use Rattle.std.specs.List.{flat_map}
use Rattle.bridge_ast.specs.declared.place.ItemPlace.{ItemPlace}
use Rattle.bridge_decl.specs.Lifetimes.{lifetime_names}
use Rattle.bridge_decl.specs.declared.lifetimes.Lifetime.{Lifetime}
use Rattle.bridge_decl.specs.declared.methods.Method.{Method}
use Rattle.bridge_decl.specs.declared.methods.SelfParam.{SelfParam}
use Rattle.bridge_decl.specs.declared.paths.PathType.{PathType}
use Rattle.bridge_decl.specs.declared.types.Mutability.{Mutability}
use Rattle.hir_elide.specs.Numbering.{most}
use Rattle.hir_elide.specs.Occurrences.{Borrow, Counting}
use Rattle.hir_elide.specs.Phases.{Using, Returning}
use Rattle.hir_number.specs.Breaches.{At, Broken, Demand, Equal, TooManyLifetimes, UnresolvedPath, arity_breaches, breaches_of, method_breaches, self_breaches, unknown, use_breaches, uses_of}
use Rattle.hir_number.specs.Naming.{Definition, Naming, type_found}
use Rattle.hir_number.specs.Numbered.{receiver_shape, target_of}
use Rattle.hir_number.specs.Signatures.{Section, Usual, method_uses, output_uses, param_uses, placed, receiver_borrow, receiver_uses, signature_uses, without_writer}
use Rattle.hir_number.specs.Uses.{Path, Use, borrow_uses, type_use}
use Rattle.hir_number.specs.declared.numbered.Kind.{Kind}

-- ---- lists without elements

some_none : {A : Type 0} (x : A) (xs : List A) → x ∷ xs ≡ [] → ⊥
some_none x xs is = cc

first_empty : {A : Type 0} (xs ys : List A) → xs ++ ys ≡ [] → xs ≡ []
first_empty [] ys is = refl
first_empty (x ∷ xs) ys is = absurd (some_none x (xs ++ ys) is)

second_empty : {A : Type 0} (xs ys : List A) → xs ++ ys ≡ [] → ys ≡ []
second_empty [] ys is = is
second_empty (x ∷ xs) ys is = absurd (some_none x (xs ++ ys) is)

module _ {A B C : Type 0} (f : B → List C) (g : A → B) where
  later_quiet : (xs ys : List A) → flat_map f (map g (xs ++ ys)) ≡ [] → flat_map f (map g ys) ≡ []
  later_quiet [] ys is = is
  later_quiet (x ∷ xs) ys is = later_quiet xs ys (second_empty (f (g x)) (flat_map f (map g (xs ++ ys))) is)

  earlier_quiet : (xs ys : List A) → flat_map f (map g (xs ++ ys)) ≡ [] → flat_map f (map g xs) ≡ []
  earlier_quiet [] ys is = refl
  earlier_quiet (x ∷ xs) ys is =
      ap (λ here. here ++ flat_map f (map g xs)) (first_empty (f (g x)) (flat_map f (map g (xs ++ ys))) is)
      ∙ earlier_quiet xs ys (second_empty (f (g x)) (flat_map f (map g (xs ++ ys))) is)

-- ---- receivers

-- a path with which nothing is wrong names a type
named : (ds : List (List ℕ)) (demand : Demand) (path : PathType) (o : Option (Definition × Kind)) → use_breaches ds demand (Path true path (option_map (λ found. found.0) o)) ≡ []
    → is_some (option_map target_of o) ≡ true
named ds demand path None is =
    absurd (some_none (UnresolvedPath path) []
    (first_empty (arity_breaches None path) (self_breaches true demand path None)
    (first_empty (arity_breaches None path ++ self_breaches true demand path None) (flat_map (unknown ds) path.lifetimes) is)))
named ds demand path (Some found) is = refl

own_named : (names : Naming) (ds : List (List ℕ)) (demand : Demand) (borrow : Option (Lifetime × Mutability)) (receiver : Option SelfParam) (params : List Use) (part : Section) (outs : List Use)
    → breaches_of ds demand (uses_of (signature_uses borrow (receiver_uses names receiver ++ params) part outs)) ≡ [] → is_some (receiver_shape names receiver) ≡ is_some receiver
own_named names ds demand borrow None params part outs is = refl
own_named names ds demand borrow (Some receiver) params part outs is =
    let first = placed (Usual (Using Borrow)) (borrow_uses borrow) in
    let inputs = placed (Usual (Using Counting)) (type_use names true receiver.path_type ∷ params) in
    named ds demand receiver.path_type (type_found (names.type_at receiver.path_type.segments))
    (first_empty (use_breaches ds demand (type_use names true receiver.path_type)) (breaches_of ds demand (uses_of (placed (Usual (Using Counting)) params)))
    (later_quiet (use_breaches ds demand) (λ p. p.1) first inputs (earlier_quiet (use_breaches ds demand) (λ p. p.1) (first ++ inputs) (placed part outs) is)))

within : (b : Bool) (others : List Broken) → (if b then TooManyLifetimes ∷ [] else others) ≡ [] → others ≡ []
within true others is = absurd (some_none TooManyLifetimes [] is)
within false others is = is

pub receiver_there : (names : Naming) (place : ItemPlace) (method : Method) → method_breaches names place method ≡ [] → is_some (receiver_shape names method.self_param) ≡ is_some method.self_param
receiver_there names place method is =
    let ds = lifetime_names method.lifetime_env in
    let own = breaches_of ds (At place) (type_use names true method.self_type ∷ []) in
    let others = breaches_of ds (Equal method.self_type) (uses_of (method_uses names method)) in
    own_named names ds (Equal method.self_type) (receiver_borrow method.self_param) method.self_param (param_uses names (without_writer method.params)) (Usual Returning) (output_uses names method.return_type)
    (second_empty own others (within (nat_lt most (length method.lifetime_env.nodes)) (own ++ others) is))
