-- The numbers in a type are those of its uses, in order.
use Rattle.std.proofs.Common.{◌≡◌, ℕ, List, [], ◌∷◌, ◌++◌, map, true, false, Bool, Option, Some, None, Ok, Err, Result, refl, sym, ap, subst, ◌∙◌}
use Rattle.std.specs.Prelude.{option_map}
use Rattle.std.specs.List.{flat_map}
use Rattle.bridge_decl.specs.declared.lifetimes.Lifetime.{Lifetime}
use Rattle.bridge_decl.specs.declared.paths.PathType.{PathType}
use Rattle.bridge_decl.specs.declared.types.Mutability.{Mutability}
use Rattle.bridge_decl.specs.declared.types.TypeName.{TypeName, roll-TypeName, map-TypeName}
use Rattle.bridge_decl.specs.declared.types.TypeName.TheOpen.{TypeName-F}
use Rattle.bridge_decl.specs.declared.types.TypeName.TheFolds.{fold-roll-TypeName, ind-TypeName}
use Rattle.hir_elide.specs.Occurrences.{Signature}
use Rattle.hir_elide.specs.Phases.{Phase}
use Rattle.hir_life.specs.declared.maybe_static.MaybeStatic.{MaybeStatic}
use Rattle.hir_number.specs.declared.fault.NumberFault.{NumberFault}
use Rattle.hir_number.specs.declared.fault.NumberFault.TheVariants as fault
use Rattle.hir_number.specs.declared.numbered.Kind.{Kind}
use Rattle.hir_number.specs.declared.numbered.NumberedType.{NumberedType, roll-NumberedType, map-NumberedType}
use Rattle.hir_number.specs.declared.numbered.NumberedType.TheOpen.{NumberedType-F}
use Rattle.hir_number.specs.declared.numbered.NumberedType.TheFolds.{fold-roll-NumberedType}
use Rattle.hir_number.specs.declared.numbered.Target.{Target}
use Rattle.hir_number.specs.declared.numbered.TraitTarget.{TraitTarget}
use Rattle.hir_number.specs.Naming.{Definition, Naming, trait_found, type_found}
use Rattle.hir_number.specs.Shapes.{NumberLists, borrow_numbers, level_numbers, numbers_in, optional_numbers}
use Rattle.hir_number.specs.Uses.{Use, One, Path, borrow_uses, concatenated, level_uses, optional_uses, trait_use, type_use, type_uses}
use Rattle.hir_number.specs.inside.Threads.{Run, ◌>>◌, run_next, given, in_order, lifetime_run, borrow_run, optional_run, generics_run, target, target_run, path_run, trait_target, trait_target_run, trait_run, level_run, type_run}

-- a use on its way
abbrev pub use_run : Phase → Use → Run (List (MaybeStatic ℕ))
use_run phase (One l) = lifetime_run phase l >> (λ n. given (n ∷ []))
use_run phase (Path is_self path None) = λ s. Err fault.UnresolvedPath
use_run phase (Path is_self path (Some found)) = generics_run phase is_self path found

-- uses on their way
abbrev pub uses_run : {U : Type 0} → (U → Run (List (MaybeStatic ℕ))) → List U → Run NumberLists
uses_run run us = in_order (map run us)

pub assoc : {A B C : Type 0} (r : Result (A × Signature) NumberFault) (f : A → Run B) (g : B → Run C) → run_next (run_next r f) g ≡ run_next r (λ x. f x >> g)
assoc (Ok both) f g = refl
assoc (Err e) f g = refl

pub same_next : {A B : Type 0} (r : Result (A × Signature) NumberFault) (f g : A → Run B) → ((x : A) (s : Signature) → f x s ≡ g x s) → run_next r f ≡ run_next r g
same_next (Ok both) f g h = h both.0 both.1
same_next (Err e) f g h = refl

-- of uses that are lowered so
module _ {U : Type 0} (numbered : U → Run (List (MaybeStatic ℕ))) where
  pub uses_append : (us vs : List U) (s : Signature) → uses_run numbered (us ++ vs) s ≡ (uses_run numbered us >> (λ xs. uses_run numbered vs >> (λ ys. given (xs ++ ys)))) s
  uses_append [] vs s = unit (uses_run numbered vs s)
    where
      unit : (r : Result (NumberLists × Signature) NumberFault) → r ≡ run_next r (λ ys. given ys)
      unit (Ok both) = refl
      unit (Err e) = refl
  uses_append (u ∷ us) vs s =
      same_next (numbered u s) _ _ (λ x t.
      ap (λ r. run_next r (λ xs. given (x ∷ xs))) (uses_append us vs t)
      ∙ assoc (uses_run numbered us t) (λ xs. uses_run numbered vs >> (λ ys. given (xs ++ ys))) (λ zs. given (x ∷ zs))
      ∙ same_next (uses_run numbered us t) _ _ (λ xs u. assoc (uses_run numbered vs u) (λ ys. given (xs ++ ys)) (λ zs. given (x ∷ zs)))
      ∙ sym (assoc (uses_run numbered us t) (λ xs. given (x ∷ xs)) (λ xs. uses_run numbered vs >> (λ ys. given (xs ++ ys)))))
      ∙ sym (assoc (numbered u s) (λ x. uses_run numbered us >> (λ xs. given (x ∷ xs))) (λ xs. uses_run numbered vs >> (λ ys. given (xs ++ ys))))

  -- what is made has the numbers that the uses are lowered to
  abbrev pub FlatBy : {A : Type 0} → (A → NumberLists) → Run A → List U → Type 0
  FlatBy of run us = (s : Signature) → uses_run numbered us s ≡ (run >> (λ x. given (of x))) s

  pub flat_given : {A : Type 0} (of : A → NumberLists) (x : A) → of x ≡ [] → FlatBy of (given x) []
  flat_given of x h s = ap (λ ns. Ok (ns, s)) (sym h)

  pub flat_one : {A B : Type 0} (of : A → NumberLists) (all : B → NumberLists) (run : Run A) (make : A → B) (us : List U) → FlatBy of run us → ((x : A) → all (make x) ≡ of x)
      → FlatBy all (run >> (λ x. given (make x))) us
  flat_one of all run make us flat h s =
      flat s ∙ same_next (run s) _ _ (λ x t. ap (λ ns. Ok (ns, t)) (sym (h x))) ∙ sym (assoc (run s) (λ x. given (make x)) (λ y. given (all y)))

  pub flat_two : {A B C : Type 0} (of : A → NumberLists) (of' : B → NumberLists) (all : C → NumberLists) (run : Run A) (run' : Run B) (make : A → B → C) (us vs : List U)
      → FlatBy of run us → FlatBy of' run' vs → ((x : A) (y : B) → all (make x y) ≡ of x ++ of' y)
      → FlatBy all (run >> (λ x. run' >> (λ y. given (make x y)))) (us ++ vs)
  flat_two of of' all run run' make us vs flat flat' h s =
      uses_append us vs s
      ∙ ap (λ r. run_next r (λ xs. uses_run numbered vs >> (λ ys. given (xs ++ ys)))) (flat s)
      ∙ assoc (run s) (λ x. given (of x)) (λ xs. uses_run numbered vs >> (λ ys. given (xs ++ ys)))
      ∙ same_next (run s) _ _ (λ x t.
      ap (λ r. run_next r (λ ys. given (of x ++ ys))) (flat' t)
      ∙ assoc (run' t) (λ y. given (of' y)) (λ ys. given (of x ++ ys))
      ∙ same_next (run' t) _ _ (λ y u. ap (λ ns. Ok (ns, u)) (sym (h x y)))
      ∙ sym (assoc (run' t) (λ y. given (make x y)) (λ z. given (all z))))
      ∙ sym (assoc (run s) (λ x. run' >> (λ y. given (make x y))) (λ z. given (all z)))

  pub flat_each_of : {T A : Type 0} (of : A → NumberLists) (run : T → Run A) (us : T → List U) → ((t : T) → FlatBy of (run t) (us t)) → (ts : List T)
      → FlatBy (λ xs. concatenated (map of xs)) (in_order (map run ts)) (flat_map us ts)
  flat_each_of of run us flat [] = flat_given (λ xs. concatenated (map of xs)) [] refl
  flat_each_of of run us flat (t ∷ ts) =
      flat_two of (λ xs. concatenated (map of xs)) (λ xs. concatenated (map of xs)) (run t) (in_order (map run ts)) (λ x xs. x ∷ xs) (us t) (flat_map us ts) (flat t) (flat_each_of of run us flat ts) (λ x xs. refl)

module _ (phase : Phase) where
  abbrev pub Flat : {A : Type 0} → (A → NumberLists) → Run A → List Use → Type 0
  Flat of run us = FlatBy (use_run phase) of run us

  pub flat_lifetime : (l : Lifetime) → Flat (λ n. (n ∷ []) ∷ []) (lifetime_run phase l) (One l ∷ [])
  flat_lifetime l s = assoc (lifetime_run phase l s) (λ n. given (n ∷ [])) (λ x. given (x ∷ []))

  pub flat_borrow : (b : Option (Lifetime × Mutability)) → Flat borrow_numbers (borrow_run phase b) (borrow_uses b)
  flat_borrow None = flat_given (use_run phase) borrow_numbers None refl
  flat_borrow (Some b) = flat_one (use_run phase) (λ n. (n ∷ []) ∷ []) borrow_numbers (lifetime_run phase b.0) (λ n. Some (n, b.1)) (One b.0 ∷ []) (flat_lifetime b.0) (λ n. refl)

  flat_optional : (l : Option Lifetime) → Flat optional_numbers (optional_run phase l) (optional_uses l)
  flat_optional None = flat_given (use_run phase) optional_numbers None refl
  flat_optional (Some l) = flat_one (use_run phase) (λ n. (n ∷ []) ∷ []) optional_numbers (lifetime_run phase l) (λ n. Some n) (One l ∷ []) (flat_lifetime l) (λ n. refl)

  flat_use : (u : Use) → Flat (λ ns. ns ∷ []) (use_run phase u) (u ∷ [])
  flat_use u s = refl

  pub flat_target : (is_self : Bool) (path : PathType) (named : Option (Definition × Kind))
      → Flat (λ (t : Target). t.lifetimes ∷ []) (target_run phase is_self path named) (Path is_self path (option_map (λ (f : Definition × Kind). f.0) named) ∷ [])
  flat_target is_self path None s = refl
  flat_target is_self path (Some found) s =
      flat_one (use_run phase) (λ ns. ns ∷ []) (λ (t : Target). t.lifetimes ∷ []) (generics_run phase is_self path found.0) (target found.0.place found.1)
      (Path is_self path (Some found.0) ∷ []) (flat_use (Path is_self path (Some found.0))) (λ ns. refl) s

  pub flat_path : (names : Naming) (is_self : Bool) (path : PathType) → Flat (λ (t : Target). t.lifetimes ∷ []) (path_run phase names is_self path) (type_use names is_self path ∷ [])
  flat_path names is_self path = flat_target is_self path (type_found (names.type_at path.segments))

  flat_trait_target : (is_self : Bool) (path : PathType) (named : Option Definition)
      → Flat (λ (t : TraitTarget). t.lifetimes ∷ []) (trait_target_run phase is_self path named) (Path is_self path named ∷ [])
  flat_trait_target is_self path None s = refl
  flat_trait_target is_self path (Some found) s =
      flat_one (use_run phase) (λ ns. ns ∷ []) (λ (t : TraitTarget). t.lifetimes ∷ []) (generics_run phase is_self path found) (trait_target found.place)
      (Path is_self path (Some found) ∷ []) (flat_use (Path is_self path (Some found))) (λ ns. refl) s

  pub flat_trait : (names : Naming) (is_self : Bool) (path : PathType) → Flat (λ (t : TraitTarget). t.lifetimes ∷ []) (trait_run phase names is_self path) (trait_use names is_self path ∷ [])
  flat_trait names is_self path = flat_trait_target is_self path (trait_found (names.trait_at path.segments))

  module _ (names : Naming) where
    abbrev Claim : TypeName → Type 0
    Claim t = Flat numbers_in (type_run phase names t) (type_uses names t)

    roll_numbers : (x : NumberedType-F NumberedType) → numbers_in (roll-NumberedType x) ≡ level_numbers (map-NumberedType NumberedType NumberLists numbers_in x)
    roll_numbers x = fold-roll-NumberedType NumberLists level_numbers x

    flat_each : (ys : List ((t : TypeName) × Claim t)) → Flat (λ xs. concatenated (map numbers_in xs)) (in_order (map (type_run phase names) (map (λ e. e.0) ys))) (concatenated (map (type_uses names) (map (λ e. e.0) ys)))
    flat_each [] = flat_given (use_run phase) (λ xs. concatenated (map numbers_in xs)) [] refl
    flat_each (y ∷ ys) =
        flat_two (use_run phase) numbers_in (λ xs. concatenated (map numbers_in xs)) (λ xs. concatenated (map numbers_in xs)) (type_run phase names y.0)
        (in_order (map (type_run phase names) (map (λ e. e.0) ys))) (λ x xs. x ∷ xs) (type_uses names y.0)
        (concatenated (map (type_uses names) (map (λ e. e.0) ys))) y.1 (flat_each ys) (λ x xs. refl)

    unfoldable Layered : TypeName-F ((t : TypeName) × Claim t) → Type 0
    Layered y =
        let x : TypeName-F TypeName = map-TypeName ((t : TypeName) × Claim t) TypeName (λ e. e.0) y in
        Flat numbers_in (level_run phase names (map-TypeName TypeName (Run NumberedType) (type_run phase names) x))
        (level_uses names (map-TypeName TypeName (List Use) (type_uses names) x))

    layer : (y : TypeName-F ((t : TypeName) × Claim t)) → Layered y
    unfolding Layered
    layer (TypeName-F.Primitive p) = flat_given (use_run phase) numbers_in _ (roll_numbers (NumberedType-F.Primitive p))
    layer TypeName-F.Ordering = flat_given (use_run phase) numbers_in _ (roll_numbers NumberedType-F.Ordering)
    layer (TypeName-F.Named p) = flat_one (use_run phase) (λ (t : Target). t.lifetimes ∷ []) numbers_in _ (λ t. roll-NumberedType (NumberedType-F.Named t)) (type_use names false p ∷ []) (flat_path names false p) (λ t. roll_numbers (NumberedType-F.Named t))
    layer (TypeName-F.SelfType p) = flat_one (use_run phase) (λ (t : Target). t.lifetimes ∷ []) numbers_in _ (λ t. roll-NumberedType (NumberedType-F.SelfType t)) (type_use names true p ∷ []) (flat_path names true p) (λ t. roll_numbers (NumberedType-F.SelfType t))
    layer (TypeName-F.ImplTrait p) = flat_one (use_run phase) (λ (t : TraitTarget). t.lifetimes ∷ []) numbers_in _ (λ t. roll-NumberedType (NumberedType-F.ImplTrait t)) (trait_use names false p ∷ []) (flat_trait names false p) (λ t. roll_numbers (NumberedType-F.ImplTrait t))
    layer (TypeName-F.Reference l m t) = flat_two (use_run phase) (λ n. (n ∷ []) ∷ []) numbers_in numbers_in _ _ (λ n i. roll-NumberedType (NumberedType-F.Reference n m i)) (One l ∷ []) (type_uses names t.0) (flat_lifetime l) t.1 (λ n i. roll_numbers (NumberedType-F.Reference n m i))
    layer (TypeName-F.Box t) = flat_one (use_run phase) numbers_in numbers_in _ (λ i. roll-NumberedType (NumberedType-F.Box i)) (type_uses names t.0) t.1 (λ i. roll_numbers (NumberedType-F.Box i))
    layer (TypeName-F.Option t d) = flat_one (use_run phase) numbers_in numbers_in _ (λ i. roll-NumberedType (NumberedType-F.Option i d)) (type_uses names t.0) t.1 (λ i. roll_numbers (NumberedType-F.Option i d))
    layer (TypeName-F.Result t e d) = flat_two (use_run phase) numbers_in numbers_in numbers_in _ _ (λ i j. roll-NumberedType (NumberedType-F.Result i j d)) (type_uses names t.0) (type_uses names e.0) t.1 e.1 (λ i j. roll_numbers (NumberedType-F.Result i j d))
    layer (TypeName-F.Write w) = flat_given (use_run phase) numbers_in _ (roll_numbers (NumberedType-F.Write w))
    layer (TypeName-F.StrReference l e d) = flat_one (use_run phase) optional_numbers numbers_in _ (λ n. roll-NumberedType (NumberedType-F.StrReference n e d)) (optional_uses l) (flat_optional l) (λ n. roll_numbers (NumberedType-F.StrReference n e d))
    layer (TypeName-F.StrSlice e d) = flat_given (use_run phase) numbers_in _ (roll_numbers (NumberedType-F.StrSlice e d))
    layer (TypeName-F.PrimitiveSlice b p d) = flat_one (use_run phase) borrow_numbers numbers_in _ (λ n. roll-NumberedType (NumberedType-F.PrimitiveSlice n p d)) (borrow_uses b) (flat_borrow b) (λ n. roll_numbers (NumberedType-F.PrimitiveSlice n p d))
    layer (TypeName-F.CustomTypeSlice b t d) = flat_two (use_run phase) borrow_numbers numbers_in numbers_in _ _ (λ n i. roll-NumberedType (NumberedType-F.CustomTypeSlice n i d)) (borrow_uses b) (type_uses names t.0) (flat_borrow b) t.1 (λ n i. roll_numbers (NumberedType-F.CustomTypeSlice n i d))
    layer (TypeName-F.Function ts t m) = flat_two (use_run phase) (λ xs. concatenated (map numbers_in xs)) numbers_in numbers_in _ _ (λ is o. roll-NumberedType (NumberedType-F.Function is o m)) (concatenated (map (type_uses names) (map (λ e. e.0) ts))) (type_uses names t.0) (flat_each ts) t.1 (λ is o. roll_numbers (NumberedType-F.Function is o m))
    layer TypeName-F.Unit = flat_given (use_run phase) numbers_in _ (roll_numbers NumberedType-F.Unit)

    pub flat_type : (t : TypeName) → Flat numbers_in (type_run phase names t) (type_uses names t)
    unfolding Layered
    flat_type = ind-TypeName Claim (λ x y is.
        let run = level_run phase names (map-TypeName TypeName (Run NumberedType) (type_run phase names) x) in
        let there : Flat numbers_in run (level_uses names (map-TypeName TypeName (List Use) (type_uses names) x)) =
        subst (λ z. Flat numbers_in (level_run phase names (map-TypeName TypeName (Run NumberedType) (type_run phase names) z))
        (level_uses names (map-TypeName TypeName (List Use) (type_uses names) z))) is (layer y) in
        subst (λ r. Flat numbers_in r (type_uses names (roll-TypeName x))) (sym (fold-roll-TypeName (Run NumberedType) (level_run phase names) x))
        (subst (λ us. Flat numbers_in run us) (sym (fold-roll-TypeName (List Use) (level_uses names) x)) there))
