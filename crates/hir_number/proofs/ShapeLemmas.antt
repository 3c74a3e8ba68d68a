-- What a type is numbered to, without its numbers, is the declared type without its lifetimes.
use Rattle.std.proofs.Common.{◌≡◌, ℕ, List, [], ◌∷◌, map, Bool, Option, Some, None, Ok, Err, Result, refl, sym, ap, subst, ◌∙◌}
use Rattle.std.specs.Prelude.{⊤, true, false}
use Rattle.bridge_decl.specs.declared.lifetimes.Lifetime.{Lifetime}
use Rattle.bridge_decl.specs.declared.paths.PathType.{PathType}
use Rattle.bridge_decl.specs.declared.types.Mutability.{Mutability}
use Rattle.bridge_decl.specs.declared.types.TypeName.{TypeName, roll-TypeName, map-TypeName}
use Rattle.bridge_decl.specs.declared.types.TypeName.TheOpen.{TypeName-F}
use Rattle.bridge_decl.specs.declared.types.TypeName.TheFolds.{fold-roll-TypeName, ind-TypeName}
use Rattle.hir_elide.specs.Occurrences.{Signature}
use Rattle.hir_elide.specs.Phases.{Phase}
use Rattle.hir_life.specs.declared.maybe_static.MaybeStatic.{MaybeStatic}
use Rattle.hir_life.specs.declared.maybe_static.MaybeStatic.TheVariants.{Static}
use Rattle.hir_number.specs.declared.fault.NumberFault.{NumberFault}
use Rattle.hir_number.specs.declared.fault.NumberFault.TheVariants as fault
use Rattle.hir_number.specs.declared.numbered.Kind.{Kind}
use Rattle.hir_number.specs.declared.numbered.NumberedType.{NumberedType, roll-NumberedType, map-NumberedType}
use Rattle.hir_number.specs.declared.numbered.NumberedType.TheOpen.{NumberedType-F}
use Rattle.hir_number.specs.declared.numbered.NumberedType.TheFolds.{fold-roll-NumberedType}
use Rattle.hir_number.specs.declared.numbered.Target.{Target}
use Rattle.hir_number.specs.declared.numbered.TraitTarget.{TraitTarget}
use Rattle.hir_number.specs.Naming.{Definition, Naming, trait_found, type_found}
use Rattle.hir_number.specs.Shapes.{bare, bare_borrow, bare_optional, bare_target, bare_trait, borrow_shape, level_bare, level_shape, optional_shape, shape, target_shape, trait_shape}
use Rattle.hir_number.specs.inside.Threads.{Run, ◌>>◌, run_next, given, in_order, lifetime_run, borrow_run, optional_run, generics_run, target, target_run, trait_target, trait_target_run, level_run, type_run}

-- what comes is so
abbrev pub OkIs : {A : Type 0} → (A → Type 0) → Result (A × Signature) NumberFault → Type 0
OkIs P (Ok both) = P both.0
OkIs P (Err e) = ⊤

unfoldable pub Bears : {A : Type 0} → (A → Type 0) → Run A → Type 0
Bears P run = (s : Signature) → OkIs P (run s)

any_ok : {A : Type 0} (r : Result (A × Signature) NumberFault) → OkIs (λ _. ⊤) r
any_ok (Ok both) = tt
any_ok (Err e) = tt

pub bears_any : {A : Type 0} (run : Run A) → Bears (λ _. ⊤) run
unfolding Bears
bears_any run s = any_ok (run s)

pub bears_given : {A : Type 0} (P : A → Type 0) (x : A) → P x → Bears P (given x)
unfolding Bears
bears_given P x h s = h

pub bears_err : {A : Type 0} (P : A → Type 0) (e : NumberFault) → Bears P (λ s. Err e)
unfolding Bears
bears_err P e s = tt

pub bears_at : {A : Type 0} (P : A → Type 0) (run : Run A) → Bears P run → (s : Signature) → OkIs P (run s)
unfolding Bears
bears_at P run h s = h s

next_ok : {A B : Type 0} (P : A → Type 0) (Q : B → Type 0) (r : Result (A × Signature) NumberFault) (next : A → Run B) → OkIs P r → ((x : A) (t : Signature) → P x → OkIs Q (next x t)) → OkIs Q (run_next r next)
next_ok P Q (Ok both) next h k = k both.0 both.1 h
next_ok P Q (Err e) next h k = tt

pub bears_next : {A B : Type 0} (P : A → Type 0) (Q : B → Type 0) (run : Run A) (next : A → Run B) → Bears P run → ((x : A) → P x → Bears Q (next x)) → Bears Q (run >> next)
unfolding Bears
bears_next P Q run next h k s = next_ok P Q (run s) next (h s) (λ x t e. k x e t)

pub bears_each : {T A B : Type 0} (of : A → B) (run : T → Run A) (want : T → B) → ((t : T) → Bears (λ x. of x ≡ want t) (run t)) → (ts : List T)
    → Bears (λ xs. map of xs ≡ map want ts) (in_order (map run ts))
bears_each of run want h [] = bears_given (λ xs. map of xs ≡ []) [] refl
bears_each of run want h (t ∷ ts) =
    bears_next _ _ _ _ (h t) (λ x e.
    bears_next _ _ _ _ (bears_each of run want h ts) (λ xs es.
    bears_given (λ ys. map of ys ≡ map want (t ∷ ts)) (x ∷ xs) (ap (λ y. y ∷ map of xs) e ∙ ap (λ ys. want t ∷ ys) es)))

module _ (phase : Phase) where
  pub borrow_bears : (b : Option (Lifetime × Mutability)) → Bears (λ n. bare_borrow n ≡ borrow_shape b) (borrow_run phase b)
  borrow_bears None = bears_given _ None refl
  borrow_bears (Some b) = bears_next _ _ _ _ (bears_any (lifetime_run phase b.0)) (λ n h. bears_given (λ m. bare_borrow m ≡ borrow_shape (Some b)) (Some (n, b.1)) refl)

  optional_bears : (l : Option Lifetime) → Bears (λ n. bare_optional n ≡ optional_shape l) (optional_run phase l)
  optional_bears None = bears_given _ None refl
  optional_bears (Some l) = bears_next _ _ _ _ (bears_any (lifetime_run phase l)) (λ n h. bears_given (λ m. bare_optional m ≡ optional_shape (Some l)) (Some n) refl)

  pub target_bears : {B : Type 0} (is_self : Bool) (path : PathType) (want : Option (Definition × Kind) → B) (of : Target → B)
      → ((found : Definition × Kind) (ns : List (MaybeStatic ℕ)) → of (target found.0.place found.1 ns) ≡ want (Some found))
      → (found : Option (Definition × Kind)) → Bears (λ t. of t ≡ want found) (target_run phase is_self path found)
  target_bears is_self path want of h None = bears_err (λ t. of t ≡ want None) fault.UnresolvedPath
  target_bears is_self path want of h (Some found) =
      bears_next _ _ _ _ (bears_any (generics_run phase is_self path found.0)) (λ ns k. bears_given (λ t. of t ≡ want (Some found)) (target found.0.place found.1 ns) (h found ns))

  pub trait_bears : {B : Type 0} (is_self : Bool) (path : PathType) (want : Option Definition → B) (of : TraitTarget → B)
      → ((found : Definition) (ns : List (MaybeStatic ℕ)) → of (trait_target found.place ns) ≡ want (Some found))
      → (found : Option Definition) → Bears (λ t. of t ≡ want found) (trait_target_run phase is_self path found)
  trait_bears is_self path want of h None = bears_err (λ t. of t ≡ want None) fault.UnresolvedPath
  trait_bears is_self path want of h (Some found) =
      bears_next _ _ _ _ (bears_any (generics_run phase is_self path found)) (λ ns k. bears_given (λ t. of t ≡ want (Some found)) (trait_target found.place ns) (h found ns))

  module _ (names : Naming) where
    abbrev Shaped : TypeName → Type 0
    Shaped t = Bears (λ n. bare n ≡ shape names t) (type_run phase names t)

    roll_bare : (x : NumberedType-F NumberedType) → bare (roll-NumberedType x) ≡ roll-NumberedType (level_bare (map-NumberedType NumberedType NumberedType bare x))
    roll_bare x = fold-roll-NumberedType NumberedType (λ y. roll-NumberedType (level_bare y)) x

    -- a level is made so
    abbrev So : NumberedType-F NumberedType → NumberedType → Type 0
    So want n = bare n ≡ roll-NumberedType want

    make : (x want : NumberedType-F NumberedType) → level_bare (map-NumberedType NumberedType NumberedType bare x) ≡ want → Bears (So want) (given (roll-NumberedType x))
    make x want e = bears_given (So want) (roll-NumberedType x) (roll_bare x ∙ ap roll-NumberedType e)

    each_bears : (ys : List ((t : TypeName) × Shaped t)) → Bears (λ xs. map bare xs ≡ map (shape names) (map (λ e. e.0) ys)) (in_order (map (type_run phase names) (map (λ e. e.0) ys)))
    each_bears [] = bears_given (λ xs. map bare xs ≡ []) [] refl
    each_bears (y ∷ ys) =
        bears_next _ _ _ _ y.1 (λ x e.
        bears_next _ _ _ _ (each_bears ys) (λ xs es.
        bears_given (λ zs. map bare zs ≡ map (shape names) (map (λ e. e.0) (y ∷ ys))) (x ∷ xs) (ap (λ z. z ∷ map bare xs) e ∙ ap (λ zs. shape names y.0 ∷ zs) es)))

    unfoldable LayerShaped : TypeName-F ((t : TypeName) × Shaped t) → Type 0
    LayerShaped y =
        let x : TypeName-F TypeName = map-TypeName ((t : TypeName) × Shaped t) TypeName (λ e. e.0) y in
        Bears (So (level_shape names (map-TypeName TypeName NumberedType (shape names) x))) (level_run phase names (map-TypeName TypeName (Run NumberedType) (type_run phase names) x))

    layer : (y : TypeName-F ((t : TypeName) × Shaped t)) → LayerShaped y
    unfolding LayerShaped
    layer (TypeName-F.Primitive p) = make (NumberedType-F.Primitive p) _ refl
    layer TypeName-F.Ordering = make NumberedType-F.Ordering _ refl
    layer (TypeName-F.Named p) =
        bears_next _ _ _ _ (target_bears false p (λ f. target_shape f (λ t. NumberedType-F.Named t)) (λ t. NumberedType-F.Named (bare_target t)) (λ f ns. refl) (type_found (names.type_at p.segments))) (λ t e. make (NumberedType-F.Named t) _ e)
    layer (TypeName-F.SelfType p) =
        bears_next _ _ _ _ (target_bears true p (λ f. target_shape f (λ t. NumberedType-F.SelfType t)) (λ t. NumberedType-F.SelfType (bare_target t)) (λ f ns. refl) (type_found (names.type_at p.segments))) (λ t e. make (NumberedType-F.SelfType t) _ e)
    layer (TypeName-F.ImplTrait p) =
        bears_next _ _ _ _ (trait_bears false p trait_shape (λ t. NumberedType-F.ImplTrait (bare_trait t)) (λ f ns. refl) (trait_found (names.trait_at p.segments))) (λ t e. make (NumberedType-F.ImplTrait t) _ e)
    layer (TypeName-F.Reference l m t) =
        bears_next _ _ _ _ (bears_any (lifetime_run phase l)) (λ n h.
        bears_next _ _ _ _ t.1 (λ i e. make (NumberedType-F.Reference n m i) _ (ap (λ j. NumberedType-F.Reference Static m j) e)))
    layer (TypeName-F.Box t) = bears_next _ _ _ _ t.1 (λ i e. make (NumberedType-F.Box i) _ (ap (λ j. NumberedType-F.Box j) e))
    layer (TypeName-F.Option t d) = bears_next _ _ _ _ t.1 (λ i e. make (NumberedType-F.Option i d) _ (ap (λ j. NumberedType-F.Option j d) e))
    layer (TypeName-F.Result t u d) =
        bears_next _ _ _ _ t.1 (λ i e.
        bears_next _ _ _ _ u.1 (λ j f.
        make (NumberedType-F.Result i j d) _ (ap (λ k. NumberedType-F.Result k (bare j) d) e ∙ ap (λ k. NumberedType-F.Result (shape names t.0) k d) f)))
    layer (TypeName-F.Write w) = make (NumberedType-F.Write w) _ refl
    layer (TypeName-F.StrReference l e d) =
        bears_next _ _ _ _ (optional_bears l) (λ n f. make (NumberedType-F.StrReference n e d) _ (ap (λ k. NumberedType-F.StrReference k e d) f))
    layer (TypeName-F.StrSlice e d) = make (NumberedType-F.StrSlice e d) _ refl
    layer (TypeName-F.PrimitiveSlice b p d) =
        bears_next _ _ _ _ (borrow_bears b) (λ n f. make (NumberedType-F.PrimitiveSlice n p d) _ (ap (λ k. NumberedType-F.PrimitiveSlice k p d) f))
    layer (TypeName-F.CustomTypeSlice b t d) =
        bears_next _ _ _ _ (borrow_bears b) (λ n f.
        bears_next _ _ _ _ t.1 (λ i e.
        make (NumberedType-F.CustomTypeSlice n i d) _ (ap (λ k. NumberedType-F.CustomTypeSlice k (bare i) d) f ∙ ap (λ k. NumberedType-F.CustomTypeSlice (borrow_shape b) k d) e)))
    layer (TypeName-F.Function ts t m) =
        bears_next _ _ _ _ (each_bears ts) (λ is es.
        bears_next _ _ _ _ t.1 (λ o e.
        make (NumberedType-F.Function is o m) _ (ap (λ k. NumberedType-F.Function k (bare o) m) es ∙ ap (λ k. NumberedType-F.Function (map (shape names) (map (λ e. e.0) ts)) k m) e)))
    layer TypeName-F.Unit = make NumberedType-F.Unit _ refl

    -- a type is numbered to one of its shape
    pub type_bears : (t : TypeName) → Bears (λ n. bare n ≡ shape names t) (type_run phase names t)
    unfolding LayerShaped
    type_bears = ind-TypeName Shaped (λ x y is.
        let there : Bears (So (level_shape names (map-TypeName TypeName NumberedType (shape names) x))) (level_run phase names (map-TypeName TypeName (Run NumberedType) (type_run phase names) x)) =
        subst (λ z. Bears (So (level_shape names (map-TypeName TypeName NumberedType (shape names) z))) (level_run phase names (map-TypeName TypeName (Run NumberedType) (type_run phase names) z))) is (layer y) in
        subst (λ r. Bears (λ n. bare n ≡ shape names (roll-TypeName x)) r) (sym (fold-roll-TypeName (Run NumberedType) (level_run phase names) x))
        (subst (λ w. Bears (λ n. bare n ≡ w) (level_run phase names (map-TypeName TypeName (Run NumberedType) (type_run phase names) x)))
        (sym (fold-roll-TypeName NumberedType (λ y. roll-NumberedType (level_shape names y)) x)) there))
