-- Declared bounds as bounds of an environment.
use Rattle.std.proofs.Common.{◌≡◌, ℕ, suc, List, [], ◌∷◌, length, map, get_or, sym, ap, arith, subst}
use Rattle.std.specs.Prelude.{All, Contains}
use Rattle.std.proofs.lemmas.List.{length-map}
use Rattle.std.proofs.lemmas.List.Elements.{All-cons, All-nil}
use Rattle.std.proofs.lemmas.Simd.{map-map}
use Rattle.bridge_decl.specs.declared.lifetimes.LifetimeEnv.{LifetimeEnv}
use Rattle.bridge_decl.specs.Lifetimes.{IsSoundEnvironment, declared_longer, declared_shorter}
use Rattle.hir_life.specs.declared.bounds.BoundedLifetime.{BoundedLifetime}
use Rattle.hir_life.specs.Declarations.{bounded, declared_environment}
use Rattle.hir_life.specs.Environment.{IsSound, longer_of, shorter_of}

longer_same : (env : LifetimeEnv) (s : ℕ) → longer_of (declared_environment env) s ≡ declared_longer env s
longer_same env s = ap (λ l. get_or l s []) (map-map (λ b. b.longer) bounded env.nodes)

shorter_same : (env : LifetimeEnv) (l : ℕ) → shorter_of (declared_environment env) l ≡ declared_shorter env l
shorter_same env l = ap (λ ls. get_or ls l []) (map-map (λ b. b.shorter) bounded env.nodes)

-- declared bounds that fit together make a sound environment
pub declared_sound : (env : LifetimeEnv) → IsSoundEnvironment env → IsSound (declared_environment env)
declared_sound env sound =
    let len : length (map bounded env.nodes) ≡ length env.nodes = length-map env.nodes bounded in
    record {
      bounds = record {
        longer_named = λ s l h. rw len (sound.bounds.longer_named s l (subst (λ ls. Contains ls l) (longer_same env s) h));
        shorter_named = λ l s h. rw len (sound.bounds.shorter_named l s (subst (λ ls. Contains ls s) (shorter_same env l) h));
        longer_has_shorter = λ l s h.
            subst (λ ls. Contains ls s) (sym (shorter_same env l)) (sound.bounds.longer_has_shorter l s (subst (λ ls. Contains ls l) (longer_same env s) h));
        shorter_has_longer = λ l s h.
            subst (λ ls. Contains ls l) (sym (longer_same env s)) (sound.bounds.shorter_has_longer l s (subst (λ ls. Contains ls s) (shorter_same env l) h));
      };
      counted = omega (arith, len);
    }

-- so does the list that was built node by node
pub built_sound : (env : LifetimeEnv) (nodes : List BoundedLifetime) → nodes ≡ map bounded env.nodes → IsSoundEnvironment env
    → IsSound (record { bounds = nodes; count = length nodes })
built_sound env nodes is sound =
    subst (λ (bs : List BoundedLifetime). IsSound (record { bounds = bs; count = length bs })) (sym is)
    (subst (λ (n : ℕ). IsSound (record { bounds = map bounded env.nodes; count = n })) (sym (length-map env.nodes bounded)) (declared_sound env sound))

-- where no name breaks the rule on identifiers, they can't be said to break it together
pub no_bad : {A : Type 0} (P : A → Type 0) (xs : List A) → All (λ x. ¬ (¬ (P x))) xs → ¬ (¬ (All P xs))
no_bad P [] h not_all = not_all (All-nil P)
no_bad P (x ∷ xs) h not_all = h 0 x (omega arith) (λ px. no_bad P xs (λ k d lt. h (suc k) d (omega (arith, lt))) (λ pxs. not_all (All-cons P x xs px pxs)))
