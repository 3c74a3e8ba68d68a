-- Lists that tell exactly what is said, and how such a list is made of parts.
use Rattle.std.proofs.Common.{◌≡◌, ◌⊎◌, ◌↔◌, inl, inr, List, [], ◌∷◌, ◌++◌, Bool, true, false, Option, Some, None, if◌then◌else◌, option_to_list, refl, sym, subst, arith}
use Rattle.std.specs.List.{Contains, flat_map}
use Rattle.std.proofs.lemmas.List.Elements.{Contains-append_left, Contains-append_right, Contains-append_cases, Contains-push, Contains-push_cases}
use Rattle.bridge_telling.specs.Telling.{TellsExactly, one_if}

-- nothing is in the empty list
pub in_none : {E : Type 0} (e : E) → ¬ Contains [] e
in_none e h = omega (arith, h.1)

-- the first is in its list, and so is what is in the rest
pub in_first : {E : Type 0} (x : E) (xs : List E) → Contains (x ∷ xs) x
in_first x xs = Contains-append_left (x ∷ []) xs x (Contains-push [] x)

pub in_rest : {E : Type 0} (x : E) (xs : List E) (e : E) → Contains xs e → Contains (x ∷ xs) e
in_rest x xs e h = Contains-append_right (x ∷ []) xs e h

-- what is in a list of one is that one
pub in_one : {E : Type 0} (x e : E) → Contains (x ∷ []) e → e ≡ x
in_one x e h = elim (Contains-push_cases [] x e h) [ inl c ↦ absurd (in_none e c) | inr is ↦ sym is ]

-- what is in a list is its first, or in the rest
pub in_cases : {E : Type 0} (x : E) (xs : List E) (e : E) → Contains (x ∷ xs) e → (e ≡ x) ⊎ Contains xs e
in_cases x xs e h = elim (Contains-append_cases (x ∷ []) xs e h) [ inl c ↦ inl (in_one x e c) | inr c ↦ inr c ]

pub exactly_none : {E : Type 0} → TellsExactly {E = E} [] (λ _. ⊥)
exactly_none e = (λ h. in_none e h, λ h. absurd h)

pub exactly_one : {E : Type 0} (x : E) → TellsExactly (x ∷ []) (λ e. e ≡ x)
exactly_one x e = (λ h. in_one x e h, λ is. subst (λ y. Contains (x ∷ []) y) (sym is) (in_first x []))

pub exactly_both : {E : Type 0} (xs ys : List E) (P Q : E → Type 0) → TellsExactly xs P → TellsExactly ys Q → TellsExactly (xs ++ ys) (λ e. P e ⊎ Q e)
exactly_both xs ys P Q p q e = (
  λ h. elim (Contains-append_cases xs ys e h) [ inl c ↦ inl ((p e).0 c) | inr c ↦ inr ((q e).0 c) ],
  λ h. elim h [ inl c ↦ Contains-append_left xs ys e ((p e).1 c) | inr c ↦ Contains-append_right xs ys e ((q e).1 c) ],
)

-- the same in other words
pub exactly_as : {E : Type 0} (xs : List E) (P Q : E → Type 0) → ((e : E) → P e ↔ Q e) → TellsExactly xs P → TellsExactly xs Q
exactly_as xs P Q both p e = (λ h. (both e).0 ((p e).0 h), λ h. (p e).1 ((both e).1 h))

-- what each of a list tells
pub exactly_each : {X E : Type 0} (g : X → List E) (P : X → E → Type 0) → ((x : X) → TellsExactly (g x) (P x)) → (xs : List X) → TellsExactly (flat_map g xs) (λ e. (x : X) × (Contains xs x × P x e))
exactly_each g P each [] e = (λ h. absurd (in_none e h), λ h. absurd (in_none h.0 h.1.0))
exactly_each g P each (x ∷ xs) e = (
  λ h. elim (Contains-append_cases (g x) (flat_map g xs) e h) [
    | inl c ↦ (x, (in_first x xs, (each x e).0 c))
    | inr c ↦ let more = (exactly_each g P each xs e).0 c in (more.0, (in_rest x xs more.0 more.1.0, more.1.1))
  ],
  λ h. elim (in_cases x xs h.0 h.1.0) [
    | inl is ↦ Contains-append_left (g x) (flat_map g xs) e (subst (λ y. Contains (g y) e) is ((each h.0 e).1 h.1.1))
    | inr c ↦ Contains-append_right (g x) (flat_map g xs) e ((exactly_each g P each xs e).1 (h.0, (c, h.1.1)))
  ],
)

-- what is told unless a test passes
pub exactly_unless : {E : Type 0} (b : Bool) (xs : List E) (P : E → Type 0) → TellsExactly xs P → TellsExactly (if b then [] else xs) (λ e. (b ≡ false) × P e)
exactly_unless true xs P p e = (λ h. absurd (in_none e h), λ h. cc)
exactly_unless false xs P p e = (λ h. (refl, (p e).0 h), λ h. (p e).1 h.1)

-- and what is told where it does
pub exactly_where : {E : Type 0} (b : Bool) (xs : List E) (P : E → Type 0) → TellsExactly xs P → TellsExactly (if b then xs else []) (λ e. (b ≡ true) × P e)
exactly_where true xs P p e = (λ h. (refl, (p e).0 h), λ h. (p e).1 h.1)
exactly_where false xs P p e = (λ h. absurd (in_none e h), λ h. cc)

-- one thing, where a test passes
pub exactly_if : {E : Type 0} (b : Bool) (x : E) → TellsExactly (one_if b x) (λ e. (b ≡ true) × (e ≡ x))
exactly_if b x = exactly_where b (x ∷ []) (λ e. e ≡ x) (exactly_one x)

-- what there is, if there is one
pub exactly_optional : {E : Type 0} (x : Option E) → TellsExactly (option_to_list x) (λ e. x ≡ Some e)
exactly_optional None e = (λ h. absurd (in_none e h), λ h. cc)
exactly_optional (Some x) e = (λ h. cc (in_one x e h), λ h. subst (λ y. Contains (x ∷ []) y) (cc h) (in_first x []))
