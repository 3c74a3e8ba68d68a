-- Lists that have what is said of them, and nothing else.
use Rattle.std.proofs.Common.{◌≡◌, ◌⊎◌, ◌↔◌, inl, inr, List, [], ◌∷◌, ◌++◌, Bool, true, false, not, ◌&&◌, ◌||◌, Result, Ok, Err, IfOk, if◌then◌else◌, refl, sym, subst, arith}
use Rattle.std.specs.List.{Contains, flat_map}
use Rattle.std.proofs.lemmas.List.Elements.{Contains-append_left, Contains-append_right, Contains-append_cases, Contains-push, Contains-push_cases}
use Rattle.bridge_grid.specs.declared.fault.TypeFault.{TypeFault}
use Rattle.bridge_grid.specs.Exactly.{AreExactly}
use Rattle.bridge_grid.specs.Asked.{told_if}
use Rattle.bridge_grid.specs.Faults.{or_inside}

pub no_element : {X : Type 0} (f : X) → ¬ Contains [] f
no_element f h = omega (arith, h.1)

pub no_false : false ≡ true → ⊥
no_false h = cc

pub tells_none : AreExactly [] (λ _. ⊥)
tells_none f = (λ h. no_element f h, λ h. absurd h)

pub tells_one : (g : TypeFault) → AreExactly (g ∷ []) (λ f. f ≡ g)
tells_one g f = (λ h. elim (Contains-push_cases [] g f h) [ inl c ↦ absurd (no_element f c) | inr e ↦ sym e ], λ h. subst (λ y. Contains (g ∷ []) y) (sym h) (Contains-push [] g))

pub tells_both : (xs ys : List TypeFault) (P Q : TypeFault → Type 0) → AreExactly xs P → AreExactly ys Q → AreExactly (xs ++ ys) (λ f. P f ⊎ Q f)
tells_both xs ys P Q p q f = (
  λ h. elim (Contains-append_cases xs ys f h) [ inl c ↦ inl ((p f).0 c) | inr c ↦ inr ((q f).0 c) ],
  λ h. elim h [ inl c ↦ Contains-append_left xs ys f ((p f).1 c) | inr c ↦ Contains-append_right xs ys f ((q f).1 c) ],
)

pub tells_when : (b : Bool) (D : Type 0) (g : TypeFault) → ((b ≡ true) ↔ D) → AreExactly (told_if b g) (λ f. D × (f ≡ g))
tells_when true D g d f = (λ h. (d.0 refl, (tells_one g f).0 h), λ p. (tells_one g f).1 p.1)
tells_when false D g d f = (λ h. absurd (no_element f h), λ p. absurd (no_false (d.1 p.0)))

pub tells_map : (xs : List TypeFault) (P Q : TypeFault → Type 0) → ((f : TypeFault) → P f ↔ Q f) → AreExactly xs P → AreExactly xs Q
tells_map xs P Q both p f = (λ h. (both f).0 ((p f).0 h), λ h. (p f).1 ((both f).1 h))

pub tells_if : (b : Bool) (B : Type 0) (xs ys : List TypeFault) (P Q : TypeFault → Type 0) → ((b ≡ true) ↔ B) → AreExactly xs P → AreExactly ys Q → AreExactly (if b then xs else ys) (λ f. (B × P f) ⊎ ((¬ B) × Q f))
tells_if true B xs ys P Q iff p q f = (λ h. inl (iff.0 refl, (p f).0 h), λ h. elim h [ inl c ↦ (p f).1 c.1 | inr c ↦ absurd (c.0 (iff.0 refl)) ])
tells_if false B xs ys P Q iff p q f = (λ h. inr ((λ b. no_false (iff.1 b)), (q f).0 h), λ h. elim h [ inl c ↦ absurd (no_false (iff.1 c.0)) | inr c ↦ (q f).1 c.1 ])

pub tells_or_inside : (xs ys : List TypeFault) (P Q : TypeFault → Type 0) → AreExactly xs P → AreExactly ys Q → AreExactly (or_inside xs ys) (λ f. P f ⊎ (((g : TypeFault) → ¬ P g) × Q f))
tells_or_inside [] ys P Q p q f = (λ h. inr ((λ g c. no_element g ((p g).1 c)), (q f).0 h), λ h. elim h [ inl c ↦ absurd (no_element f ((p f).1 c)) | inr c ↦ (q f).1 c.1 ])
tells_or_inside (x ∷ xs) ys P Q p q f = (λ h. inl ((p f).0 h), λ h. elim h [ inl c ↦ (p f).1 c | inr c ↦ absurd (c.0 x ((p x).0 (Contains-append_left (x ∷ []) xs x (Contains-push [] x)))) ])

-- each of a list tells what is said of it
pub tells_each : {X : Type 0} (g : X → List TypeFault) (P : X → TypeFault → Type 0) → ((x : X) → AreExactly (g x) (P x)) → (xs : List X) → AreExactly (flat_map g xs) (λ f. (x : X) × (Contains xs x × P x f))
tells_each g P each [] f = (λ h. absurd (no_element f h), λ h. absurd (no_element h.0 h.1.0))
tells_each g P each (x ∷ xs) f = (
  λ h. elim (Contains-append_cases (g x) (flat_map g xs) f h) [
    | inl c ↦ (x, (Contains-append_left (x ∷ []) xs x (Contains-push [] x), (each x f).0 c))
    | inr c ↦ let more = (tells_each g P each xs f).0 c in (more.0, (Contains-append_right (x ∷ []) xs more.0 more.1.0, more.1.1))
  ],
  λ h. elim (Contains-append_cases (x ∷ []) xs h.0 h.1.0) [
    | inl c ↦ Contains-append_left (g x) (flat_map g xs) f (elim (Contains-push_cases [] x h.0 c) [ inl c ↦ absurd (no_element h.0 c) | inr e ↦ subst (λ y. Contains (g y) f) (sym e) ((each h.0 f).1 h.1.1) ])
    | inr c ↦ Contains-append_right (g x) (flat_map g xs) f ((tells_each g P each xs f).1 (h.0, (c, h.1.1)))
  ],
)

-- what the tests mean
pub not_iff : (b : Bool) → (not b ≡ true) ↔ (b ≡ false)
not_iff true = (λ h. sym h, λ h. sym h)
not_iff false = (λ h. refl, λ h. refl)

pub and_iff : (a b : Bool) (A B : Type 0) → ((a ≡ true) ↔ A) → ((b ≡ true) ↔ B) → ((a && b) ≡ true) ↔ (A × B)
and_iff true b A B p q = (λ h. (p.0 refl, q.0 h), λ h. q.1 h.1)
and_iff false b A B p q = (λ h. absurd (no_false h), λ h. absurd (no_false (p.1 h.0)))

pub or_iff : (a b : Bool) (A B : Type 0) → ((a ≡ true) ↔ A) → ((b ≡ true) ↔ B) → ((a || b) ≡ true) ↔ (A ⊎ B)
or_iff true b A B p q = (λ h. inl (p.0 refl), λ h. refl)
or_iff false b A B p q = (λ h. inr (q.0 h), λ h. elim h [ inl c ↦ absurd (no_false (p.1 c)) | inr c ↦ q.1 c ])

pub same_iff : (b : Bool) → (b ≡ true) ↔ (b ≡ true)
same_iff b = (λ h. h, λ h. h)

-- a contract that has the list has what it tells
pub told_of : {E : Type 0} (r : Result (List TypeFault) E) (xs : List TypeFault) (P : TypeFault → Type 0) → IfOk r (λ fs. fs ≡ xs) → AreExactly xs P → IfOk r (λ fs. AreExactly fs P)
told_of (Ok fs) xs P is t = subst (λ ys. AreExactly ys P) (sym is) t
told_of (Err e) xs P is t = is
