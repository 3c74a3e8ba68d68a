-- Lists that tell what is said at each place, and how such a list is made of parts.
use Rattle.std.proofs.Common.{◌≡◌, ◌⊎◌, ◌↔◌, inl, inr, List, [], ◌∷◌, ◌++◌, map, Bool, true, false, if◌then◌else◌, refl, sym, subst, ap, ◌∙◌}
use Rattle.std.specs.Prelude.{⊤}
use Rattle.std.specs.List.{Contains, flat_map}
use Rattle.std.proofs.lemmas.List.Elements.{Contains-append_left, Contains-append_right, Contains-append_cases}
use Rattle.bridge_telling.specs.Telling.{TellsExactly, TellsPlaces}
use Rattle.bridge_telling.specs.inside.Given.{TellsGiven}
use Rattle.bridge_telling.proofs.ExactLemmas.{in_cases, in_first, in_none, in_rest}
use Rattle.bridge_telling.proofs.GivenLemmas.{in_map, mapped}

module _ {E C : Type 0} (place : E → C) where
  -- what tells exactly tells at each place
  pub places_exactly : (xs : List E) (P : E → Type 0) → TellsExactly xs P → TellsPlaces place xs P
  places_exactly xs P p = record { each = λ e h. (p e).0 h; every = λ e h. (e, ((p e).1 h, refl)) }

  pub places_none : TellsPlaces place [] (λ _. ⊥)
  places_none = record { each = λ e h. in_none e h; every = λ e h. absurd h }

  -- the same in other words
  pub places_as : (xs : List E) (P Q : E → Type 0) → ((e : E) → P e ↔ Q e) → TellsPlaces place xs P → TellsPlaces place xs Q
  places_as xs P Q both p = record { each = λ e h. (both e).0 (p.each e h); every = λ e h. p.every e ((both e).1 h) }

  pub places_both : (xs ys : List E) (P Q : E → Type 0) → TellsPlaces place xs P → TellsPlaces place ys Q → TellsPlaces place (xs ++ ys) (λ e. P e ⊎ Q e)
  places_both xs ys P Q p q = record {
    each = λ e h. elim (Contains-append_cases xs ys e h) [ inl c ↦ inl (p.each e c) | inr c ↦ inr (q.each e c) ];
    every = λ e h. elim h [
      | inl c ↦ let one = p.every e c in (one.0, (Contains-append_left xs ys one.0 one.1.0, one.1.1))
      | inr c ↦ let one = q.every e c in (one.0, (Contains-append_right xs ys one.0 one.1.0, one.1.1))
    ];
  }

  pub told_at_each : {X : Type 0} (g : X → List E) (P : X → E → Type 0) → ((x : X) → TellsPlaces place (g x) (P x)) → (xs : List X) (e : E) → Contains (flat_map g xs) e
      → (x : X) × (Contains xs x × P x e)
  told_at_each g P all [] e h = absurd (in_none e h)
  told_at_each g P all (x ∷ xs) e h = elim (Contains-append_cases (g x) (flat_map g xs) e h) [
    | inl c ↦ (x, (in_first x xs, (all x).each e c))
    | inr c ↦ let more = told_at_each g P all xs e c in (more.0, (in_rest x xs more.0 more.1.0, more.1.1))
  ]

  pub every_at_each : {X : Type 0} (g : X → List E) (P : X → E → Type 0) → ((x : X) → TellsPlaces place (g x) (P x)) → (xs : List X) (e : E)
      → ((x : X) × (Contains xs x × P x e)) → (one : E) × (Contains (flat_map g xs) one × (place one ≡ place e))
  every_at_each g P all [] e h = absurd (in_none h.0 h.1.0)
  every_at_each g P all (x ∷ xs) e h = elim (in_cases x xs h.0 h.1.0) [
    | inl is ↦ let one = (all x).every e (subst (λ y. P y e) is h.1.1) in (one.0, (Contains-append_left (g x) (flat_map g xs) one.0 one.1.0, one.1.1))
    | inr c ↦ let one = every_at_each g P all xs e (h.0, (c, h.1.1)) in (one.0, (Contains-append_right (g x) (flat_map g xs) one.0 one.1.0, one.1.1))
  ]

  -- what each of a list tells
  pub places_each : {X : Type 0} (g : X → List E) (P : X → E → Type 0) → ((x : X) → TellsPlaces place (g x) (P x)) → (xs : List X)
      → TellsPlaces place (flat_map g xs) (λ e. (x : X) × (Contains xs x × P x e))
  places_each g P all xs = record { each = λ e h. told_at_each g P all xs e h; every = λ e h. every_at_each g P all xs e h }

  -- what is told unless a test passes
  pub places_unless : (b : Bool) (xs : List E) (P : E → Type 0) → TellsPlaces place xs P → TellsPlaces place (if b then [] else xs) (λ e. (b ≡ false) × P e)
  places_unless true xs P p = record { each = λ e h. absurd (in_none e h); every = λ e h. cc }
  places_unless false xs P p = record { each = λ e h. (refl, p.each e h); every = λ e h. p.every e h.1 }

  -- what is told of one place, each as a report there
  pub places_map : {X : Type 0} (f : X → E) (c : C) → ((x : X) → place (f x) ≡ c) → (xs : List X) (P : X → Type 0) → TellsGiven ⊤ xs P
      → TellsPlaces place (map f xs) (λ e. (x : X) × (P x × (e ≡ f x)))
  places_map f c here xs P p = record {
    each = λ e h. (let from = mapped f xs e h in (from.0, (p.each from.0 from.1.0, from.1.1)));
    every = λ e h. (let one = p.some tt h.0 h.1.0 in (f one.0, (in_map f xs one.0 one.1, here one.0 ∙ sym (ap place h.1.1 ∙ here h.0))));
  }
