-- Lists that tell what is said where something is given, and how such a list is made of parts.
use Rattle.std.proofs.Common.{◌≡◌, ◌⊎◌, ◌↔◌, inl, inr, List, [], ◌∷◌, ◌++◌, map, Bool, true, false, if◌then◌else◌, refl, sym, subst}
use Rattle.std.specs.List.{Contains, flat_map}
use Rattle.std.proofs.lemmas.List.Elements.{Contains-append_left, Contains-append_right, Contains-append_cases}
use Rattle.bridge_telling.specs.Telling.{TellsExactly}
use Rattle.bridge_telling.specs.inside.Given.{TellsGiven}
use Rattle.bridge_telling.proofs.ExactLemmas.{in_cases, in_first, in_none, in_rest}

-- what tells exactly tells whatever is given
pub given_exactly : {E : Type 0} (G : Type 0) (xs : List E) (P : E → Type 0) → TellsExactly xs P → TellsGiven G xs P
given_exactly G xs P p = record { each = λ e h. (p e).0 h; some = λ g e h. (e, (p e).1 h) }

-- the same given more
pub given_more : {E : Type 0} (G H : Type 0) (xs : List E) (P : E → Type 0) → (H → G) → TellsGiven G xs P → TellsGiven H xs P
given_more G H xs P weaker p = record { each = λ e h. p.each e h; some = λ g e h. p.some (weaker g) e h }

-- the same in other words
pub given_as : {E : Type 0} (G : Type 0) (xs : List E) (P Q : E → Type 0) → ((e : E) → P e ↔ Q e) → TellsGiven G xs P → TellsGiven G xs Q
given_as G xs P Q both p = record { each = λ e h. (both e).0 (p.each e h); some = λ g e h. p.some g e ((both e).1 h) }

pub given_both : {E : Type 0} (G : Type 0) (xs ys : List E) (P Q : E → Type 0) → TellsGiven G xs P → TellsGiven G ys Q → TellsGiven G (xs ++ ys) (λ e. P e ⊎ Q e)
given_both {E} G xs ys P Q p q = record {
  each = λ e h. elim (Contains-append_cases xs ys e h) [ inl c ↦ inl (p.each e c) | inr c ↦ inr (q.each e c) ];
  some = λ g e h. elim h [
    | inl c ↦ let one = p.some g e c in (one.0, Contains-append_left xs ys one.0 one.1)
    | inr c ↦ let one = q.some g e c in (one.0, Contains-append_right xs ys one.0 one.1)
  ];
}

-- where the second tells only given that the first tells nothing
pub given_after : {E : Type 0} (G : Type 0) (xs ys : List E) (P Q : E → Type 0) → TellsGiven G xs P → TellsGiven (G × (xs ≡ [])) ys Q → TellsGiven G (xs ++ ys) (λ e. P e ⊎ Q e)
given_after {E} G [] ys P Q p q = record {
  each = λ e h. inr (q.each e h);
  some = λ g e h. elim h [ inl c ↦ (let one = p.some g e c in absurd (in_none one.0 one.1)) | inr c ↦ q.some (g, refl) e c ];
}
given_after {E} G (x ∷ xs) ys P Q p q = record {
  each = λ e h. elim (Contains-append_cases (x ∷ xs) ys e h) [ inl c ↦ inl (p.each e c) | inr c ↦ inr (q.each e c) ];
  some = λ g e h. (x, in_first x (xs ++ ys));
}

pub told_each : {X E : Type 0} (G : Type 0) (g : X → List E) (P : X → E → Type 0) → ((x : X) → TellsGiven G (g x) (P x)) → (xs : List X) (e : E) → Contains (flat_map g xs) e → (x : X) × (Contains xs x × P x e)
told_each G g P all [] e h = absurd (in_none e h)
told_each G g P all (x ∷ xs) e h = elim (Contains-append_cases (g x) (flat_map g xs) e h) [
  | inl c ↦ (x, (in_first x xs, (all x).each e c))
  | inr c ↦ let more = told_each G g P all xs e c in (more.0, (in_rest x xs more.0 more.1.0, more.1.1))
]

pub some_each : {X E : Type 0} (G : Type 0) (g : X → List E) (P : X → E → Type 0) → ((x : X) → TellsGiven G (g x) (P x)) → (xs : List X) → G → (e : E) → ((x : X) × (Contains xs x × P x e)) → (one : E) × Contains (flat_map g xs) one
some_each G g P all [] given e h = absurd (in_none h.0 h.1.0)
some_each G g P all (x ∷ xs) given e h = elim (in_cases x xs h.0 h.1.0) [
  | inl is ↦ let one = (all x).some given e (subst (λ y. P y e) is h.1.1) in (one.0, Contains-append_left (g x) (flat_map g xs) one.0 one.1)
  | inr c ↦ let one = some_each G g P all xs given e (h.0, (c, h.1.1)) in (one.0, Contains-append_right (g x) (flat_map g xs) one.0 one.1)
]

-- what each of a list tells
pub given_each : {X E : Type 0} (G : Type 0) (g : X → List E) (P : X → E → Type 0) → ((x : X) → TellsGiven G (g x) (P x)) → (xs : List X) → TellsGiven G (flat_map g xs) (λ e. (x : X) × (Contains xs x × P x e))
given_each {X} {E} G g P all xs = record { each = λ e h. told_each G g P all xs e h; some = λ given e h. some_each G g P all xs given e h }

-- what is told unless a test passes
pub given_unless : {E : Type 0} (G : Type 0) (b : Bool) (xs : List E) (P : E → Type 0) → TellsGiven G xs P → TellsGiven G (if b then [] else xs) (λ e. (b ≡ false) × P e)
given_unless G true xs P p = record { each = λ e h. absurd (in_none e h); some = λ g e h. cc }
given_unless G false xs P p = record { each = λ e h. (refl, p.each e h); some = λ g e h. p.some g e h.1 }

pub mapped : {X E : Type 0} (f : X → E) (xs : List X) (e : E) → Contains (map f xs) e → (x : X) × (Contains xs x × (e ≡ f x))
mapped f [] e h = absurd (in_none e h)
mapped f (x ∷ xs) e h = elim (in_cases (f x) (map f xs) e h) [
  | inl is ↦ (x, (in_first x xs, is))
  | inr c ↦ let more = mapped f xs e c in (more.0, (in_rest x xs more.0 more.1.0, more.1.1))
]

pub in_map : {X E : Type 0} (f : X → E) (xs : List X) (x : X) → Contains xs x → Contains (map f xs) (f x)
in_map f [] x h = absurd (in_none x h)
in_map f (y ∷ ys) x h = elim (in_cases y ys x h) [
  | inl is ↦ subst (λ z. Contains (f y ∷ map f ys) (f z)) (sym is) (in_first (f y) (map f ys))
  | inr c ↦ in_rest (f y) (map f ys) (f x) (in_map f ys x c)
]

-- each as another
pub given_map : {X E : Type 0} (G : Type 0) (f : X → E) (xs : List X) (P : X → Type 0) → TellsGiven G xs P → TellsGiven G (map f xs) (λ e. (x : X) × (P x × (e ≡ f x)))
given_map {X} {E} G f xs P p = record {
  each = λ e h. let from = mapped f xs e h in (from.0, (p.each from.0 from.1.0, from.1.1));
  some = λ g e h. let one = p.some g h.0 h.1.0 in (f one.0, in_map f xs one.0 one.1);
}
