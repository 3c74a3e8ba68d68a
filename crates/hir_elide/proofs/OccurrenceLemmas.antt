-- More lifetimes are used in a signature.
use Rattle.std.proofs.Common.{◌≡◌, ℕ, Bool, true, false, cond, List, [], ◌∷◌, ◌++◌, length, map, refl, ap, sym, ◌∙◌, append_assoc}
use Rattle.std.proofs.lemmas.List.{append-nil}
use Rattle.bridge_decl.specs.declared.lifetimes.Lifetime.{Lifetime}
use Rattle.bridge_decl.specs.Lifetimes.{lifetime_names}
use Rattle.hir_elide.specs.Numbering.{Number, count_after, lifetime_number, lifetime_numbers, one_if_anonymous}
use Rattle.hir_elide.specs.Occurrences.{Occurrence, Role, Signature, count_of, numbers_with, used_as}
use Rattle.hir_elide.specs.Phases.{Using, occurring, with_uses}

-- ---- the count

pub count_more : (count : ℕ) (ls ks : List Lifetime) → count_after count (ls ++ ks) ≡ count_after (count_after count ls) ks
count_more count [] ks = refl
count_more count (l ∷ ls) ks = count_more (one_if_anonymous l count) ls ks

lifetimes_more : (os : List Occurrence) (role : Role) (ls : List Lifetime) → map (λ o. o.lifetime) (os ++ occurring role ls) ≡ map (λ o. o.lifetime) os ++ ls
lifetimes_more [] role [] = refl
lifetimes_more [] role (l ∷ ls) = ap (λ ks. l ∷ ks) (lifetimes_more [] role ls)
lifetimes_more (o ∷ os) role ls = ap (λ ks. o.lifetime ∷ ks) (lifetimes_more os role ls)

pub count_used : (s : Signature) (role : Role) (ls : List Lifetime) → count_of (with_uses (Using role) s ls) ≡ count_after (count_of s) ls
count_used s role ls =
    ap (count_after (length s.declared.nodes)) (lifetimes_more s.occurrences role ls)
    ∙ count_more (length s.declared.nodes) (map (λ o. o.lifetime) s.occurrences) ls

-- ---- the numbers

pub numbers_more : (names : List (List ℕ)) (count : ℕ) (ls ks : List Lifetime)
    → lifetime_numbers names count (ls ++ ks) ≡ lifetime_numbers names count ls ++ lifetime_numbers names (count_after count ls) ks
numbers_more names count [] ks = refl
numbers_more names count (l ∷ ls) ks = ap (λ ns. lifetime_number names count l ∷ ns) (numbers_more names (one_if_anonymous l count) ls ks)

abbrev one_with : (Role → Bool) → List (List ℕ) → ℕ → Occurrence → List Number
one_with has_role names count o = cond {A = List Number} (has_role o.role) (lifetime_number names count o.lifetime ∷ []) []

with_more : (has_role : Role → Bool) (names : List (List ℕ)) (count : ℕ) (os ps : List Occurrence)
    → numbers_with has_role names count (os ++ ps) ≡ numbers_with has_role names count os ++ numbers_with has_role names (count_after count (map (λ o. o.lifetime) os)) ps
with_more has_role names count [] ps = refl
with_more has_role names count (o ∷ os) ps =
    ap (λ ns. one_with has_role names count o ++ ns) (with_more has_role names (one_if_anonymous o.lifetime count) os ps)
    ∙ sym (append_assoc (one_with has_role names count o) (numbers_with has_role names (one_if_anonymous o.lifetime count) os)
    (numbers_with has_role names (count_after (one_if_anonymous o.lifetime count) (map (λ p. p.lifetime) os)) ps))

-- what is used with another role
without : (has_role : Role → Bool) (role : Role) (names : List (List ℕ)) (count : ℕ) (ls : List Lifetime) → has_role role ≡ false
    → numbers_with has_role names count (occurring role ls) ≡ []
without has_role role names count [] other = refl
without has_role role names count (l ∷ ls) other =
    ap (λ b. cond {A = List Number} b (lifetime_number names count l ∷ []) [] ++ numbers_with has_role names (one_if_anonymous l count) (occurring role ls)) other
    ∙ without has_role role names (one_if_anonymous l count) ls other

pub used_otherwise : (has_role : Role → Bool) (role : Role) (s : Signature) (ls : List Lifetime) → has_role role ≡ false
    → used_as has_role (with_uses (Using role) s ls) ≡ used_as has_role s
used_otherwise has_role role s ls other =
    with_more has_role (lifetime_names s.declared) (length s.declared.nodes) s.occurrences (occurring role ls)
    ∙ ap (λ ns. used_as has_role s ++ ns) (without has_role role (lifetime_names s.declared) (count_of s) ls other)
    ∙ append-nil (used_as has_role s)

-- with that role
within : (has_role : Role → Bool) (role : Role) (names : List (List ℕ)) (count : ℕ) (ls : List Lifetime) → has_role role ≡ true
    → numbers_with has_role names count (occurring role ls) ≡ lifetime_numbers names count ls
within has_role role names count [] same = refl
within has_role role names count (l ∷ ls) same =
    ap (λ b. cond {A = List Number} b (lifetime_number names count l ∷ []) [] ++ numbers_with has_role names (one_if_anonymous l count) (occurring role ls)) same
    ∙ ap (λ ns. lifetime_number names count l ∷ ns) (within has_role role names (one_if_anonymous l count) ls same)

pub used_so : (has_role : Role → Bool) (role : Role) (s : Signature) (ls : List Lifetime) → has_role role ≡ true
    → used_as has_role (with_uses (Using role) s ls) ≡ used_as has_role s ++ lifetime_numbers (lifetime_names s.declared) (count_of s) ls
used_so has_role role s ls same =
    with_more has_role (lifetime_names s.declared) (length s.declared.nodes) s.occurrences (occurring role ls)
    ∙ ap (λ ns. used_as has_role s ++ ns) (within has_role role (lifetime_names s.declared) (count_of s) ls same)
