-- What is in the set of the lifetimes that a method returns, and in that of those that are told.
use Rattle.std.proofs.Common.{◌≡◌, ℕ, List, [], ◌∷◌, ◌++◌, Bool, true, false, cond, Result, Ok, Err, refl, sym, subst, ap, ◌∙◌}
use Rattle.std.specs.Prelude.{◌||◌, IfOk}
use Rattle.std.specs.BTreeSet as sorted
use Rattle.std.specs.BTreeSet.{BTreeSet}
use Rattle.std.specs.List.{Contains}
use Rattle.std.specs.Ordering.{nat_cmp}
use Rattle.std.proofs.lemmas.Bool.{eq-eqb, eqb-true}
use Rattle.std.proofs.lemmas.Cmp.{nat_cmp_total}
use Rattle.std.proofs.lemmas.Map.Lookups.{exact_unsigned}
use Rattle.std.proofs.lemmas.Map.Views.{btree_set_contains_iff}
use Rattle.bridge_telling.proofs.ExactLemmas.{in_none}
use Rattle.bridge_telling.proofs.TestLemmas.{passes_some, some_passes}
use Rattle.hir_life.specs.Environment.{Environment}
use Rattle.hir_life.specs.declared.maybe_static.MaybeStatic.{MaybeStatic}
use Rattle.hir_life.specs.declared.maybe_static.MaybeStatic.TheVariants.{NonStatic, Static}
use Rattle.hir_reports.proofs.StoreLaws.{added_more}
use Rattle.hir_reports.specs.Store.{Held, added}
use Rattle.hir_reports.specs.declared.report.LoweringError.{LoweringError}
use Rattle.hir_types.specs.Named.{ListsNumbers}
use Rattle.hir_validation.specs.Lifetimes.{is_numbered, is_returned, where_number}
use Rattle.hir_validation.specs.Returned.{element_lifetime_errors, numbered_element_errors, unknown_element_errors}

same_test : (a b : Bool) → (a ≡ true → b ≡ true) → (b ≡ true → a ≡ true) → a ≡ b
same_test true b to from = sym (to refl)
same_test false true to from = from refl
same_test false false to from = refl

pub numbered_is : (l : ℕ) (x : MaybeStatic ℕ) → is_numbered l x ≡ true → x ≡ NonStatic l
numbered_is l Static h = cc
numbered_is l (NonStatic other) h = ap NonStatic (eqb-true other l h)

pub is_itself : (l : ℕ) → is_numbered l (NonStatic l) ≡ true
is_itself l = eq-eqb l l refl

-- it is returned exactly where it is among those that are
pub returned_of : (returned : List (MaybeStatic ℕ)) (l : ℕ) → is_returned returned l ≡ true → Contains returned (NonStatic l)
returned_of returned l h =
    let one = some_passes (is_numbered l) returned h in
    subst (λ x. Contains returned x) (numbered_is l one.0 one.1.1) one.1.0

pub of_returned : (returned : List (MaybeStatic ℕ)) (l : ℕ) → Contains returned (NonStatic l) → is_returned returned l ≡ true
of_returned returned l c = passes_some (is_numbered l) returned (NonStatic l) c (is_itself l)

pub set_tests : (set : BTreeSet ℕ) (returned : List (MaybeStatic ℕ)) → ListsNumbers set.keys returned → (l : ℕ)
    → sorted.contains nat_cmp set l ≡ is_returned returned l
set_tests set returned lists l =
    same_test (sorted.contains nat_cmp set l) (is_returned returned l)
    (λ h. of_returned returned l ((lists.members l).0 ((btree_set_contains_iff nat_cmp_total exact_unsigned set l).0 h)))
    (λ h. (btree_set_contains_iff nat_cmp_total exact_unsigned set l).1 ((lists.members l).1 (returned_of returned l h)))

pub ok_so : {A E : Type 0} {P Q : A → Type 0} (r : Result A E) → ((x : A) → P x → Q x) → IfOk r P → IfOk r Q
ok_so (Ok x) k h = k x h
ok_so (Err e) k h = tt

-- nothing is in an empty set
pub in_empty : (set : BTreeSet ℕ) → set.keys ≡ [] → (l : ℕ) → sorted.contains nat_cmp set l ≡ false
in_empty set none l = by_answer (sorted.contains nat_cmp set l) refl where
  by_answer : (b : Bool) → sorted.contains nat_cmp set l ≡ b → sorted.contains nat_cmp set l ≡ false
  by_answer true is = absurd (in_none l (subst (λ (keys : List ℕ). Contains keys l) none ((btree_set_contains_iff nat_cmp_total exact_unsigned set l).0 is)))
  by_answer false is = is

-- what is told of lifetimes is the same where the same are known
module _ (env : Environment) (returned : List (MaybeStatic ℕ)) (name : List ℕ) where
  pub known_alike : (f g : ℕ → Bool) → ((l : ℕ) → f l ≡ g l) → (xs : List (MaybeStatic ℕ))
      → element_lifetime_errors env returned f name xs ≡ element_lifetime_errors env returned g name xs
  known_alike f g alike [] = refl
  known_alike f g alike (Static ∷ xs) = known_alike (λ l. f l || is_numbered l Static) (λ l. g l || is_numbered l Static) (λ l. ap (λ b. b || is_numbered l Static) (alike l)) xs
  known_alike f g alike (NonStatic n ∷ xs) =
      ap (λ b. cond b [] (numbered_element_errors env returned name n) ++ element_lifetime_errors env returned (λ l. f l || is_numbered l (NonStatic n)) name xs) (alike n)
      ∙ ap (λ es. cond (g n) [] (numbered_element_errors env returned name n) ++ es)
      (known_alike (λ l. f l || is_numbered l (NonStatic n)) (λ l. g l || is_numbered l (NonStatic n)) (λ l. ap (λ b. b || is_numbered l (NonStatic n)) (alike l)) xs)

  -- from one to the next
  pub element_step : (start held new : Held) (known next : ℕ → Bool) (x : MaybeStatic ℕ) (left rest : List (MaybeStatic ℕ)) (told : List LoweringError)
      → added held (element_lifetime_errors env returned known name left) ≡ added start told → left ≡ x ∷ rest
      → new ≡ added held (where_number (unknown_element_errors env returned known name) x) → ((l : ℕ) → next l ≡ known l || is_numbered l x)
      → added new (element_lifetime_errors env returned next name rest) ≡ added start told
  element_step start held new known next x left rest told before splits step knows =
      let first = where_number (unknown_element_errors env returned known name) x in
      let after : ℕ → Bool = λ l. known l || is_numbered l x in
      ap (λ (h : Held). added h (element_lifetime_errors env returned next name rest)) step
      ∙ ap (added (added held first)) (known_alike next after knows rest)
      ∙ added_more held first (element_lifetime_errors env returned after name rest)
      ∙ ap (λ xs. added held (element_lifetime_errors env returned known name xs)) (sym splits) ∙ before
