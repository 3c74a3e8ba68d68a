-- A binary search in a sorted table of texts finds exactly the texts of the table.
use Rattle.std.proofs.Common.{◌≡◌, ℕ, zero, suc, ◌+◌, ◌≢◌, Bool, true, false, ◌&&◌, not, List, [], ◌∷◌, map, length, get_or}
use Rattle.std.proofs.Common.{IsTrue, ◌↔◌, refl, ap, ◌∙◌, arith, Bor, ◌⊎◌, inl, inr}
use Rattle.std.specs.Prelude.{Result, Ok, Err, is_ok, Contains, All}
use Rattle.bridge_text.specs.inside.Tables.{rises}
use Rattle.std.specs.declared.cmp.Ordering.TheVariants.{Less, Greater}
use Rattle.std.specs.Cmp.Lexicographic.{slice_cmp}
use Rattle.std.specs.Ordering.{nat_cmp, is_lt}
use Rattle.std.specs.List.Sorted.{IsBinarySearchResult, IsSearchInRange, IsSortedBy, IsPartitionPoint}
use Rattle.std.proofs.lemmas.List.{get_or-map, length-map}
use Rattle.std.proofs.lemmas.List.Elements.{All-map, All-contains}
use Rattle.std.proofs.lemmas.List.Sorted.{searchable_from_sorted}
use Rattle.std.proofs.lemmas.Cmp.{nat_list_cmp_total, tied_itself}
use Rattle.std.proofs.lemmas.Map.Lookups.{exact_bytes}
use Rattle.std.proofs.lemmas.Bool.{cases_lt}

both_true : (a b : Bool) → (not a && b) ≡ true → (a ≡ false) × (b ≡ true)
both_true true b h = cc
both_true false b h = (refl, h)

sorted_from_rises : {X : Type 0} (lt : X → X → Bool) (xs : List X) → rises lt xs ≡ true → IsSortedBy lt xs
sorted_from_rises lt [] h k d l m = absurd (omega (arith, m))
sorted_from_rises lt (x ∷ []) h k d l m = absurd (omega (arith, m))
sorted_from_rises lt (x ∷ y ∷ ys) h zero d l m = (both_true (lt y x) (rises lt (y ∷ ys)) h).0
sorted_from_rises lt (x ∷ y ∷ ys) h (suc k) d l m =
    let rest = sorted_from_rises lt (y ∷ ys) (both_true (lt y x) (rises lt (y ∷ ys)) h).1 k d in
    let e : suc k + 1 ≡ suc (k + 1) = omega arith in
    rw e (rest (omega arith) (omega arith))

differs : (w s : List ℕ) → (slice_cmp nat_cmp w s ≡ Less) ⊎ (slice_cmp nat_cmp w s ≡ Greater) → w ≢ s
differs w s (inl h) e = let t = tied_itself nat_list_cmp_total s in let u = ap (λ v. slice_cmp nat_cmp v s) e in cc
differs w s (inr h) e = let t = tied_itself nat_list_cmp_total s in let u = ap (λ v. slice_cmp nat_cmp v s) e in cc

none_at_split : (table : List (Bor (List ℕ))) (s : List ℕ) (i : ℕ)
    → IsPartitionPoint (λ (y : Bor (List ℕ)). slice_cmp nat_cmp y.now s ≡ Less) (λ y. slice_cmp nat_cmp y.now s ≡ Greater) table i
    → All (λ (y : Bor (List ℕ)). y.now ≢ s) table
none_at_split table s i (below, above) k d l =
    elim (cases_lt k i) [
      | inl lt ↦ differs _ s (inl (below k d (omega arith) lt))
      | inr ge ↦ differs _ s (inr (above k d ge l))
    ]

pub found_in_table : (table : List (Bor (List ℕ))) (s : List ℕ) (r : Result ℕ ℕ)
    → IsTrue (rises (λ a b. is_lt (slice_cmp nat_cmp a.now b.now)) table)
    → IsSearchInRange r (length table)
    → IsBinarySearchResult (λ y. slice_cmp nat_cmp y.now s) table r
    → IsTrue (is_ok r) ↔ Contains (map (λ y. y.now) table) s
found_in_table [] s (Ok i) up bound h = absurd (omega (arith, bound))
found_in_table (d ∷ ds) s (Ok i) up bound h =
    let same : (get_or (d ∷ ds) i d).now ≡ s = exact_bytes _ _ (h d) in
    let at : get_or (map (λ (y : Bor (List ℕ)). y.now) (d ∷ ds)) i s ≡ (get_or (d ∷ ds) i d).now =
    get_or-map (λ (y : Bor (List ℕ)). y.now) (d ∷ ds) i d s bound in
    (λ _. (i, simp length-map bound, at ∙ same), λ _. refl)
found_in_table table s (Err i) up bound h =
    let split = h (searchable_from_sorted nat_list_cmp_total (λ (y : Bor (List ℕ)). y.now) table s (sorted_from_rises _ table up))
    in
    let none : All (λ (y : Bor (List ℕ)). y.now ≢ s) table = none_at_split table s i split in (
      λ e. cc,
      λ member. absurd (All-contains (λ w. w ≢ s) _ s (All-map (λ w. w ≢ s) (λ (y : Bor (List ℕ)). y.now) table none)
          member refl),
    )
