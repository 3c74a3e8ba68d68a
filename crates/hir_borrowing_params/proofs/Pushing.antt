-- Edges are added under one key after another.
use Rattle.std.proofs.Common.{◌≡◌, ◌≢◌, ◌⊎◌, inl, inr, ℕ, ◌<◌, ◌+◌, nat_eq, Bool, true, false, List, Option, Some, None, option_map, arith, ap, subst, sym, refl, ◌∙◌, length, slice_index}
use Rattle.std.specs.Prelude.{IsSome}
use Rattle.std.specs.List.{Contains, list_any}
use Rattle.std.specs.BTreeMap.{BTreeMap}
use Rattle.std.proofs.lemmas.Bool.{cases_eq}
use Rattle.std.proofs.lemmas.Grind.{get_or_default_zero}
use Rattle.std.proofs.lemmas.List.Elements.{Contains-get_or}
use Rattle.hir_borrowing_params.specs.Edges.{held_for, held_under, info_under}
use Rattle.hir_borrowing_params.specs.inside.Candidates.{AreApart, IsKeyed, with_edges}
use Rattle.hir_borrowing_params.proofs.Rows.{key_finds, key_found}
use Rattle.hir_borrowing_params.specs.inside.Pushing.{PushedUpTo}
use Rattle.hir_borrowing_params.specs.declared.candidates.EdgeCandidate.{EdgeCandidate}
use Rattle.hir_borrowing_params.specs.declared.edges.BorrowedLifetimeInfo.{BorrowedLifetimeInfo}

pub at_zero : (keys : List ℕ) (i k : ℕ) → i < length keys → k ≡ Rattle.std.specs.Prelude.slice_index_or keys i k → k ≡ slice_index keys i
at_zero keys i k within is = is ∙ get_or_default_zero keys i k within

pub among : (keys : List ℕ) (i : ℕ) → i < length keys → Contains keys (slice_index keys i)
among keys i within = Contains-get_or keys i 0 within

-- what is contained stands at a place
pub place_of : (keys : List ℕ) (t : ℕ) → Contains keys t → (i : ℕ) × (i < length keys) × (slice_index keys i ≡ t)
place_of keys t h = (h.0, h.1, sym (get_or_default_zero keys h.0 t h.1) ∙ h.2)

module _ (name : List ℕ) (cs : List EdgeCandidate) (keys : List ℕ) (count k : ℕ) (old here new : BTreeMap ℕ BorrowedLifetimeInfo) where
  pub pushed_next : AreApart keys → count < length keys → k ≡ slice_index keys count → PushedUpTo name cs keys count old here
      → held_under new k ≡ option_map (with_edges name cs) (held_under here k) → ((t : ℕ) → t ≢ k → info_under new t ≡ info_under here t)
      → PushedUpTo name cs keys (count + 1) old new
  pushed_next apart within is so_far at_key elsewhere = record {
    done = λ i below. done_by i below (cases_eq i count);
    rest = λ i from under. elsewhere (slice_index keys i) (λ e. apart count i (omega arith) under (sym (e ∙ is))) ∙ so_far.rest i (omega arith) under;
    others = λ t none. elsewhere t (λ e. none (subst (Contains keys) (sym (e ∙ is)) (among keys count within))) ∙ so_far.others t none;
  } where
    before_key : (i : ℕ) → i < count → slice_index keys i ≢ k
    before_key i below e = apart i count below within (e ∙ is)

    done_by : (i : ℕ) → i < count + 1 → (i ≡ count) ⊎ (i ≡ count → ⊥) → held_under new (slice_index keys i) ≡ option_map (with_edges name cs) (held_under old (slice_index keys i))
    done_by i below (inl e) =
        subst (λ j. held_under new (slice_index keys j) ≡ option_map (with_edges name cs) (held_under old (slice_index keys j))) (sym e)
        (subst (λ x. held_under new x ≡ option_map (with_edges name cs) (held_under here x)) is at_key
        ∙ ap (λ o. option_map (with_edges name cs) (option_map held_for o)) (so_far.rest count (omega arith) within))
    done_by i below (inr other) =
        let under : i < count = omega arith in
        ap (option_map held_for) (elsewhere (slice_index keys i) (before_key i under)) ∙ so_far.done i under

-- what was added under each key was added wherever there is a key
pub pushed_everywhere : (keys : List ℕ) (old reserved new : BTreeMap ℕ BorrowedLifetimeInfo) (name : List ℕ) (cs : List EdgeCandidate) → IsKeyed keys old → ((t : ℕ) → held_under reserved t ≡ held_under old t)
    → ((t : ℕ) → Contains keys t → held_under new t ≡ option_map (with_edges name cs) (held_under reserved t)) → ((t : ℕ) → (Contains keys t → ⊥) → info_under new t ≡ info_under reserved t)
    → (t : ℕ) → held_under new t ≡ option_map (with_edges name cs) (held_under old t)
pushed_everywhere keys old reserved new name cs keyed same here others t = by_key (list_any (nat_eq t) keys) refl where
  nothing : (o : Option BorrowedLifetimeInfo) → info_under old t ≡ o → list_any (nat_eq t) keys ≡ false → option_map held_for o ≡ option_map (with_edges name cs) (option_map held_for o)
  nothing None is fails = refl
  nothing (Some x) is fails = absurd (true_false (sym (keyed.all t (subst IsSome (sym is) refl)) ∙ fails)) where
    true_false : true ≡ false → ⊥
    true_false e = absurd cc

  by_key : (b : Bool) → list_any (nat_eq t) keys ≡ b → held_under new t ≡ option_map (with_edges name cs) (held_under old t)
  by_key true is = here t (key_found keys t is) ∙ ap (option_map (with_edges name cs)) (same t)
  by_key false is =
      ap (option_map held_for) (others t (λ h. absurd (true_false (sym (key_finds keys t h) ∙ is)))) ∙ (same t ∙ nothing (info_under old t) refl is) where
        true_false : true ≡ false → ⊥
        true_false e = absurd cc
