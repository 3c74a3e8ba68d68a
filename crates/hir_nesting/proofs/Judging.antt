-- What the survey of a graph says of faults.
use Rattle.std.proofs.Common.{◌≡◌, arith, ◌<◌, ◌≤◌, ◌+◌, ℕ, zero, suc, List, [], ◌∷◌, length, Option, Some, None, min, Bool, false, IsTrue, get_or, subst, sym, ◌∙◌}
use Rattle.std.proofs.Math.Decide.{dec_le}
use Rattle.std.proofs.Math.Nat.{le-min, lt_of_not-le, min-le_left}
use Rattle.std.proofs.lemmas.List.{get_or_default}
use Rattle.std.specs.Prelude.{slice_index_or}
use Rattle.std.specs.List.{Contains}
use Rattle.definition_graph.specs.Reaching.{ReachesByEdges}
use Rattle.definition_graph.specs.Surveying.{AreDepths, FlagsReachingItself, IsChain, IsDepth, IsLongestChain}
use Rattle.definition_graph.proofs.Totalling.{cycle_long, longest_no_cycle}
use Rattle.hir_nesting.specs.declared.fault.NestingFault.{NestingFault}
use Rattle.hir_nesting.specs.declared.fault.NestingFault.TheVariants as fault
use Rattle.hir_nesting.specs.Faults.{AllNestWell, AreNestingFaults, HasFault, TellsNesting}

unset : IsTrue false → ⊥
unset e = absurd cc

le_or : (n m : ℕ) (P : Type 0) → (n ≤ m → P) → (m < n → P) → P
le_or n m P few more = elim (dec_le n m) [ yes h ↦ few h | no h ↦ more (lt_of_not-le h) ]

module _ (g : List (List ℕ)) (a : ℕ) where
  pub told_deep : (d : ℕ) → IsDepth g a (Some d) → 256 < d → HasFault g a fault.NestsTooDeep
  told_deep d (n, longest, is) more = (n, longest, omega (arith, is, more, min-le_left n 257))

  longest_alike : (n m : ℕ) → IsLongestChain g a n → IsLongestChain g a m → n ≤ m
  longest_alike n m here other = omega (arith, other.most here.rest here.chain, here.count)

  pub told_none : (ReachesByEdges g a a → ⊥) → IsDepth g a None → (f : NestingFault) → HasFault g a f → ⊥
  told_none never depth fault.ContainsItself h = never h
  told_none never depth fault.NestsTooDeep (n, longest, more) = longest_no_cycle g a n longest depth

  pub told_few : (ReachesByEdges g a a → ⊥) → (d : ℕ) → IsDepth g a (Some d) → d ≤ 256 → (f : NestingFault) → HasFault g a f → ⊥
  told_few never d depth few fault.ContainsItself h = never h
  told_few never d (m, other, is) few fault.NestsTooDeep (n, longest, more) =
      let alike = longest_alike n m longest other in
      let all : 257 ≤ min m 257 = le-min (omega (arith, more, alike)) (omega arith) in
      omega (arith, is, few, all)

  pub depth_here : (depths : List (Option ℕ)) (d : Option ℕ) → AreDepths g depths → a < length g → d ≡ get_or depths a d → IsDepth g a d
  depth_here depths d are within is =
      let there = are.each in
      subst (IsDepth g a) (get_or_default depths a None d (omega (arith, there, within)) ∙ sym is) (are.right a within)

  pub never_here : (flags : List Bool) (b : Bool) → FlagsReachingItself g flags → a < length g → b ≡ get_or flags a b → b ≡ false → ReachesByEdges g a a → ⊥
  never_here flags b are within is off reaches =
      let there = are.each in
      let set : IsTrue (get_or flags a false) = (are.right a within).1 reaches in
      unset (subst IsTrue (get_or_default flags a false b (omega (arith, there, within)) ∙ sym is ∙ off) set)

edge_from : (xs : List (List ℕ)) (a m : ℕ) → Contains (slice_index_or xs a []) m → a < length xs
edge_from [] a m (k, within, is) = absurd (omega (arith, within))
edge_from (x ∷ xs) zero m h = omega arith
edge_from (x ∷ xs) (suc a) m h = let below = edge_from xs a m h in omega (arith, below)

module _ (g : List (List ℕ)) (depths : List (Option ℕ)) (are : AreDepths g depths) (never : (a : ℕ) → a < length g → (f : NestingFault) → HasFault g a f → ⊥) where
  ends : (a : ℕ) → a < length g → (d : Option ℕ) → IsDepth g a d → (others : List ℕ) → IsChain g a others → length others + 1 ≤ 256
  ends a within None (r, leads, reaches) others chain = absurd (never r (edge_from g r reaches.next reaches.linked.0) fault.ContainsItself reaches)
  ends a within (Some d) (n, longest, is) others chain =
      let most = longest.most others chain in
      le_or n 256 (length others + 1 ≤ 256) (λ few. omega (arith, most, few)) (λ more. absurd (never a within fault.NestsTooDeep (n, longest, more)))

  pub all_well : AllNestWell g
  all_well a others within chain = ends a within (get_or depths a None) (are.right a within) others chain

-- the answers for all structs
pub all_told : (g : List (List ℕ)) (depths : List (Option ℕ)) (faults : List (Option NestingFault)) (n : ℕ) → AreDepths g depths → n ≡ length g → length faults ≡ n
    → ((a : ℕ) → a < n → TellsNesting g a (get_or faults a None)) → AreNestingFaults g faults
all_told g depths faults n are count each told =
    let right : (a : ℕ) → a < length g → TellsNesting g a (get_or faults a None) = λ a within. told a (omega (arith, count, within)) in
    record {
      each = each ∙ count;
      right = right;
      well = λ none. all_well g depths are (λ a within. subst (TellsNesting g a) (none a within) (right a within));
    }

-- where all nest well, a struct that contains itself would be in a chain of any length
pub no_fault : (g : List (List ℕ)) (a : ℕ) (f : NestingFault) → AllNestWell g → a < length g → HasFault g a f → ⊥
no_fault g a fault.ContainsItself well within cycle =
    let long = cycle_long g a cycle 256 in
    let few = well a long.0 within long.1 in
    omega (arith, few, long.2)
no_fault g a fault.NestsTooDeep well within (n, longest, more) =
    let few = well a longest.rest within longest.chain in
    omega (arith, few, longest.count, more)
