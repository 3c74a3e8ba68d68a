-- Counts of structs and of inputs.
use Rattle.std.proofs.Common.{◌≡◌, ◌<◌, ◌≤◌, ◌+◌, inl, inr, ℕ, zero, suc, List, [], ◌∷◌, ◌++◌, length, get_or, Option, Some, None, Ok, Err, Result, slice_get, refl, sym, ap, subst, ◌∙◌, arith}
use Rattle.std.specs.Prelude.{◌⊎◌, IfOk, min}
use Rattle.std.proofs.Math.Nat.{min-eq_left, min-eq_right}
use Rattle.std.specs.List.{sum_by}
use Rattle.std.proofs.lemmas.Option.{slice_get_within}
use Rattle.bridge_leaves.specs.inside.Counting.{all_own, graph_of, most_counted}
use Rattle.bridge_leaves.specs.inside.Totals.{AreCounts, CountsInputs, CountsType}
use Rattle.bridge_leaves.proofs.ChainLemmas.{totals_count}
use Rattle.hir_skeleton.proofs.Containment.{context_well}
use Rattle.bridge_leaves.proofs.CountLemmas.{fields_length, none_without, one_alone}
use Rattle.bridge_leaves.proofs.RowLemmas.{sum_more}
use Rattle.definition_graph.specs.Reaching.{IsGraph}
use Rattle.definition_graph.specs.Surveying.{AreDepths}
use Rattle.definition_graph.specs.Totals.{AreTotals}
use Rattle.hir_context.specs.Lookups.{InputStruct}
use Rattle.hir_context.specs.declared.context.TypeContext.{TypeContext}
use Rattle.hir_context.specs.declared.parts.Definitions.{Definitions}
use Rattle.hir_definitions.specs.declared.methods.Method.{Method}
use Rattle.hir_ids.specs.declared.ids.TypeId.{TypeId}
use Rattle.hir_ids.specs.declared.ids.TypeId.TheVariants as type
use Rattle.hir_life.specs.Substitution.{identity}
use Rattle.hir_life.specs.declared.maybe_static.MaybeStatic.{MaybeStatic}
use Rattle.hir_mentions.specs.Mentions.{where_any}
use Rattle.hir_skeleton.specs.Inputs.{fields_in, method_inputs, method_leaves}
use Rattle.hir_skeleton.specs.Leaves.{deep_leaves, in_field, input_leaves, struct_leaves}
use Rattle.hir_skeleton.specs.Lowered.{input_fields}
use Rattle.hir_skeleton.specs.Skeletons.{Skeleton}

le_or : (n m : ℕ) → (n ≤ m) ⊎ (m ≤ n)
le_or zero m = inl (omega (arith))
le_or (suc n) zero = inr (omega (arith))
le_or (suc n) (suc m) = elim (le_or n m) [ inl l ↦ inl (omega (arith, l)) | inr r ↦ inr (omega (arith, r)) ]

pub ok_so : {A E : Type 0} {P Q : A → Type 0} (r : Result A E) → IfOk r P → ((x : A) → P x → Q x) → IfOk r Q
ok_so (Ok x) h k = k x h
ok_so (Err e) h k = tt

-- ---- structs

pub counts_of : (tcx : TypeContext) (one other : List InputStruct) (g : List (List ℕ)) (own : List ℕ) (depths : List (Option ℕ)) (totals : List ℕ)
    → one ≡ tcx.definitions.structs.defs → other ≡ tcx.definitions.structs.defs → g ≡ graph_of (length one) one → own ≡ all_own other
    → IsGraph g → AreDepths g depths → AreTotals g own most_counted totals → AreCounts tcx.definitions totals
counts_of tcx one other g own depths totals is_one is_other is_graph is_own sound deep all =
    let structs = tcx.definitions.structs.defs in
    let graph_is : g ≡ graph_of (length structs) structs = is_graph ∙ ap (λ (xs : List InputStruct). graph_of (length xs) xs) is_one in
    let own_is : own ≡ all_own structs = is_own ∙ ap all_own is_other in
    totals_count tcx.definitions (context_well tcx) (subst IsGraph graph_is sound) depths (subst (λ x. AreDepths x depths) graph_is deep) totals
    (subst (λ o. AreTotals (graph_of (length structs) structs) o most_counted totals) own_is (subst (λ x. AreTotals x own most_counted totals) graph_is all))

module _ (defs : Definitions) (counts : List ℕ) (are : AreCounts defs counts) where
  -- what stands at a number is the count of that struct
  pub count_there : (n i x : ℕ) → i ≡ n → i < length counts → x ≡ get_or counts i 0 → (args : List (MaybeStatic ℕ))
      → x ≡ min most_counted (length (struct_leaves (fields_in defs) 256 (type.Struct n) args))
  count_there n i x same within is args =
      let each = are.each in
      is ∙ ap (λ k. get_or counts k 0) same ∙ are.right n (omega (arith, within, each, same)) args

  -- where nothing stands there are none
  pub none_there : (n i : ℕ) → i ≡ n → length counts ≤ i → (args : List (MaybeStatic ℕ))
      → 0 ≡ min most_counted (length (struct_leaves (fields_in defs) 256 (type.Struct n) args))
  none_there n i same past args = ap (min most_counted) (sym (none_without defs 256 (type.Struct n) args (no_struct (slice_get defs.structs.defs n) refl))) where
    no_struct : (o : Option InputStruct) → slice_get defs.structs.defs n ≡ o → fields_in defs (type.Struct n) ≡ []
    no_struct None e = ap (where_any input_fields) e
    no_struct (Some def) e =
        let within = slice_get_within defs.structs.defs n def e in let each = are.each in
        absurd (omega (arith, within, past, each, same))

-- ---- inputs

-- a sum that is cut is the sum of what is cut
cut_below : (l a b : ℕ) → a ≤ l → b ≤ l → min l (min l a + min l b) ≡ min l (a + b)
cut_below l a b x y = ap (λ n. min l (n + min l b)) (min-eq_right x) ∙ ap (λ n. min l (a + n)) (min-eq_right y)

at_limit : (l n : ℕ) → l ≤ n → min l n ≡ l
at_limit l n x = min-eq_left x

min_sum : (l a b : ℕ) → min l (min l a + min l b) ≡ min l (a + b)
min_sum l a b = elim (le_or l a) [
  | inl big ↦
      let cut = at_limit l a big in
      ap (λ n. min l (n + min l b)) cut ∙ at_limit l (l + min l b) (omega (arith)) ∙ sym (at_limit l (a + b) (omega (arith, big)))
  | inr small ↦ elim (le_or l b) [
    | inl big ↦
        let cut = at_limit l b big in
        ap (λ n. min l (min l a + n)) cut ∙ at_limit l (min l a + l) (omega (arith)) ∙ sym (at_limit l (a + b) (omega (arith, big)))
    | inr other ↦ cut_below l a b small other
  ]
]

pub one_input : (defs : Definitions) (s : Skeleton TypeId) (n : ℕ) → CountsType defs s n → CountsInputs defs (s ∷ []) n
one_input defs s n is = λ args. is args ∙ ap (min most_counted) (sym (one_alone (λ x. length (deep_leaves (fields_in defs) 256 args x)) s))

pub no_input : (defs : Definitions) → CountsInputs defs [] 0
no_input defs = λ args. refl

pub input_more : (defs : Definitions) (inputs : List (Skeleton TypeId)) (s : Skeleton TypeId) (n m total : ℕ) → CountsInputs defs inputs n → CountsType defs s m
    → total ≡ min most_counted (n + m) → CountsInputs defs (inputs ++ s ∷ []) total
input_more defs inputs s n m total before one sum = λ args.
    let h : Skeleton TypeId → ℕ = λ x. length (deep_leaves (fields_in defs) 256 args x) in
    sum ∙ ap (λ k. min most_counted (k + m)) (before args) ∙ ap (λ k. min most_counted (min most_counted (sum_by h inputs) + k)) (one args)
    ∙ min_sum most_counted (sum_by h inputs) (h s) ∙ ap (min most_counted) (sym (sum_more h inputs s))

-- of a method
pub method_count : (defs : Definitions) (m : Method) (n : ℕ) → CountsInputs defs (method_inputs m) n → n ≡ min most_counted (length (method_leaves defs m))
method_count defs m n is =
    is (identity m.lifetime_env.count)
    ∙ ap (min most_counted) (sym (fields_length in_field (input_leaves (fields_in defs) m.lifetime_env.count) 0 (method_inputs m)))
