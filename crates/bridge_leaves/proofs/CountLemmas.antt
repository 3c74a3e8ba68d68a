-- The leaves of a struct are as many as it holds in the graph of structs.
use Rattle.std.proofs.Common.{◌≡◌, ◌<◌, ◌+◌, ℕ, zero, suc, Bool, true, false, cond, List, [], ◌∷◌, length, map, nat_lt, Option, Some, None, option_map, slice_get, refl, sym, ap, ◌∙◌, arith}
use Rattle.std.specs.Prelude.{slice_index}
use Rattle.std.specs.List.{enumerate_from, flat_map, sum_by}
use Rattle.std.proofs.lemmas.Bool.{lt-ltb, ltb-true}
use Rattle.std.proofs.lemmas.List.{length-append, length-map}
use Rattle.std.proofs.lemmas.List.Sums.{sum_by-append, sum_by-cons}
use Rattle.std.proofs.lemmas.Option.{get_or_from_slice_get, slice_get-map, slice_get_within}
use Rattle.bridge_leaves.specs.inside.Counting.{all_own, graph_of, leaves_here, struct_number_below, own_leaves, struct_here, structs_among}
use Rattle.definition_graph.specs.Reaching.{successors}
use Rattle.definition_graph.specs.Totals.{held_within}
use Rattle.hir_context.specs.Lookups.{InputStruct}
use Rattle.hir_context.specs.declared.parts.Definitions.{Definitions}
use Rattle.hir_ids.specs.declared.ids.TypeId.{TypeId}
use Rattle.hir_ids.specs.declared.ids.TypeId.TheVariants as type
use Rattle.hir_life.specs.Substitution.{subst_each}
use Rattle.hir_life.specs.declared.maybe_static.MaybeStatic.{MaybeStatic}
use Rattle.hir_mentions.specs.Mentions.{where_any}
use Rattle.hir_skeleton.specs.Inputs.{fields_in}
use Rattle.hir_skeleton.specs.Leaves.{DeepLeaf, in_field, struct_leaves, type_leaves}
use Rattle.hir_skeleton.specs.Lowered.{input_fields}
use Rattle.hir_skeleton.specs.Skeletons.{Skeleton, Nothing, Carrier, Struct}

-- ---- sums

nothing_more : {A : Type 0} (f : A → ℕ) → sum_by f [] ≡ 0
nothing_more f = refl

pub one_alone : {A : Type 0} (f : A → ℕ) (x : A) → sum_by f (x ∷ []) ≡ f x
one_alone f x = let one = sum_by-cons f x [] in let none = nothing_more f in omega (arith, one, none)

-- sums of the same
sum_same : {A : Type 0} (f g : A → ℕ) → ((x : A) → f x ≡ g x) → (xs : List A) → sum_by f xs ≡ sum_by g xs
sum_same f g same [] = refl
sum_same f g same (x ∷ xs) =
    let one = sum_by-cons f x xs in let other = sum_by-cons g x xs in let here = same x in let rest = sum_same f g same xs in
    omega (arith, one, other, here, rest)

-- sums of sums
sum_of_sums : {A B : Type 0} (a : A → ℕ) (h : B → ℕ) (l : A → List B) (xs : List A)
    → sum_by (λ x. a x + sum_by h (l x)) xs ≡ sum_by a xs + sum_by h (flat_map l xs)
sum_of_sums a h l [] = refl
sum_of_sums a h l (x ∷ xs) =
    let both = sum_by-cons (λ x. a x + sum_by h (l x)) x xs in
    let own = sum_by-cons a x xs in
    let joined = sum_by-append h (l x) (flat_map l xs) in
    let rest = sum_of_sums a h l xs in
    omega (arith, both, own, joined, rest)

-- the length of what fields give
pub fields_length : {K A : Type 0} (below : ℕ → A → A) (f : Skeleton K → List A) (n : ℕ) (fields : List (Skeleton K))
    → length (flat_map (λ field. map (below field.0) (f field.1)) (enumerate_from n fields)) ≡ sum_by (λ s. length (f s)) fields
fields_length below f n [] = refl
fields_length below f n (s ∷ fields) =
    let both = length-append (map (below n) (f s)) (flat_map (λ field. map (below field.0) (f field.1)) (enumerate_from (n + 1) fields)) in
    let here = length-map (f s) (below n) in
    let rest = fields_length below f (n + 1) fields in
    let sum = sum_by-cons (λ s. length (f s)) s fields in
    omega (arith, both, here, rest, sum)

-- ---- structs

module _ (defs : Definitions) where
  abbrev pub count : ℕ
  count = length defs.structs.defs

  abbrev pub graph : List (List ℕ)
  graph = graph_of count defs.structs.defs

  abbrev pub own : List ℕ
  own = all_own defs.structs.defs

  abbrev leaves : ℕ → TypeId → List (MaybeStatic ℕ) → List DeepLeaf
  leaves = struct_leaves (fields_in defs)

  pub none_without : (levels : ℕ) (id : TypeId) (args : List (MaybeStatic ℕ)) → fields_in defs id ≡ [] → length (leaves levels id args) ≡ 0
  none_without zero id args none = refl
  none_without (suc levels) id args none =
      fields_length in_field (type_leaves (leaves levels) args) 0 (fields_in defs id)
      ∙ ap (sum_by (λ s. length (type_leaves (leaves levels) args s))) none

  abbrev CountedAt : ℕ → Type 0
  CountedAt levels = (m : ℕ) → m < count → (args : List (MaybeStatic ℕ)) → length (leaves levels (type.Struct m) args) ≡ held_within graph own levels m

  -- past the last there is no struct
  past : (m : ℕ) (o : Option InputStruct) → slice_get defs.structs.defs m ≡ o → nat_lt m count ≡ false → fields_in defs (type.Struct m) ≡ []
  past m None is absent = ap (where_any input_fields) is
  past m (Some def) is absent = let within = lt-ltb m count (slice_get_within defs.structs.defs m def is) in absurd cc

  count_number : (levels : ℕ) → CountedAt levels → (m : ℕ) (args : List (MaybeStatic ℕ)) (b : Bool) → nat_lt m count ≡ b
      → length (leaves levels (type.Struct m) args) ≡ sum_by (held_within graph own levels) (cond b (m ∷ []) [])
  count_number levels claim m args true is = claim m (ltb-true m count is) args ∙ sym (one_alone (held_within graph own levels) m)
  count_number levels claim m args false is = none_without levels (type.Struct m) args (past m (slice_get defs.structs.defs m) refl is)

  count_id : (levels : ℕ) → CountedAt levels → (id : TypeId) (args : List (MaybeStatic ℕ))
      → length (leaves levels id args) ≡ sum_by (held_within graph own levels) (struct_number_below count id)
  count_id levels claim (type.Struct m) args = count_number levels claim m args (nat_lt m count) refl
  count_id levels claim (type.OutStruct m) args = none_without levels (type.OutStruct m) args refl
  count_id levels claim (type.Opaque m) args = none_without levels (type.Opaque m) args refl
  count_id levels claim (type.Enum m) args = none_without levels (type.Enum m) args refl

  -- in anything
  pub count_type : (levels : ℕ) → CountedAt levels → (args : List (MaybeStatic ℕ)) (s : Skeleton TypeId)
      → length (type_leaves (leaves levels) args s) ≡ leaves_here s + sum_by (held_within graph own levels) (struct_here count s)
  count_type levels claim args Nothing = refl
  count_type levels claim args (Carrier lifetimes) = refl
  count_type levels claim args (Struct id given) = let n = count_id levels claim id (subst_each given args) in omega (arith, n)

  pub row_of : (m : ℕ) (def : InputStruct) → slice_get defs.structs.defs m ≡ Some def → successors graph m ≡ structs_among count (input_fields def)
  row_of m def is =
      get_or_from_slice_get graph m (structs_among count (input_fields def)) []
      (slice_get-map (λ (d : InputStruct). structs_among count (input_fields d)) defs.structs.defs m ∙ ap (option_map (λ (d : InputStruct). structs_among count (input_fields d))) is)

  own_of : (m : ℕ) (def : InputStruct) → slice_get defs.structs.defs m ≡ Some def → slice_index own m ≡ own_leaves (input_fields def)
  own_of m def is =
      get_or_from_slice_get own m (own_leaves (input_fields def)) 0
      (slice_get-map (λ (d : InputStruct). own_leaves (input_fields d)) defs.structs.defs m ∙ ap (option_map (λ (d : InputStruct). own_leaves (input_fields d))) is)

  count_fields : (levels : ℕ) → CountedAt levels → (args : List (MaybeStatic ℕ)) (fields : List (Skeleton TypeId))
      → sum_by (λ s. length (type_leaves (leaves levels) args s)) fields
      ≡ own_leaves fields + sum_by (held_within graph own levels) (structs_among count fields)
  count_fields levels claim args fields =
      sum_same (λ s. length (type_leaves (leaves levels) args s)) (λ s. leaves_here s + sum_by (held_within graph own levels) (struct_here count s))
      (count_type levels claim args) fields
      ∙ sum_of_sums leaves_here (held_within graph own levels) (struct_here count) fields

  count_struct : (levels : ℕ) → CountedAt levels → (m : ℕ) (def : InputStruct) → slice_get defs.structs.defs m ≡ Some def → (args : List (MaybeStatic ℕ))
      → length (leaves (suc levels) (type.Struct m) args) ≡ held_within graph own (suc levels) m
  count_struct levels claim m def is args =
      let all = fields_length in_field (type_leaves (leaves levels) args) 0 (fields_in defs (type.Struct m)) in
      let fields : fields_in defs (type.Struct m) ≡ input_fields def = ap (where_any input_fields) is in
      let these = ap (sum_by (λ s. length (type_leaves (leaves levels) args s))) fields in
      let both = count_fields levels claim args (input_fields def) in
      let mine = own_of m def is in
      let row = ap (sum_by (held_within graph own levels)) (row_of m def is) in
      omega (arith, all, these, both, mine, row)

  pub some_there : (m : ℕ) (o : Option InputStruct) → slice_get defs.structs.defs m ≡ o → m < count
      → (def : InputStruct) × (slice_get defs.structs.defs m ≡ Some def)
  some_there m None is within = absurd (none_within defs.structs.defs m is within)
    where
      none_within : {A : Type 0} (xs : List A) (i : ℕ) → slice_get xs i ≡ None → i < length xs → ⊥
      none_within [] i e lt = omega (arith, lt)
      none_within (x ∷ xs) zero e lt = cc
      none_within (x ∷ xs) (suc i) e lt = none_within xs i e (omega (arith, lt))
  some_there m (Some def) is within = (def, is)

  -- in each struct
  pub counted_at : (levels : ℕ) → CountedAt levels
  counted_at zero m within args = refl
  counted_at (suc levels) m within args =
      let d = some_there m (slice_get defs.structs.defs m) refl within in
      count_struct levels (counted_at levels) m d.0 d.1 args
