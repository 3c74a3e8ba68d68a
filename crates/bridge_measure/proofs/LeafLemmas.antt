-- The leaves of the made functions: one for each struct of the nest of the first parameter, and the second parameter. A leaf carries one
-- lifetime: the first ones `'a`, and the last one `'b`.
use Rattle.std.proofs.Common.{◌≡◌, ℕ, zero, suc, ◌+◌, ◌-◌, ◌%◌, ◌<◌, ◌≤◌, List, [], ◌∷◌, ◌++◌, length, map, Bool, true, false, Some, refl, sym, subst, ◌∙◌, arith, inl, inr, length-append}
use Rattle.std.specs.Prelude.{◌⊎◌, ◌==◌}
use Rattle.std.specs.List.{All, range_with_len}
use Rattle.std.proofs.lemmas.Bool.{eqb-true}
use Rattle.std.proofs.lemmas.List.{length-map}
use Rattle.std.proofs.lemmas.List.Elements.{All-append, All-cons, All-map, All-nil}
use Rattle.bridge_ast.specs.declared.place.ItemPlace.{ItemPlace}
use Rattle.bridge_callables.specs.Declared.{declared_callables}
use Rattle.bridge_decl.specs.declared.modules.Item.{Item}
use Rattle.bridge_decl.specs.declared.modules.Item.TheVariants as item
use Rattle.bridge_decl.specs.declared.modules.Module.{Module}
use Rattle.bridge_generate.specs.Generated.{function_numbered, generated_module, struct_numbered}
use Rattle.bridge_order.specs.declared.catalog.Catalog.{Catalog}
use Rattle.bridge_report.specs.Callables.{Callable}
use Rattle.hir_backends.specs.Backend.{Backend}
use Rattle.hir_config.specs.declared.config.LoweringConfig.{LoweringConfig}
use Rattle.hir_life.specs.Substitution.{identity}
use Rattle.hir_life.specs.declared.maybe_static.MaybeStatic.{MaybeStatic}
use Rattle.hir_life.specs.declared.maybe_static.MaybeStatic.TheVariants.{NonStatic}
use Rattle.hir_lowering.specs.Interface.{Interface}
use Rattle.hir_lowering.specs.Placing.{found_at}
use Rattle.hir_lowering.specs.Walks.{interface_of}
use Rattle.hir_number.specs.Naming.{Naming}
use Rattle.hir_readings.specs.Declared.{declared_fields}
use Rattle.hir_readings.specs.NumberedSkeletons.{numbered_skeleton}
use Rattle.hir_readings.specs.Readings.{declared_leaves}
use Rattle.hir_skeleton.specs.Leaves.{DeepLeaf, deep_leaves, from_fields, in_field, struct_leaves, type_leaves}
use Rattle.hir_skeleton.specs.NamedLeaves.{NamedLeaf}
use Rattle.hir_skeleton.specs.Skeletons.{Skeleton, Carrier, Struct}
use Rattle.bridge_measure.specs.Measured.{measured}
use Rattle.bridge_measure.specs.inside.Made.{AreAsMade, IsMadeAt, function_place, struct_place}
use Rattle.bridge_measure.proofs.CallableLemmas.{callables_are, made_callable}
use Rattle.bridge_measure.proofs.CountLemmas.{all_below, before_in_eight, below_eight, isnt_first}
use Rattle.bridge_measure.proofs.SignatureLemmas.{made_signature, numbered_borrow}
use Rattle.bridge_measure.proofs.SkeletonLemmas.{fields_are, skeleton_of_borrow, skeleton_of_struct, skeletons_by}

-- ---- leaves that carry one of the lifetimes 0 and 1 each

abbrev pub CarriesOne : List (MaybeStatic ℕ) → Type 0
CarriesOne carried = (carried ≡ NonStatic 0 ∷ []) ⊎ (carried ≡ NonStatic 1 ∷ [])

-- so many of them
record Are (count : ℕ) (leaves : List DeepLeaf) : Type 0 where
  many : length leaves ≡ count
  carry : All (λ (leaf : DeepLeaf). CarriesOne leaf.carried) leaves

as_many : (m n : ℕ) (leaves : List DeepLeaf) → m ≡ n → Are m leaves → Are n leaves
as_many m n leaves same are = subst (λ k. Are k leaves) same are

none_are : Are 0 []
none_are = record { many = refl; carry = All-nil (λ (leaf : DeepLeaf). CarriesOne leaf.carried) }

one_is : (path : List ℕ) (l : ℕ) → CarriesOne (NonStatic l ∷ []) → Are 1 (record { path = path; carried = NonStatic l ∷ [] } ∷ [])
one_is path l carries = record {
  many = refl;
  carry = All-cons (λ (leaf : DeepLeaf). CarriesOne leaf.carried) (record { path = path; carried = NonStatic l ∷ [] }) [] carries none_are.carry;
}

both_are : (m n : ℕ) (xs ys : List DeepLeaf) → Are m xs → Are n ys → Are (m + n) (xs ++ ys)
both_are m n xs ys first second = record {
  many = omega (arith, length-append xs ys, first.many, second.many);
  carry = All-append (λ (leaf : DeepLeaf). CarriesOne leaf.carried) xs ys first.carry second.carry;
}

below_are : (n i : ℕ) (leaves : List DeepLeaf) → Are n leaves → Are n (map (in_field i) leaves)
below_are n i leaves are = record {
  many = length-map leaves (in_field i) ∙ are.many;
  carry = All-map (λ (leaf : DeepLeaf). CarriesOne leaf.carried) (in_field i) leaves are.carry;
}

-- those of one field, and of two
field_is : (n : ℕ) (of_field : Skeleton ItemPlace → List DeepLeaf) (field : Skeleton ItemPlace) (i : ℕ) → Are n (of_field field)
    → Are n (map (in_field i) (of_field field) ++ [])
field_is n of_field field i are =
    as_many (n + 0) n (map (in_field i) (of_field field) ++ []) (omega arith)
    (both_are n 0 (map (in_field i) (of_field field)) [] (below_are n i (of_field field) are) none_are)

two_are : (m n : ℕ) (of_field : Skeleton ItemPlace → List DeepLeaf) (first second : Skeleton ItemPlace)
    → Are m (of_field first) → Are n (of_field second) → Are (m + n) (from_fields in_field of_field (first ∷ second ∷ []))
two_are m n of_field first second here there =
    both_are m n (map (in_field 0) (of_field first)) (map (in_field 1) (of_field second) ++ []) (below_are m 0 (of_field first) here)
    (field_is n of_field second 1 there)

module _ (count : ℕ) (backend : Backend) (config : LoweringConfig) (names : ℕ → Naming) (catalog : Catalog) (known : AreAsMade count (names 0) catalog)
    (struct_found : (k : ℕ) → k < count → found_at (measured count) (struct_place k) ≡ Some (generated_module count, item.Struct (struct_numbered k)))
  where
    abbrev it : Interface
    it = interface_of (measured count) backend config names catalog

    -- ---- structs

    -- where enough levels are left, the struct of a number has a leaf for each struct of its nest
    abbrev Reach : ℕ → Type 0
    Reach levels =
        (k : ℕ) → k < count → k % 8 < levels → Are (k % 8 + 1) (struct_leaves (declared_fields it) levels (struct_place k) (NonStatic 0 ∷ []))

    -- the leaves of a field of the struct, and those of fields
    abbrev of_field : ℕ → Skeleton ItemPlace → List DeepLeaf
    of_field levels = type_leaves (struct_leaves (declared_fields it) levels) (NonStatic 0 ∷ [])

    abbrev of_fields : ℕ → List (Skeleton ItemPlace) → List DeepLeaf
    of_fields levels fields = from_fields in_field (of_field levels) fields

    by_fields : (levels : ℕ) → Reach levels → (k : ℕ) → k < count → k % 8 < suc levels → (first : Bool) → (k % 8 == 0) ≡ first
        → Are (k % 8 + 1) (of_fields levels (skeletons_by (k - 1) first))
    by_fields levels reach k within deep true is =
        as_many 1 (k % 8 + 1) (of_fields levels (skeletons_by (k - 1) true)) (omega (arith, eqb-true (k % 8) 0 is))
        (field_is 1 (of_field levels) (Carrier (NonStatic 0 ∷ [])) 0 (one_is [] 0 (inl refl)))
    by_fields levels reach k within deep false is =
        let less = before_in_eight k (isnt_first (k % 8) is) in
        as_many (1 + ((k - 1) % 8 + 1)) (k % 8 + 1) (of_fields levels (skeletons_by (k - 1) false)) (omega (arith, less))
        (two_are 1 ((k - 1) % 8 + 1) (of_field levels) (Carrier (NonStatic 0 ∷ [])) (Struct (struct_place (k - 1)) (NonStatic 0 ∷ []))
        (one_is [] 0 (inl refl)) (reach (k - 1) (omega arith) (omega (arith, less))))

    all_reach : (levels : ℕ) → Reach levels
    all_reach zero k within deep = absurd (omega arith)
    all_reach (suc levels) k within deep =
        subst (λ fields. Are (k % 8 + 1) (of_fields levels fields))
        (sym (fields_are count backend config names catalog known k within (struct_found k within)))
        (by_fields levels (all_reach levels) k within deep (k % 8 == 0) refl)

    -- ---- inputs

    -- those of two inputs, as far as the levels go
    abbrev of_inputs : ℕ → Skeleton ItemPlace → Skeleton ItemPlace → List DeepLeaf
    of_inputs levels first second = from_fields in_field (deep_leaves (declared_fields it) levels (identity 2)) (first ∷ second ∷ [])

    inputs_have : (levels k : ℕ) → k < count → k % 8 < levels
        → Are (k % 8 + 2) (of_inputs levels (Struct (struct_place k) (NonStatic 0 ∷ [])) (Carrier (NonStatic 1 ∷ [])))
    inputs_have levels k within deep =
        as_many (k % 8 + 1 + 1) (k % 8 + 2) (of_inputs levels (Struct (struct_place k) (NonStatic 0 ∷ [])) (Carrier (NonStatic 1 ∷ []))) (omega arith)
        (two_are (k % 8 + 1) 1 (deep_leaves (declared_fields it) levels (identity 2))
        (Struct (struct_place k) (NonStatic 0 ∷ [])) (Carrier (NonStatic 1 ∷ [])) (all_reach levels k within deep) (one_is [] 1 (inr refl)))

    leaves_are : (k : ℕ) → k < count → Are (k % 8 + 2) (declared_leaves it (made_signature k))
    leaves_are k within =
        let second = numbered_skeleton catalog (numbered_borrow 1) in
        subst (λ s. Are (k % 8 + 2) (of_inputs 256 s second)) (sym (skeleton_of_struct count backend config names catalog known k within))
        (subst (λ s. Are (k % 8 + 2) (of_inputs 256 (Struct (struct_place k) (NonStatic 0 ∷ [])) s))
        (sym (skeleton_of_borrow count backend config names catalog known 1)) (inputs_have 256 k within (omega (arith, below_eight k))))

    -- ---- callables

    pub callable_has : (k : ℕ) → k < count → length (made_callable count backend config names catalog k).leaves ≡ k % 8 + 2
    callable_has k within = length-map (declared_leaves it (made_signature k)) _ ∙ (leaves_are k within).many

    pub callable_carries : (k : ℕ) → k < count
        → All (λ (leaf : NamedLeaf). CarriesOne leaf.carried) (made_callable count backend config names catalog k).leaves
    callable_carries k within = All-map (λ (leaf : NamedLeaf). CarriesOne leaf.carried) _ (declared_leaves it (made_signature k)) (leaves_are k within).carry

    module _ (found_is : (place : ItemPlace) (found : Module × Item) → found_at (measured count) place ≡ Some found
        → (found.0 ≡ generated_module count) × IsMadeAt count place found.1)
        (function_found : (k : ℕ) → k < count
        → found_at (measured count) (function_place count k) ≡ Some (generated_module count, item.Function (function_numbered k)))
      where
        -- none has many
        pub few_leaves : All (λ (c : Callable). length c.leaves ≤ 9) (declared_callables it)
        few_leaves =
            let callable : ℕ → Callable = made_callable count backend config names catalog in
            subst (All (λ (c : Callable). length c.leaves ≤ 9)) (sym (callables_are count backend config names catalog known found_is function_found))
            (All-map (λ (c : Callable). length c.leaves ≤ 9) callable (range_with_len 0 count)
            (all_below count (λ k. length (callable k).leaves ≤ 9) (λ k within. omega (arith, callable_has k within, below_eight k))))
