-- How many leaves of the made functions are listed: all of them, since a return names `'a` alone, and `'b` outlives it.
use Rattle.std.proofs.Common.{◌≡◌, ℕ, zero, suc, ◌+◌, ◌*◌, ◌%◌, ◌<◌, ◌≤◌, List, [], ◌∷◌, length, map, Bool, true, false, Some, refl, sym, ap, subst, ◌∙◌, arith, inl, inr}
use Rattle.std.specs.Prelude.{◌||◌, cond}
use Rattle.std.specs.List.{All, AllZip, Contains, filter, list_any, range_with_len, sum, sum_by}
use Rattle.std.proofs.lemmas.List.Elements.{All-head, All-tail, All-weaker}
use Rattle.std.proofs.lemmas.List.Sums.{sum_by-cons}
use Rattle.bridge_ast.specs.declared.place.ItemPlace.{ItemPlace}
use Rattle.bridge_callables.specs.Declared.{declared_callables}
use Rattle.bridge_decl.specs.declared.modules.Item.{Item}
use Rattle.bridge_decl.specs.declared.modules.Item.TheVariants as item
use Rattle.bridge_decl.specs.declared.modules.Module.{Module}
use Rattle.bridge_decl.specs.declared.types.Mutability.TheVariants.{Immutable}
use Rattle.bridge_generate.specs.Generated.{function_numbered, generated_module, struct_numbered}
use Rattle.bridge_order.specs.declared.catalog.Catalog.{Catalog}
use Rattle.bridge_report.specs.Borrowings.{passes}
use Rattle.bridge_report.specs.Callables.{Callable}
use Rattle.bridge_summary.specs.Summary.{AreListed, AreListedOf, AreListedUnder}
use Rattle.hir_backends.specs.Backend.{Backend}
use Rattle.hir_config.specs.declared.config.LoweringConfig.{LoweringConfig}
use Rattle.hir_life.specs.Environment.{longer_of}
use Rattle.hir_life.specs.Outlives.{Outlives}
use Rattle.hir_life.specs.declared.maybe_static.MaybeStatic.{MaybeStatic}
use Rattle.hir_life.specs.declared.maybe_static.MaybeStatic.TheVariants.{NonStatic}
use Rattle.hir_lowering.specs.Interface.{Interface}
use Rattle.hir_lowering.specs.Placing.{found_at}
use Rattle.hir_lowering.specs.Walks.{interface_of}
use Rattle.hir_number.specs.Naming.{Naming}
use Rattle.hir_number.specs.declared.numbered.NumberedType.{out-roll-NumberedType}
use Rattle.hir_number.specs.declared.numbered.NumberedType.TheOpen.{NumberedType-F}
use Rattle.hir_readings.specs.NamedLifetimes.{lent_generics, level_behind, returned_level_lifetimes}
use Rattle.hir_skeleton.specs.Leaves.{number_passes}
use Rattle.hir_skeleton.specs.NamedLeaves.{NamedLeaf}
use Rattle.hir_types.specs.Named.{ListsNumbers}
use Rattle.bridge_measure.specs.Measured.{measured}
use Rattle.bridge_measure.specs.inside.Made.{AreAsMade, IsMadeAt, function_place, struct_place}
use Rattle.bridge_measure.proofs.CallableLemmas.{callables_are, made_callable}
use Rattle.bridge_measure.proofs.CountLemmas.{below_eight, none_in, one_in}
use Rattle.bridge_measure.proofs.FilledLemmas.{named_type, opaque_target}
use Rattle.bridge_measure.proofs.LeafLemmas.{CarriesOne, callable_carries, callable_has}
use Rattle.bridge_measure.proofs.SignatureLemmas.{two_known}

-- ---- numbers of lifetimes

each_is_first : (numbers : List ℕ) (x : ℕ) → ListsNumbers numbers (NonStatic 0 ∷ []) → Contains numbers x → x ≡ 0
each_is_first numbers x lists among =
    let is : NonStatic x ≡ NonStatic 0 = one_in (NonStatic 0) (NonStatic x) ((lists.members x).0 among) in
    cc

only_first : (numbers : List ℕ) → ListsNumbers numbers (NonStatic 0 ∷ []) → numbers ≡ 0 ∷ []
only_first [] lists = absurd (none_in 0 ((lists.members 0).1 (0, omega arith, refl)))
only_first (x ∷ []) lists = ap (λ n. n ∷ []) (each_is_first (x ∷ []) x lists (0, omega arith, refl))
only_first (x ∷ y ∷ rest) lists =
    let rises : x < y = lists.ascending 0 (omega arith) in
    absurd (omega (arith, each_is_first (x ∷ y ∷ rest) y lists (1, omega arith, refl)))

-- ---- leaves that pass

keeps_all : {A : Type 0} (test : A → Bool) (xs : List A) → All (λ x. test x ≡ true) xs → filter test xs ≡ xs
keeps_all test [] all = refl
keeps_all test (x ∷ xs) all =
    ap (λ b. cond b (x ∷ filter test xs) (filter test xs)) (All-head (λ y. test y ≡ true) x xs all)
    ∙ ap (λ ys. x ∷ ys) (keeps_all test xs (All-tail (λ y. test y ≡ true) x xs all))

one_passes : (test : ℕ → Bool) → test 0 ≡ true → test 1 ≡ true → (carried : List (MaybeStatic ℕ)) → CarriesOne carried
    → list_any (number_passes test) carried ≡ true
one_passes test first second carried (inl is) = ap (list_any (number_passes test)) is ∙ ap (λ b. b || false) first
one_passes test first second carried (inr is) = ap (list_any (number_passes test)) is ∙ ap (λ b. b || false) second

-- `'a` outlives itself, and `'b` outlives it
first_outlives : Outlives (longer_of two_known) 0 0
first_outlives = record { chain = []; linked = refl }

second_outlives : Outlives (longer_of two_known) 1 0
second_outlives = record { chain = 0 ∷ []; linked = ((0, omega arith, refl), refl) }

-- ---- sums

-- so many of the functions of so many numbers
abbrev pub leaves_of : ℕ → ℕ
leaves_of k = k % 8 + 2

few_in_all : (a n : ℕ) → sum_by leaves_of (range_with_len a n) ≤ 9 * n
few_in_all a zero = omega arith
few_in_all a (suc n) =
    let more : sum_by leaves_of (range_with_len a (suc n)) ≡ leaves_of a + sum_by leaves_of (range_with_len (a + 1) n) =
    sum_by-cons leaves_of a (range_with_len (a + 1) n) in
    let rest = few_in_all (a + 1) n in
    subst (λ s. s ≤ 9 * suc n) (sym more) (omega (arith, below_eight a, rest))

module _ (count : ℕ) (backend : Backend) (config : LoweringConfig) (names : ℕ → Naming) (catalog : Catalog) (known : AreAsMade count (names 0) catalog)
    (struct_found : (k : ℕ) → k < count → found_at (measured count) (struct_place k) ≡ Some (generated_module count, item.Struct (struct_numbered k)))
  where
    abbrev it : Interface
    it = interface_of (measured count) backend config names catalog

    abbrev callable : ℕ → Callable
    callable = made_callable count backend config names catalog

    -- a return names `'a` alone
    named_is : (k : ℕ) → (callable k).named ≡ NonStatic 0 ∷ []
    named_is k =
        ap (returned_level_lifetimes catalog) (out-roll-NumberedType (NumberedType-F.Reference (NonStatic 0) Immutable (named_type opaque_target)))
        ∙ ap (level_behind catalog (NonStatic 0)) (out-roll-NumberedType (NumberedType-F.Named opaque_target))
        ∙ ap (λ e. lent_generics (NonStatic 0) e opaque_target) known.opaque_entry.1

    under_first : (k : ℕ) → k < count → (n : ℕ) → AreListedUnder (callable k) 0 n → n ≡ leaves_of k
    under_first k within n under =
        let first = (under.tells 0).1 first_outlives in
        let second = (under.tells 1).1 second_outlives in
        let all = All-weaker (λ (leaf : NamedLeaf). CarriesOne leaf.carried) (λ (leaf : NamedLeaf). passes under.test leaf ≡ true)
        (λ leaf carries. one_passes under.test first second leaf.carried carries) (callable k).leaves
        (callable_carries count backend config names catalog known struct_found k within) in
        under.is ∙ ap length (keeps_all (passes under.test) (callable k).leaves all)
        ∙ callable_has count backend config names catalog known struct_found k within

    one_count : (k : ℕ) → k < count → (n : ℕ) (counts : List ℕ) → AllZip (AreListedUnder (callable k)) (0 ∷ []) counts → n ≡ sum counts
        → n ≡ leaves_of k
    one_count k within n [] each is = absurd each
    one_count k within n (x ∷ []) each is = omega (arith, is, under_first k within x each.0)
    one_count k within n (x ∷ y ∷ rest) each is = absurd each.1

    listed_of : (k : ℕ) → k < count → (n : ℕ) → AreListedOf (callable k) n → n ≡ leaves_of k
    listed_of k within n of =
        let numbers_are = only_first of.numbers (subst (ListsNumbers of.numbers) (named_is k) of.are) in
        one_count k within n of.counts (subst (λ numbers. AllZip (AreListedUnder (callable k)) numbers of.counts) numbers_are of.each) of.is

    listed_in : (a n : ℕ) → a + n ≤ count → (counts : List ℕ) → AllZip AreListedOf (map callable (range_with_len a n)) counts
        → sum counts ≡ sum_by leaves_of (range_with_len a n)
    listed_in a zero within [] each = refl
    listed_in a zero within (x ∷ counts) each = absurd each
    listed_in a (suc n) within [] each = absurd each
    listed_in a (suc n) within (x ∷ counts) each =
        sum_by-cons (λ m. m) x counts
        ∙ ap (λ m. m + sum counts) (listed_of a (omega arith) x each.0)
        ∙ ap (λ m. leaves_of a + m) (listed_in (a + 1) n (omega arith) counts each.1)
        ∙ sym (sum_by-cons leaves_of a (range_with_len (a + 1) n))

    module _ (found_is : (place : ItemPlace) (found : Module × Item) → found_at (measured count) place ≡ Some found
        → (found.0 ≡ generated_module count) × IsMadeAt count place found.1)
        (function_found : (k : ℕ) → k < count
        → found_at (measured count) (function_place count k) ≡ Some (generated_module count, item.Function (function_numbered k)))
      where
        pub listed_is : (listed : ℕ) → AreListed (declared_callables it) listed → listed ≡ sum_by leaves_of (range_with_len 0 count)
        listed_is listed are =
            let callables = callables_are count backend config names catalog known found_is function_found in
            let each = subst (λ cs. AllZip AreListedOf cs are.counts) callables are.each in
            are.is ∙ listed_in 0 count (omega arith) are.counts each

        pub few_listed : (listed : ℕ) → AreListed (declared_callables it) listed → listed ≤ 9 * count
        few_listed listed are = subst (λ n. n ≤ 9 * count) (sym (listed_is listed are)) (few_in_all 0 count)
