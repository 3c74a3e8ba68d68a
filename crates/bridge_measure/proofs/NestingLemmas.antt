-- No made struct holds itself, and none leads through eight others: it holds the one before it in its eight alone.
use Rattle.std.proofs.Common.{◌≡◌, ℕ, zero, suc, ◌+◌, ◌-◌, ◌%◌, ◌<◌, ◌≤◌, List, [], ◌∷◌, length, sym, ap, subst, ◌∙◌, arith}
use Rattle.std.specs.Prelude.{Some, codes, ◌==◌}
use Rattle.std.specs.List.{Contains}
use Rattle.bridge_ast.specs.declared.place.ItemPlace.{ItemPlace}
use Rattle.bridge_decl.specs.declared.modules.Item.{Item}
use Rattle.bridge_decl.specs.declared.modules.Item.TheVariants as item
use Rattle.bridge_decl.specs.declared.modules.Module.{Module}
use Rattle.bridge_decl.specs.declared.lifetimes.Lifetime.TheVariants.{Named}
use Rattle.bridge_decl.specs.declared.structs.Field.{Field}
use Rattle.bridge_decl.specs.declared.types.Mutability.TheVariants.{Immutable}
use Rattle.bridge_generate.specs.Generated.{fields_of, generated_module, path_to_opaque, path_to_struct, struct_numbered}
use Rattle.bridge_order.specs.declared.catalog.Catalog.{Catalog}
use Rattle.hir_backends.specs.Backend.{Backend}
use Rattle.hir_config.specs.declared.config.LoweringConfig.{LoweringConfig}
use Rattle.hir_lowering.specs.Interface.{Interface}
use Rattle.hir_lowering.specs.Placing.{found_at}
use Rattle.hir_lowering.specs.Walks.{interface_of}
use Rattle.hir_nesting_rules.specs.Chains.{ChainLeadsBy, IsChainBy, ReachesBy}
use Rattle.hir_nesting_rules.specs.Holding.{HoldsStruct, level_structs, struct_named, structs_held}
use Rattle.hir_nesting_rules.specs.NestingBreaks.{NestingBreaks}
use Rattle.hir_number.specs.Naming.{Naming}
use Rattle.hir_reports.specs.declared.report.LoweringReport.{LoweringReport}
use Rattle.bridge_measure.specs.Measured.{measured}
use Rattle.bridge_measure.specs.inside.Made.{AreAsMade, IsMadeAt, struct_place}
use Rattle.bridge_measure.proofs.CountLemmas.{before_in_eight, below_eight, in_rest, isnt_first, none_in, one_in}
use Rattle.bridge_measure.proofs.TypeLemmas.{fold_borrowed, fold_named}

-- ---- what is held

-- the struct of a number, which isn't the first of its eight, and the one before it
abbrev AreNested : ItemPlace → ItemPlace → Type 0
AreNested outer inner = (k : ℕ) × (0 < k % 8) × (outer ≡ struct_place k) × (inner ≡ struct_place (k - 1))

down : (outer inner : ItemPlace) → AreNested outer inner → inner.item < outer.item
down outer inner (k, later, outer_is, inner_is) = omega (arith, ap (λ (p : ItemPlace). p.item) outer_is, ap (λ (p : ItemPlace). p.item) inner_is)

-- how many structs may be held through one another from the place on
abbrev depth : ItemPlace → ℕ
depth place = (place.item - 1) % 8

less_deep : (outer inner : ItemPlace) → AreNested outer inner → depth inner + 1 ≡ depth outer
less_deep outer inner (k, later, outer_is, inner_is) =
    let at_inner : depth inner ≡ (k - 1) % 8 = ap depth inner_is ∙ ap (λ n. n % 8) (omega arith) in
    let at_outer : depth outer ≡ k % 8 = ap depth outer_is ∙ ap (λ n. n % 8) (omega arith) in
    omega (arith, at_inner, at_outer, before_in_eight k later)

module _ (count : ℕ) (backend : Backend) (config : LoweringConfig) (names : ℕ → Naming) (catalog : Catalog) (known : AreAsMade count (names 0) catalog)
    (found_is : (place : ItemPlace) (found : Module × Item) → found_at (measured count) place ≡ Some found
    → (found.0 ≡ generated_module count) × IsMadeAt count place found.1)
  where
    abbrev it : Interface
    it = interface_of (measured count) backend config names catalog

    -- by a field of the struct of a number
    field_holds : (k : ℕ) → k < count → (field : Field) (inner : ItemPlace) → Contains (fields_of k) field
        → Contains (structs_held (names 0) field.ty) inner → (0 < k % 8) × (inner ≡ struct_place (k - 1))
    field_holds k within field inner (zero, at, is) holds =
        let held = subst (λ (f : Field). Contains (structs_held (names 0) f.ty) inner) (sym is) holds in
        let none = fold_borrowed (level_structs (names 0)) (Named (codes "a")) Immutable path_to_opaque ∙ ap struct_named known.opaque_named in
        absurd (none_in inner (subst (λ places. Contains places inner) none held))
    field_holds k within field inner (suc i, at, is) holds =
        let nested = in_rest (k % 8 == 0) _ field i (omega arith) is in
        let held = subst (λ (f : Field). Contains (structs_held (names 0) f.ty) inner) (sym nested.1) holds in
        let one =
        fold_named (level_structs (names 0)) (path_to_struct (k - 1)) ∙ ap struct_named (known.struct_named (k - 1) (omega arith)) in
        (isnt_first (k % 8) nested.0, one_in (struct_place (k - 1)) inner (subst (λ places. Contains places inner) one held))

    made_holds : (outer inner : ItemPlace) (h : HoldsStruct it outer inner) → IsMadeAt count outer (item.Struct h.declared) → AreNested outer inner
    made_holds outer inner h (IsMadeAt.opaque place_is is) = absurd cc
    made_holds outer inner h (IsMadeAt.function k within place_is is) = absurd cc
    made_holds outer inner h (IsMadeAt.struct k within place_is is) =
        let same : h.declared ≡ struct_numbered k = cc in
        let has = subst (λ d. Contains d.fields h.field) same h.has in
        let holds = subst (λ (p : ItemPlace). Contains (structs_held (names p.«module») h.field.ty) inner) place_is h.holds in
        let held = field_holds k within h.field inner has holds in
        (k, held.0, place_is, held.1)

    holds_before : (outer inner : ItemPlace) → HoldsStruct it outer inner → AreNested outer inner
    holds_before outer inner h = made_holds outer inner h (found_is outer (h.owner, item.Struct h.declared) h.is.stands).1

    -- ---- chains

    leads_down : (rest : List ItemPlace) (x y : ItemPlace) → ChainLeadsBy (HoldsStruct it) x rest y → y.item ≤ x.item
    leads_down [] x y same = omega (arith, ap (λ (p : ItemPlace). p.item) same)
    leads_down (next ∷ rest) x y h = omega (arith, down x next (holds_before x next h.0), leads_down rest next y h.1)

    never_itself : (x : ItemPlace) → ¬ (ReachesBy (HoldsStruct it) x x)
    never_itself x r =
        absurd (omega (arith, down x r.next (holds_before x r.next r.linked.0), leads_down r.rest r.next x r.linked.1))

    chain_ends : (rest : List ItemPlace) (x : ItemPlace) → IsChainBy (HoldsStruct it) x rest → length rest ≤ depth x
    chain_ends [] x h = omega arith
    chain_ends (next ∷ rest) x h = omega (arith, less_deep x next (holds_before x next h.0), chain_ends rest next h.1)

    -- ---- the rules

    pub nesting_stands : (report : LoweringReport) → ¬ (NestingBreaks it report)
    nesting_stands report (NestingBreaks.contains_itself place owner declared breaks is) = never_itself place breaks.reaches
    nesting_stands report (NestingBreaks.nests_too_deep place owner declared breaks is) =
        let longest = breaks.longest in
        absurd (omega (arith, chain_ends longest.rest place longest.chain, longest.counted, below_eight (place.item - 1), breaks.above))
