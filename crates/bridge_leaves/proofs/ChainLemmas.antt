-- No chain of structs that leaves are counted in has more than 256 of them: it is one of the structs of the context.
use Rattle.std.proofs.Common.{◌≡◌, ◌<◌, ◌≤◌, inl, inr, ℕ, zero, suc, Bool, true, false, cond, List, [], ◌∷◌, length, map, nat_lt, Option, Some, None, option_map, slice_get, refl, sym, ap, subst, ◌∙◌, arith}
use Rattle.std.specs.Prelude.{min, slice_index_or}
use Rattle.std.specs.List.{Contains, flat_map}
use Rattle.std.proofs.lemmas.Bool.{ltb-true}
use Rattle.std.proofs.lemmas.List.{length-map}
use Rattle.std.proofs.lemmas.List.Elements.{Contains-append_cases}
use Rattle.std.proofs.lemmas.Option.{slice_get-map}
use Rattle.bridge_leaves.specs.inside.Counting.{most_counted, struct_number_below, struct_here, structs_among}
use Rattle.bridge_leaves.specs.inside.Totals.{AreCounts}
use Rattle.bridge_leaves.proofs.CountLemmas.{count, counted_at, graph, own, row_of}
use Rattle.definition_graph.specs.Reaching.{ChainLeads, Edge, IsGraph, ReachesByEdges, successors}
use Rattle.definition_graph.specs.Surveying.{AreDepths, IsChain, IsDepth, IsLongestChain}
use Rattle.definition_graph.specs.Totals.{AreTotals}
use Rattle.hir_context.specs.Fitness.{nesting_of}
use Rattle.hir_context.specs.Lookups.{InputStruct}
use Rattle.hir_context.specs.declared.parts.Definitions.{Definitions}
use Rattle.hir_ids.specs.declared.ids.TypeId.{TypeId}
use Rattle.hir_ids.specs.declared.ids.TypeId.TheVariants as type
use Rattle.hir_nesting.proofs.Judging.{no_fault}
use Rattle.hir_nesting.specs.Faults.{AllNestWell}
use Rattle.hir_nesting.specs.declared.fault.NestingFault.TheVariants as fault
use Rattle.hir_skeleton.proofs.Containment.{AgreesBelow, Layer, edge_to, ids_inside, node, node_within, none_carried, place_of}
use Rattle.hir_skeleton.proofs.Members.{first_is_there, later_is_there, member_cases, none_in_nothing}
use Rattle.hir_skeleton.specs.Lowered.{input_fields, skeleton_step}
use Rattle.hir_skeleton.specs.Skeletons.{Skeleton, Nothing, Carrier, Struct}
use Rattle.hir_types.specs.declared.types.HirType.TheOpen.{HirType-F}

-- ---- what is contained in a type is what its skeleton has

abbrev skeleton_layer : Layer (Skeleton TypeId) → Skeleton TypeId
skeleton_layer = skeleton_step Some place_of (λ path. path.lifetimes) (λ path. path.owner)

keeps : (y : _) → AgreesBelow skeleton_layer y
keeps (HirType-F.Primitive _) = refl
keeps (HirType-F.Opaque path) = refl
keeps (HirType-F.Struct path) = refl
keeps (HirType-F.ImplTrait _) = refl
keeps (HirType-F.Enum _) = refl
keeps (HirType-F.Slice s) = none_carried _
keeps (HirType-F.Callback _) = refl
keeps (HirType-F.DiplomatOption inside) = inside.1

-- ---- what an edge leads to is one of so many structs

given_by : {X Y : Type 0} (f : X → List Y) (xs : List X) (y : Y) → Contains (flat_map f xs) y → (x : X) × Contains xs x × Contains (f x) y
given_by f [] y h = absurd (none_in_nothing y h)
given_by f (z ∷ zs) y h = elim (Contains-append_cases (f z) (flat_map f zs) y h) [
  | inl l ↦ (z, first_is_there z zs, l)
  | inr r ↦ let of = given_by f zs y r in (of.0, later_is_there z of.0 zs of.1, of.2)
]

one_here : (b : Bool) (n m : ℕ) → Contains (cond b (n ∷ []) []) m → (b ≡ true) × (n ≡ m)
one_here true n m h = (refl, elim (member_cases n m [] h) [ inl is ↦ is | inr none ↦ absurd (none_in_nothing m none) ])
one_here false n m h = absurd (none_in_nothing m h)

numbered_here : (count : ℕ) (id : TypeId) (m : ℕ) → Contains (struct_number_below count id) m → (id ≡ type.Struct m) × (m < count)
numbered_here count (type.Struct n) m h =
    let one = one_here (nat_lt n count) n m h in
    let within = ltb-true n count one.0 in
    (ap type.Struct one.1, omega (arith, within, one.1))
numbered_here count (type.OutStruct n) m h = absurd (none_in_nothing m h)
numbered_here count (type.Opaque n) m h = absurd (none_in_nothing m h)
numbered_here count (type.Enum n) m h = absurd (none_in_nothing m h)

stands_inside : (count : ℕ) (s : Skeleton TypeId) (m : ℕ) → Contains (struct_here count s) m → Contains (ids_inside s) (type.Struct m) × (m < count)
stands_inside count Nothing m h = absurd (none_in_nothing m h)
stands_inside count (Carrier ls) m h = absurd (none_in_nothing m h)
stands_inside count (Struct id args) m h =
    let one = numbered_here count id m h in
    (subst (λ i. Contains (i ∷ []) (type.Struct m)) (sym one.0) (first_is_there (type.Struct m) []), one.1)

-- ---- and an edge of all structs leads there

module _ (defs : Definitions) where
  leads : (a b : ℕ) (def : InputStruct) → slice_get defs.structs.defs a ≡ Some def → Contains (structs_among (count defs) (input_fields def)) b
      → Edge (nesting_of defs) (node defs a) (node defs b)
  leads a b def is h =
      let of = given_by (struct_here (count defs)) (input_fields def) b h in
      let there = stands_inside (count defs) of.0 b of.2 in
      edge_to skeleton_layer keeps defs a b def of.0 is there.1 of.1 there.0

  -- an edge leads from a struct that is there
  edge_there : (a b : ℕ) → Edge (graph defs) a b → Edge (nesting_of defs) (node defs a) (node defs b)
  edge_there a b e = by_def (slice_get defs.structs.defs a) refl where
    by_def : (o : Option InputStruct) → slice_get defs.structs.defs a ≡ o → Edge (nesting_of defs) (node defs a) (node defs b)
    by_def (Some def) is = leads a b def is (subst (λ row. Contains row b) (row_of defs a def is) e)
    by_def None is =
        let none : successors (graph defs) a ≡ [] =
        no_row (graph defs) a (slice_get-map (λ (d : InputStruct). structs_among (count defs) (input_fields d)) defs.structs.defs a
        ∙ ap (option_map (λ (d : InputStruct). structs_among (count defs) (input_fields d))) is) in
        absurd (none_in_nothing b (subst (λ row. Contains row b) none e))
      where
        no_row : (g : List (List ℕ)) (i : ℕ) → slice_get g i ≡ None → successors g i ≡ []
        no_row [] i e = refl
        no_row (r ∷ g) zero e = absurd cc
        no_row (r ∷ g) (suc i) e = no_row g i e

  chain_there : (a : ℕ) (others : List ℕ) → IsChain (graph defs) a others → IsChain (nesting_of defs) (node defs a) (map (node defs) others)
  chain_there a [] chain = tt
  chain_there a (b ∷ others) chain = (edge_there a b chain.0, chain_there b others chain.1)

  rows_count : length (graph defs) ≡ count defs
  rows_count = length-map defs.structs.defs (λ (d : InputStruct). structs_among (count defs) (input_fields d))

  graph_nests : AllNestWell (nesting_of defs) → AllNestWell (graph defs)
  graph_nests well a others within chain =
      let rows_ = rows_count in
      let few = well (node defs a) (map (node defs) others) (node_within defs a (omega (arith, within, rows_))) (chain_there a others chain) in
      let same = length-map others (node defs) in
      omega (arith, few, same)

  -- each struct is at the front of a longest chain, which has 256 structs at most
  longest : AllNestWell (graph defs) → IsGraph (graph defs) → (a : ℕ) → a < length (graph defs) → (d : Option ℕ) → IsDepth (graph defs) a d
      → (n : ℕ) × (n ≤ 256) × IsLongestChain (graph defs) a n
  longest well sound a within (Some d) depth =
      let n = depth.0 in let chain = depth.1 in
      let few = well a chain.rest within chain.chain in let many = chain.count in
      (n, omega (arith, few, many), chain)
  longest well sound a within None depth =
      absurd (no_fault (graph defs) depth.0 fault.ContainsItself well (reaches_node depth.0 depth.2) depth.2)
    where
      reaches_node : (r : ℕ) → ReachesByEdges (graph defs) r r → r < length (graph defs)
      reaches_node r h = last_node r h.next h.chain r h.linked.0 h.linked.1
        where
          last_node : (from next : ℕ) (chain : List ℕ) (to : ℕ) → Edge (graph defs) from next → ChainLeads (graph defs) next chain to → to < length (graph defs)
          last_node from next [] to e is = subst (λ n. n < length (graph defs)) is (sound from next e)
          last_node from next (m ∷ chain) to e rest = last_node next m chain to rest.0 rest.1

  -- so the totals are what is counted
  pub totals_count : AllNestWell (nesting_of defs) → IsGraph (graph defs) → (depths : List (Option ℕ)) → AreDepths (graph defs) depths
      → (totals : List ℕ) → AreTotals (graph defs) (own defs) most_counted totals → AreCounts defs totals
  totals_count well sound depths deep totals all = record {
    each = all.each ∙ rows_count;
    right = λ n within args.
        let rows_ = rows_count in
        let lt : n < length (graph defs) = omega (arith, within, rows_) in
        let chain = longest (graph_nests well) sound n lt (slice_index_or depths n None) (deep.right n lt) in
        all.right n chain.0 256 lt chain.2 chain.1 ∙ ap (min most_counted) (sym (counted_at defs 256 n within args));
  }
