-- What is told of how lowered structs nest is what their declarations break.
use Rattle.std.proofs.Common.{◌≡◌, inl, inr, ℕ, ◌+◌, ◌<◌, List, [], ◌∷◌, ◌++◌, drop, length, take, Option, Some, None, get_or, refl, sym, ap, subst, ◌∙◌, arith}
use Rattle.std.specs.Prelude.{slice_get}
use Rattle.std.specs.List.{Contains}
use Rattle.std.proofs.lemmas.List.Elements.{Contains-append_cases, Contains-append_left, Contains-append_right}
use Rattle.std.proofs.lemmas.Option.{get_or_from_slice_get, same_Some, slice_get-get_or, slice_get_within}
use Rattle.bridge_ast.specs.declared.place.ItemPlace.{ItemPlace}
use Rattle.bridge_decl.specs.declared.modules.Item.{Item}
use Rattle.bridge_decl.specs.declared.modules.Item.TheVariants as item
use Rattle.bridge_decl.specs.declared.modules.Module.{Module}
use Rattle.bridge_decl.specs.declared.structs.Struct.{Struct}
use Rattle.bridge_places.specs.Entries.{IsCatalog}
use Rattle.bridge_telling.specs.Telling.{TellsExactly}
use Rattle.definition_graph.specs.Reaching.{Leads}
use Rattle.definition_graph.proofs.Totalling.{longest_no_cycle}
use Rattle.hir_lowering.specs.Interface.{AreNamed, Interface}
use Rattle.hir_lowering.specs.Lowered.{AreAllLowered}
use Rattle.hir_lowering.specs.Nesting.{each_nesting_report, nesting_reports}
use Rattle.hir_lowering.specs.Placing.{found_at}
use Rattle.hir_nesting.specs.Faults.{AreNestingFaults, HasFault, TellsNesting}
use Rattle.hir_nesting.specs.declared.fault.NestingFault.{NestingFault}
use Rattle.hir_nesting.specs.declared.fault.NestingFault.TheVariants as fault
use Rattle.hir_reports.specs.declared.report.LoweringReport.{LoweringReport}
use Rattle.hir_usage_notes.specs.declared.definitions.LoweredDefinitions.{LoweredDefinitions}
use Rattle.hir_nesting_rules.specs.Chains.{IsChainBy, IsLongestBy, ReachesBy}
use Rattle.hir_nesting_rules.specs.Holding.{HoldsStruct, IsEnabledStruct}
use Rattle.hir_nesting_rules.specs.LoweredContainment.{lowered_containment}
use Rattle.hir_nesting_rules.specs.NestingBreaks.{NestingBreaks, contains_itself, nests_too_deep}
use Rattle.hir_nesting_rules.specs.rules.NestingTooDeep.{NestingTooDeep}
use Rattle.hir_nesting_rules.specs.rules.StructContainsItself.{StructContainsItself}
use Rattle.hir_nesting_rules.proofs.CatalogLemmas.{IsStruct, StandsAmong, among_outs, among_structs, stands_among}
use Rattle.hir_nesting_rules.proofs.ChainLemmas.{longest_down, longest_ends, longest_up, reaches_down, reaches_up}
use Rattle.hir_nesting_rules.proofs.GraphLemmas.{IsNodeOf, edge_down, edge_up, held_is_node, in_places, many_nodes, number_of, one_place, out_count, out_places, struct_is_node}
use Rattle.hir_nesting_rules.proofs.ListLemmas.{get_back, get_dropped, get_front, get_taken, taken_get}
use Rattle.hir_nesting_rules.proofs.PlaceLemmas.{found_item}
use Rattle.hir_nesting_rules.proofs.ReportLemmas.{ToldAmong, each_told, fault_report}

-- ---- faults

-- a struct that contains itself has no longest chain
one_fault : (g : List (List ℕ)) (a : ℕ) (f h : NestingFault) → HasFault g a f → HasFault g a h → f ≡ h
one_fault g a fault.ContainsItself fault.ContainsItself has also = refl
one_fault g a fault.ContainsItself fault.NestsTooDeep has (n, longest, above) =
    let leads : Leads g a a = record { chain = []; linked = refl } in
    absurd (longest_no_cycle g a n longest (a, leads, has))
one_fault g a fault.NestsTooDeep fault.ContainsItself (n, longest, above) also =
    let leads : Leads g a a = record { chain = []; linked = refl } in
    absurd (longest_no_cycle g a n longest (a, leads, also))
one_fault g a fault.NestsTooDeep fault.NestsTooDeep has also = refl

-- the fault that is told of a node that has one
fault_told : (g : List (List ℕ)) (a : ℕ) (o : Option NestingFault) → TellsNesting g a o → (f : NestingFault) → HasFault g a f → o ≡ Some f
fault_told g a None tells f has = absurd (tells f has)
fault_told g a (Some h) tells f has = ap (λ k. Some k) (one_fault g a h f tells has)

module _ (g : List (List ℕ)) (faults : List (Option NestingFault)) (are : AreNestingFaults g faults) where
  fault_noted : (a : ℕ) → a < length g → (f : NestingFault) → HasFault g a f → slice_get faults a ≡ Some (Some f)
  fault_noted a within f has =
      let many = are.each in
      slice_get-get_or faults a None (omega (arith, within, many)) ∙ ap (λ o. Some o) (fault_told g a (get_or faults a None) (are.right a within) f has)

  noted_fault : (a : ℕ) (f : NestingFault) → slice_get faults a ≡ Some (Some f) → HasFault g a f
  noted_fault a f noted =
      let many = are.each in
      let inside = slice_get_within faults a (Some f) noted in
      subst (TellsNesting g a) (get_or_from_slice_get faults a (Some f) None noted) (are.right a (omega (arith, inside, many)))

-- ---- structs

module _ (it : Interface) (d : LoweredDefinitions) (faults : List (Option NestingFault)) (is_catalog : IsCatalog it.modules it.catalog) (named : AreNamed it.modules it.names) (all : AreAllLowered it d)
    (are : AreNestingFaults (lowered_containment d) faults)
  where
    abbrev graph : List (List ℕ)
    graph = lowered_containment d

    abbrev Holding : ItemPlace → ItemPlace → Type 0
    Holding = HoldsStruct it

    abbrev Node : ℕ → ItemPlace → Type 0
    Node = IsNodeOf it

    abbrev node : ItemPlace → ℕ
    node = number_of it

    -- the rule that a fault is of
    abbrev Broken : NestingFault → ItemPlace → Module → Struct → Type 0
    Broken fault.ContainsItself place owner declared = StructContainsItself it place owner declared
    Broken fault.NestsTooDeep place owner declared = NestingTooDeep it place owner declared

    abbrev BrokenAt : NestingFault → ItemPlace → Type 0
    BrokenAt f place = (owner : Module) × ((declared : Struct) × Broken f place owner declared)

    deep_broken : (p : ItemPlace) (n : ℕ) → IsLongestBy Holding p n → 256 < n → ((q : ItemPlace) → ReachesBy Holding p q → ¬ (ReachesBy Holding q q)) → (rest : List ItemPlace) → IsChainBy Holding p rest
        → length rest + 1 ≡ n → BrokenAt fault.NestsTooDeep p
    deep_broken p n longest above ends [] chain counted = absurd (omega (arith, above, counted))
    deep_broken p n longest above ends (q ∷ rest) chain counted = (
      chain.0.owner,
      (chain.0.declared, record { is = chain.0.is; never = λ r. ends p r r; none = ends; count = n; longest = longest; above = above }),
    )

    fault_breaks : (a : ℕ) (p : ItemPlace) → Node a p → (f : NestingFault) → HasFault graph a f → BrokenAt f p
    fault_breaks a p at fault.ContainsItself has =
        let r = reaches_down Holding graph Node node (one_place it) (edge_down it is_catalog named d all) (edge_up it is_catalog named d all) (held_is_node it is_catalog named) a a p p at at has in
        (r.linked.0.owner, (r.linked.0.declared, record { is = r.linked.0.is; reaches = r }))
    fault_breaks a p at fault.NestsTooDeep (n, longest, above) =
        let l = longest_down Holding graph Node node (one_place it) (edge_down it is_catalog named d all) (edge_up it is_catalog named d all) (held_is_node it is_catalog named) a n p at longest in
        deep_broken p n l above
        (λ q r. longest_ends Holding graph Node node (one_place it) (edge_down it is_catalog named d all) (edge_up it is_catalog named d all) (held_is_node it is_catalog named) a n p q at longest r)
        l.rest l.chain l.counted

    broken_fault : (p : ItemPlace) → Node (node p) p → (f : NestingFault) (owner : Module) (declared : Struct) → Broken f p owner declared → HasFault graph (node p) f
    broken_fault p at fault.ContainsItself owner declared broken =
        reaches_up Holding graph Node node (one_place it) (edge_down it is_catalog named d all) (edge_up it is_catalog named d all) (held_is_node it is_catalog named) (node p) p p at broken.reaches
    broken_fault p at fault.NestsTooDeep owner declared broken = (
      broken.count,
      longest_up Holding graph Node node (one_place it) (edge_down it is_catalog named d all) (edge_up it is_catalog named d all) (held_is_node it is_catalog named) (node p) broken.count p at broken.longest,
      broken.above,
    )

    broken_stands : (f : NestingFault) (p : ItemPlace) (owner : Module) (declared : Struct) → Broken f p owner declared → IsEnabledStruct it p owner declared
    broken_stands fault.ContainsItself p owner declared broken = broken.is
    broken_stands fault.NestsTooDeep p owner declared broken = broken.is

    -- ---- reports

    broken_report : (f : NestingFault) (p : ItemPlace) (owner : Module) (declared : Struct) (e : LoweringReport) → Broken f p owner declared → e ≡ fault_report (owner, item.Struct declared) f → NestingBreaks it e
    broken_report fault.ContainsItself p owner declared e broken is = contains_itself p owner declared broken is
    broken_report fault.NestsTooDeep p owner declared e broken is = nests_too_deep p owner declared broken is

    -- what is told at a node
    told_breaks : (a : ℕ) (p : ItemPlace) (f : NestingFault) (owner : Module) (declared : Item) (e : LoweringReport) → Node a p → slice_get faults a ≡ Some (Some f) → found_at it.modules p ≡ Some (owner, declared)
        → e ≡ fault_report (owner, declared) f → NestingBreaks it e
    told_breaks a p f owner declared e at noted found is =
        let broken = fault_breaks a p at f (noted_fault graph faults are a f noted) in
        let stands = (broken_stands f p broken.0 broken.1.0 broken.1.1).stands in
        let same : (owner, declared) ≡ (broken.0, item.Struct broken.1.0) = same_Some (owner, declared) (broken.0, item.Struct broken.1.0) (sym found ∙ stands) in
        broken_report f p broken.0 broken.1.0 e broken.1.1 (is ∙ ap (λ there. fault_report there f) same)

    abbrev outs : ℕ
    outs = length d.out_structs.items

    told_of_structs : (e : LoweringReport) → ToldAmong it.modules (drop outs faults) (in_places it) e → NestingBreaks it e
    told_of_structs e t =
        told_breaks (length (out_places it) + t.number) t.place t.fault t.owner t.declared e (get_back (out_places it) (in_places it) t.number ∙ t.at)
        (ap (λ n. slice_get faults (n + t.number)) (sym (out_count it is_catalog named d all)) ∙ sym (get_dropped outs faults t.number) ∙ t.noted) t.found t.is

    told_of_out_structs : (e : LoweringReport) → ToldAmong it.modules (take outs faults) (out_places it) e → NestingBreaks it e
    told_of_out_structs e t =
        told_breaks t.number t.place t.fault t.owner t.declared e (get_front (out_places it) (in_places it) t.number t.place t.at) (get_taken outs faults t.number (Some t.fault) t.noted) t.found t.is

    abbrev struct_reports_told : List LoweringReport
    struct_reports_told = each_nesting_report it.modules (drop outs faults) (in_places it)

    abbrev out_struct_reports_told : List LoweringReport
    out_struct_reports_told = each_nesting_report it.modules (take outs faults) (out_places it)

    -- what is broken is told among the places of its kind
    among_told : (f : NestingFault) (p : ItemPlace) (owner : Module) (declared : Struct) (e : LoweringReport) → found_at it.modules p ≡ Some (owner, item.Struct declared) → slice_get faults (node p) ≡ Some (Some f)
        → e ≡ fault_report (owner, item.Struct declared) f → StandsAmong it.modules it.catalog p → Contains (struct_reports_told ++ out_struct_reports_told) e
    among_told f p owner declared e found noted is (among_outs id at number known) =
        let inside = slice_get_within (out_places it) id p at in
        let many = out_count it is_catalog named d all in
        Contains-append_right struct_reports_told out_struct_reports_told e
        ((each_told it.modules (take outs faults) (out_places it) e).1
        (record {
          number = id;
          place = p;
          at = at;
          fault = f;
          noted = taken_get outs faults id (omega (arith, inside, many)) ∙ ap (slice_get faults) (sym number) ∙ noted;
          owner = owner;
          declared = item.Struct declared;
          found = found;
          is = is;
        }))
    among_told f p owner declared e found noted is (among_structs id at number known) =
        Contains-append_left struct_reports_told out_struct_reports_told e
        ((each_told it.modules (drop outs faults) (in_places it) e).1
        (record {
          number = id;
          place = p;
          at = at;
          fault = f;
          noted = get_dropped outs faults id ∙ ap (λ n. slice_get faults (n + id)) (out_count it is_catalog named d all) ∙ ap (slice_get faults) (sym number) ∙ noted;
          owner = owner;
          declared = item.Struct declared;
          found = found;
          is = is;
        }))

    broken_told : (f : NestingFault) (p : ItemPlace) (owner : Module) (declared : Struct) (e : LoweringReport) → Broken f p owner declared → e ≡ fault_report (owner, item.Struct declared) f
        → Contains (struct_reports_told ++ out_struct_reports_told) e
    broken_told f p owner declared e broken is =
        let found = (broken_stands f p owner declared broken).stands in
        let is_struct : IsStruct it.modules p = (declared, found_item it.modules p owner (item.Struct declared) found) in
        let at = struct_is_node it is_catalog named p is_struct in
        let within = slice_get_within (out_places it ++ in_places it) (node p) p at in
        let many = many_nodes it is_catalog named d all in
        among_told f p owner declared e found (fault_noted graph faults are (node p) (omega (arith, within, many)) f (broken_fault p at f owner declared broken)) is
        (stands_among it.modules it.catalog is_catalog p is_struct)

    breaks_told : (e : LoweringReport) → NestingBreaks it e → Contains (struct_reports_told ++ out_struct_reports_told) e
    breaks_told e (contains_itself p owner declared broken is) = broken_told fault.ContainsItself p owner declared e broken is
    breaks_told e (nests_too_deep p owner declared broken is) = broken_told fault.NestsTooDeep p owner declared e broken is

    -- what is told tells exactly of what is broken
    pub nesting_exactly : TellsExactly (nesting_reports it.modules (length d.out_structs.items) faults) (NestingBreaks it)
    nesting_exactly e = (
      λ h. elim (Contains-append_cases struct_reports_told out_struct_reports_told e h) [
        | inl c ↦ told_of_structs e ((each_told it.modules (drop outs faults) (in_places it) e).0 c)
        | inr c ↦ told_of_out_structs e ((each_told it.modules (take outs faults) (out_places it) e).0 c)
      ],
      λ broken. breaks_told e broken,
    )
