use Rattle.std.proofs.Common.{◌≡◌, ◌++◌, List, ap, sym, ◌∙◌}
use Rattle.bridge_ast.specs.declared.place.ItemPlace.{ItemPlace}
use Rattle.bridge_places.specs.Places.{places_of}
use Rattle.bridge_places.specs.declared.kinds.Kind.{Kind}
use Rattle.bridge_places.specs.declared.kinds.Kind.TheVariants as kind
use Rattle.hir_reports.specs.declared.report.LoweringReport.{LoweringReport}
use Rattle.hir_lowering.specs.Kinds.{ItemTelling, told_of_enum, told_of_function, told_of_opaque, told_of_out_struct, told_of_struct, told_of_trait}
use Rattle.hir_lowering.specs.Placing.{each_report}
use Rattle.hir_lowering.proofs.WalkLemmas.{told_behind}
use Rattle.hir_lowering.proofs.walk.lower_kinds.Goals as goal

pub returns-clause-told : goal.returns-clause-told
returns-clause-told g c =
    λ it is lends.
    let same = sym c.requires.same ∙ lends.modules in
    let there : (k : Kind) (places : List ItemPlace) → places ≡ places_of c.args.env.now k → places ≡ places_of it.modules k =
    λ k places among. among ∙ ap (λ modules. places_of modules k) same in
    let told : (t : ItemTelling) (k : Kind) (places : List ItemPlace) (now new : List LoweringReport) → places ≡ places_of it.modules k → new ≡ now ++ each_report it t places → new ≡ now ++ each_report it t (places_of it.modules k) =
    λ t k places now new among next. next ∙ ap (λ ps. now ++ each_report it t ps) among in
    let at = λ (k : Kind). c.requires.places k in
    let first = told told_of_out_struct kind.OutStruct _ _ _ (there kind.OutStruct _ (c.of_kind-at.ensures ∙ at kind.OutStruct)) (c.in_ok-defs.ensures.told it is lends) in
    let second = told told_of_struct kind.Struct _ _ _ (there kind.Struct _ (c.of_kind-at-2.ensures ∙ at kind.Struct)) (c.in_ok-defs-2.ensures.told it is lends) in
    let third = told told_of_opaque kind.Opaque _ _ _ (there kind.Opaque _ (c.of_kind-at-3.ensures ∙ at kind.Opaque)) (c.in_ok-defs-3.ensures.told it is lends) in
    let fourth = told told_of_enum kind.Enum _ _ _ (there kind.Enum _ (c.of_kind-at-4.ensures ∙ at kind.Enum)) (c.in_ok-defs-4.ensures.told it is lends) in
    let fifth = told told_of_trait kind.Trait _ _ _ (there kind.Trait _ (c.of_kind-at-5.ensures ∙ at kind.Trait)) (c.in_ok-defs-5.ensures.told it is lends) in
    let sixth = told told_of_function kind.Function _ _ _ (there kind.Function _ (c.of_kind-at-6.ensures ∙ at kind.Function)) (c.in_ok-defs-6.ensures.told it is lends) in
    told_behind _ _ _ _ _ (told_behind _ _ _ _ _ (told_behind _ _ _ _ _ (told_behind _ _ _ _ _ (told_behind _ _ _ _ _ first second) third) fourth) fifth) sixth
