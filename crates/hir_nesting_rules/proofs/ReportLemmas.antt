-- What is told of how structs nest: at each place of which a fault is noted, that fault.
use Rattle.std.proofs.Common.{◌≡◌, ℕ, ◌+◌, List, [], ◌∷◌, Option, Some, None, refl, sym, ap, subst, ◌∙◌, arith}
use Rattle.std.specs.Prelude.{slice_get}
use Rattle.std.specs.List.{Contains, enumerate_from}
use Rattle.std.proofs.lemmas.Option.{none-some, same_Some}
use Rattle.bridge_ast.specs.declared.place.ItemPlace.{ItemPlace}
use Rattle.bridge_decl.specs.Names.{item_name}
use Rattle.bridge_decl.specs.declared.modules.Item.{Item}
use Rattle.bridge_decl.specs.declared.modules.Module.{Module}
use Rattle.bridge_telling.specs.Telling.{TellsExactly}
use Rattle.bridge_telling.proofs.ExactLemmas.{exactly_each, in_first, in_none, in_one}
use Rattle.hir_mentions.specs.Mentions.{where_any}
use Rattle.hir_lowering.specs.Nesting.{each_nesting_report, nesting_error, nesting_reports_at, nesting_reports_of}
use Rattle.hir_lowering.specs.Placing.{found_at}
use Rattle.hir_nesting.specs.declared.fault.NestingFault.{NestingFault}
use Rattle.hir_reports.specs.Store.{at_place, told_at}
use Rattle.hir_reports.specs.declared.report.LoweringReport.{LoweringReport}
use Rattle.hir_nesting_rules.proofs.ListLemmas.{exactly_any, numbered_place, place_numbered}

-- the report of a fault at what was found
abbrev pub fault_report : Module × Item → NestingFault → LoweringReport
fault_report found f = told_at (at_place found.0.path (item_name found.1) None) (nesting_error f)

-- the report is that of the fault that is noted of one of the places
pub record ToldAmong (modules : List Module) (faults : List (Option NestingFault)) (places : List ItemPlace) (report : LoweringReport) : Type 0 where
  pub number : ℕ
  pub place : ItemPlace
  pub at : slice_get places number ≡ Some place
  pub fault : NestingFault
  pub noted : slice_get faults number ≡ Some (Some fault)
  pub owner : Module
  pub declared : Item
  pub found : found_at modules place ≡ Some (owner, declared)
  pub is : report ≡ fault_report (owner, declared) fault

abbrev ToldOf : Module × Item → Option NestingFault → LoweringReport → Type 0
ToldOf found o e = (f : NestingFault) × ((o ≡ Some f) × (e ≡ fault_report found f))

told_of : (found : Module × Item) (o : Option NestingFault) → TellsExactly (nesting_reports_of o found) (ToldOf found o)
told_of found None e = (λ h. absurd (in_none e h), λ h. absurd (none-some h.0 h.1.0))
told_of found (Some f) e = (
  λ h. (f, (refl, in_one (fault_report found f) e h)),
  λ h. subst (λ y. Contains (fault_report found f ∷ []) y) (ap (fault_report found) (same_Some f h.0 h.1.0) ∙ sym h.1.1) (in_first (fault_report found f) []),
)

module _ (modules : List Module) (faults : List (Option NestingFault)) where
  abbrev ToldHere : ItemPlace → Option NestingFault → LoweringReport → Type 0
  ToldHere place o e = (found : Module × Item) × ((found_at modules place ≡ Some found) × ToldOf found o e)

  abbrev ToldAt : ℕ × ItemPlace → LoweringReport → Type 0
  ToldAt at e = (o : Option NestingFault) × ((slice_get faults at.0 ≡ Some o) × ToldHere at.1 o e)

  told_here : (place : ItemPlace) (o : Option NestingFault) → TellsExactly (where_any (nesting_reports_of o) (found_at modules place)) (ToldHere place o)
  told_here place o = exactly_any (nesting_reports_of o) (λ found. ToldOf found o) (λ found. told_of found o) (found_at modules place)

  told_there : (at : ℕ × ItemPlace) → TellsExactly (nesting_reports_at modules faults at) (ToldAt at)
  told_there at = exactly_any (λ o. where_any (nesting_reports_of o) (found_at modules at.1)) (ToldHere at.1) (told_here at.1) (slice_get faults at.0)

  pub each_told : (places : List ItemPlace) → TellsExactly (each_nesting_report modules faults places) (ToldAmong modules faults places)
  each_told places e = (λ h. down ((exactly_each (nesting_reports_at modules faults) ToldAt told_there (enumerate_from 0 places) e).0 h), λ t. (exactly_each (nesting_reports_at modules faults) ToldAt told_there (enumerate_from 0 places) e).1 (up t)) where
    down : (p : ℕ × ItemPlace) × (Contains (enumerate_from 0 places) p × ToldAt p e) → ToldAmong modules faults places e
    down h =
        let at = numbered_place 0 places h.0 h.1.0 in
        let k : ℕ = at.0 in
        let same : 0 + k ≡ k = omega arith in
        let told = h.1.1 in
        let here = told.1.1 in
        let one = here.1.1 in
        record {
          number = k;
          place = h.0.1;
          at = at.1.1;
          fault = one.0;
          noted = ap (slice_get faults) (sym (at.1.0 ∙ same)) ∙ told.1.0 ∙ ap (λ o. Some o) one.1.0;
          owner = here.0.0;
          declared = here.0.1;
          found = here.1.0;
          is = one.1.1;
        }

    up : ToldAmong modules faults places e → (p : ℕ × ItemPlace) × (Contains (enumerate_from 0 places) p × ToldAt p e)
    up t =
        let k : ℕ = t.number in
        let same : 0 + k ≡ k = omega arith in (
          (0 + k, t.place),
          (
            place_numbered 0 places k t.place t.at,
            (Some t.fault, (ap (slice_get faults) same ∙ t.noted, ((t.owner, t.declared), (t.found, (t.fault, (refl, t.is)))))),
          ),
        )
