-- What is told of declarations, and what they come to by it.
use Rattle.std.proofs.Common.{◌≡◌, ◌≢◌, ℕ, List, [], ◌∷◌, ◌++◌, ap, refl, subst, sym, ◌∙◌}
use Rattle.std.specs.Prelude.{Ok, Err, Result}
use Rattle.bridge_decl.specs.declared.modules.Module.{Module}
use Rattle.hir_backends.specs.Backend.{Backend}
use Rattle.hir_config.specs.declared.config.LoweringConfig.{LoweringConfig}
use Rattle.hir_nesting.specs.Faults.{AllNestWell}
use Rattle.hir_nesting_rules.specs.LoweredContainment.{lowered_containment}
use Rattle.hir_number.specs.Naming.{Naming}
use Rattle.hir_reports.specs.Store.{Held}
use Rattle.hir_reports.specs.declared.report.LoweringReport.{LoweringReport}
use Rattle.hir_usage_notes.specs.declared.definitions.LoweredDefinitions.{LoweredDefinitions}
use Rattle.hir_lowering.specs.Interface.{Interface}
use Rattle.hir_lowering.specs.Lowered.{AreAllLowered, AreLowered, item_reports_in_order, lowering_reports}
use Rattle.hir_lowering.specs.Walks.{LowersTo, interface_of}
use Rattle.hir_modules.specs.ModuleMarks.{all_module_reports}
use Rattle.hir_number.proofs.ElisionLemmas.{none_of}
use Rattle.hir_lower.specs.Acceptance.{AreAccepted, HoldsByCatalog}
use Rattle.hir_lower.specs.Refusals.{IsRefusal, TellsNestingOf}
use Rattle.hir_lower.specs.declared.fault.LowerFault.{LowerFault}
use Rattle.hir_lower.specs.declared.fault.LowerFault.TheVariants as fault
use Rattle.hir_lower.specs.inside.Telling.{AnswersAll, GivesUnlessTold, IsWholeTelling, TellsNestingAfter}

some_there : {A : Type 0} (x : A) (xs : List A) → x ∷ xs ≢ []
some_there x xs = λ none. cc

-- what the store held after the walk, and what it gained of the structs
pub whole :
    (modules : List Module) (backend : Backend) (config : LoweringConfig) (names : ℕ → Naming) (old mid : Held) (new : List LoweringReport) (d : LoweredDefinitions)
    → LowersTo modules backend config names old mid d → old.reports ≡ [] → (rs : List LoweringReport) → mid.reports ≡ rs
    → (rs ≡ [] → TellsNestingAfter modules d rs new) → (rs ≢ [] → new ≡ rs) → HoldsByCatalog modules backend config names (λ it. IsWholeTelling it d new)
whole modules backend config names old mid new d lowers empty [] is fine others =
    let it = interface_of modules backend config names lowers.catalog in
    let after = fine refl in
    let untold : lowering_reports it ≡ [] = ap (λ rs. rs ++ lowering_reports it) (sym empty) ∙ sym lowers.told ∙ is in
    record {
      catalog = lowers.catalog;
      is = lowers.is;
      holds = IsWholeTelling.Structs untold lowers.made (subst (λ rs. TellsNestingOf modules d rs) (sym after.gained) after.tells);
    }
whole modules backend config names old mid new d lowers empty (r ∷ rs) is fine others =
    let it = interface_of modules backend config names lowers.catalog in
    let same : new ≡ r ∷ rs = others (some_there r rs) in
    let all : r ∷ rs ≡ lowering_reports it = sym is ∙ lowers.told ∙ ap (λ rs. rs ++ lowering_reports it) empty in
    record {
      catalog = lowers.catalog;
      is = lowers.is;
      holds = IsWholeTelling.Items (subst (λ rs. rs ≢ []) (sym same) (some_there r rs)) (same ∙ all);
    }

-- of the items nothing is told
pub items_untold : (it : Interface) → lowering_reports it ≡ [] → item_reports_in_order it ≡ []
items_untold it none = (none_of (all_module_reports it.backend it.modules) (item_reports_in_order it) none).1

-- each item is made where nothing is told, and structs nest well where that isn't
abbrev pub AllMade : Type 0
AllMade = (it : Interface) (d : LoweredDefinitions) → item_reports_in_order it ≡ [] → AreLowered it d → AreAllLowered it d

abbrev pub NestingUntold : List Module → LoweredDefinitions → Type 0
NestingUntold modules d =
    (it : Interface) → it.modules ≡ modules → AreAllLowered it d → TellsNestingOf modules d [] → AllNestWell (lowered_containment d)

accepted : (it : Interface) (d : LoweredDefinitions) → AllMade → NestingUntold it.modules d → IsWholeTelling it d [] → AreAccepted it d
accepted it d made nested (IsWholeTelling.Items some is) = absurd (some refl)
accepted it d made nested (IsWholeTelling.Structs none are tells) =
    let all = made it d (items_untold it none) are in
    record { untold = none; all = all; quiet = tells; nested = nested it refl all tells }

refused : (it : Interface) (d : LoweredDefinitions) (told : List LoweringReport) → AllMade → told ≢ [] → IsWholeTelling it d told → IsRefusal it told
refused it d told made some (IsWholeTelling.Items _ is) = IsRefusal.OfItems some is
refused it d told made some (IsWholeTelling.Structs none are tells) = IsRefusal.OfNesting d some none (made it d (items_untold it none) are) tells

-- so the answer
pub answered :
    (modules : List Module) (backend : Backend) (config : LoweringConfig) (names : ℕ → Naming) (d : LoweredDefinitions) (told : List LoweringReport)
    → AllMade → ((v : LoweredDefinitions) → NestingUntold modules v) → HoldsByCatalog modules backend config names (λ it. IsWholeTelling it d told)
    → (result : Result LoweredDefinitions LowerFault) → GivesUnlessTold told d result → AnswersAll modules backend config names result
answered modules backend config names d told made nested tells (Ok v) gives =
    let it = interface_of modules backend config names tells.catalog in
    record {
      catalog = tells.catalog;
      is = tells.is;
      holds = subst (λ x. AreAccepted it x) (sym gives.1) (accepted it d made (nested d) (subst (λ rs. IsWholeTelling it d rs) gives.0 tells.holds));
    }
answered modules backend config names d told made nested tells (Err (fault.Refused list)) gives =
    let it = interface_of modules backend config names tells.catalog in
    record {
      catalog = tells.catalog;
      is = tells.is;
      holds = subst (λ rs. IsRefusal it rs) (sym gives.0) (refused it d told made gives.1 tells.holds);
    }
answered modules backend config names d told made nested tells (Err fault.NoMemory) gives = absurd gives
