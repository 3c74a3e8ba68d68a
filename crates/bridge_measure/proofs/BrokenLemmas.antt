-- Where nothing is reported, no rule of lowering is broken.
use Rattle.std.proofs.Common.{◌≡◌, [], arith, subst}
use Rattle.std.specs.List.{Contains}
use Rattle.hir_lowering.specs.Interface.{Interface}
use Rattle.hir_lowering.specs.Lowered.{lowering_reports}
use Rattle.hir_reports.specs.declared.report.LoweringReport.{LoweringReport}
use Rattle.hir_rules.specs.Broken.{LoweringBreaks}

none_in : {A : Type 0} (x : A) → ¬ (Contains [] x)
none_in x h = absurd (omega (arith, h.1))

-- where each broken rule's place has a report and nothing is reported, no rule is broken
pub nothing_broken : (it : Interface) → lowering_reports it ≡ []
    → ((r : LoweringReport) → LoweringBreaks it r → (told : LoweringReport) × (Contains (lowering_reports it) told × (told.context ≡ r.context)))
    → (report : LoweringReport) → ¬ (LoweringBreaks it report)
nothing_broken it none every report broken =
    let told = every report broken in none_in told.0 (subst (λ reports. Contains reports told.0) none told.1.0)
