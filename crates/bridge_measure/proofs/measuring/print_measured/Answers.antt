use Rattle.std.proofs.Common.{length, ap, subst, sym, ◌∙◌, arith}
use Rattle.std.specs.Prelude.{min}
use Rattle.std.proofs.Math.Nat.{min-eq_right}
use Rattle.bridge_callables.specs.Declared.{declared_callables}
use Rattle.bridge_report.specs.Borrowings.{AreReported}
use Rattle.bridge_summary.specs.Summary.{most_listed, summary_text}
use Rattle.bridge_measure.specs.Measured.{measured_backend, measured_by, measured_config}
use Rattle.bridge_measure.proofs.MeasuredLemmas.{callables_counted, nine_at_most}
use Rattle.bridge_measure.proofs.measuring.print_measured.Goals as goal

pub returns : goal.returns
returns g c = λ count few is_measured.
    let catalog = is_measured.borrowed.catalog in
    let is = is_measured.borrowed.is in
    let callables = declared_callables (measured_by count measured_backend measured_config catalog) in
    let summary = c.print_summary.ensures callables
    (subst (AreReported callables) (sym c.as_slice.ensures) is_measured.borrowed.holds.reported) in
    let nine = nine_at_most count measured_backend measured_config catalog (omega (arith, few)) is summary.count summary.listed in
    record {
      text = summary_text (length callables) (min most_listed summary.count);
      is = record {
        listed = summary.count;
        counts = record { catalog = catalog; is = is; holds = summary.listed };
        is =
            ap (λ n. summary_text n (min most_listed summary.count))
            (callables_counted count measured_backend measured_config catalog (omega (arith, few)) is)
            ∙ ap (summary_text count) (min-eq_right (omega (arith, nine, few)));
      };
      delivered = summary.delivered;
    }
