use Rattle.std.proofs.Common.{length, ap, ◌∙◌}
use Rattle.std.specs.Prelude.{sum_by}
use Rattle.std.proofs.lemmas.Slice.Zip.{AllZip-long}
use Rattle.bridge_outside.proofs.PrintingLaws.{delivers, prints_same}
use Rattle.bridge_report.specs.Borrowings.{IsReported}
use Rattle.bridge_summary.specs.Summary.{summary_text}
use Rattle.bridge_summary.specs.inside.Counted.{listed_in}
use Rattle.bridge_summary.proofs.ListedLemmas.{are_listed}
use Rattle.bridge_summary.proofs.summary.print_summary.Goals as goal

pub returns : goal.returns
returns g c = λ callables told. record {
  count = sum_by listed_in c.args.reports.now;
  listed = are_listed callables c.args.reports.now told;
  delivered = delivers _ c.new-out.ensures
      (prints_same
      (ap (λ n. summary_text n c.listed_in_all.result) (AllZip-long IsReported callables c.args.reports.now told)
      ∙ ap (summary_text (length callables)) c.listed_in_all.ensures) c.put_summary.ensures)
      c.finish.ensures.prints c.finish.ensures.end;
}
