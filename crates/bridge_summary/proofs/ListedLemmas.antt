-- What reports list is what callables list.
use Rattle.std.proofs.Common.{◌≡◌, ℕ, List, length, map, sym, ap, ◌∙◌}
use Rattle.std.specs.Prelude.{sum_by}
use Rattle.std.specs.List.{AllZip, sum}
use Rattle.std.proofs.lemmas.List.{length-map}
use Rattle.std.proofs.lemmas.List.Sums.{sum-map}
use Rattle.hir_skeleton.specs.NamedLeaves.{NamedLeaf}
use Rattle.bridge_report.specs.Borrowings.{AreReported, IsReported, IsReturned, leaf_path, listed_leaves}
use Rattle.bridge_report.specs.Callables.{Callable}
use Rattle.bridge_report.specs.declared.report.CallableReport.{CallableReport}
use Rattle.bridge_report.specs.declared.report.ReturnedLifetime.{ReturnedLifetime}
use Rattle.bridge_page.proofs.PageLemmas.{zip_made, zip_turned}
use Rattle.bridge_summary.specs.Summary.{AreListed, AreListedOf, AreListedUnder}
use Rattle.bridge_summary.specs.inside.Counted.{listed_in}

-- under a lifetime
under : (c : Callable) (returned : ReturnedLifetime) (t : ℕ) → IsReturned c returned t → AreListedUnder c t (length returned.leaves)
under c returned t r = record {
  test = r.test;
  tells = r.tells;
  is = ap length r.leaves ∙ length-map (listed_leaves c r.test) (λ (leaf : NamedLeaf). leaf_path c.receiver leaf.path);
}

-- of a callable
of_callable : (c : Callable) (report : CallableReport) → IsReported c report → AreListedOf c (listed_in report)
of_callable c report r =
    let count : ReturnedLifetime → ℕ = λ returned. length returned.leaves in
    record {
      numbers = r.numbers;
      are = r.are;
      counts = map count report.returned;
      each = zip_turned (IsReturned c) (AreListedUnder c) count (under c) report.returned r.numbers r.each;
      is = sym (sum-map count report.returned);
    }

-- of all
pub are_listed : (callables : List Callable) (reports : List CallableReport) → AreReported callables reports → AreListed callables (sum_by listed_in reports)
are_listed callables reports told = record {
  counts = map listed_in reports;
  each = zip_made IsReported AreListedOf listed_in of_callable callables reports told;
  is = sym (sum-map listed_in reports);
}
