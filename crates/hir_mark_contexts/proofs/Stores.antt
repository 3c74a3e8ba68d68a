-- What a store holds after more is told.
use Rattle.std.proofs.Common.{◌≡◌, List, ◌++◌, map, ap, ◌∙◌, append_assoc}
use Rattle.hir_reports.specs.Store.{Held, Keeps, added, told_at}
use Rattle.hir_reports.specs.declared.report.LoweringError.{LoweringError}
use Rattle.hir_reports.proofs.StoreLaws.{added_more}

-- what was held is still the front
pub added_keeps : (earlier held : Held) (es : List LoweringError) → Keeps earlier held → Keeps earlier (added held es)
added_keeps earlier held es keeps = record {
  more = keeps.more ++ map (told_at held.place) es;
  reports = ap (λ rs. rs ++ map (told_at held.place) es) keeps.reports ∙ append_assoc earlier.reports keeps.more (map (told_at held.place) es);
  place = keeps.place;
}

-- what is told after something else comes behind it
pub told_both : (held : Held) (first second : List LoweringError) → added (added held first) second ≡ added held (first ++ second)
told_both held first second = added_more held first second

-- and so of four
pub told_four : (held : Held) (ws xs ys zs : List LoweringError)
    → added (added (added (added held ws) xs) ys) zs ≡ added held (ws ++ (xs ++ (ys ++ zs)))
told_four held ws xs ys zs =
    added_more (added (added held ws) xs) ys zs ∙ (added_more (added held ws) xs (ys ++ zs) ∙ added_more held ws (xs ++ (ys ++ zs)))
