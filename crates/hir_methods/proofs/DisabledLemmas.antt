-- Of what isn't disabled all is told.
use Rattle.std.proofs.Common.{◌≡◌, List, [], ◌++◌, false, sym, ap, ◌∙◌}
use Rattle.std.specs.Prelude.{if◌then◌else◌}
use Rattle.hir_attrs.specs.declared.attrs.Attrs.{Attrs}
use Rattle.hir_mark_contexts.proofs.Stores.{told_both}
use Rattle.hir_reports.specs.Store.{Held, added}
use Rattle.hir_reports.specs.declared.report.LoweringError.{LoweringError}
use Rattle.hir_methods.specs.Untyped.{unless_disabled}

pub enabled_all : (attrs : Attrs) (errors : List LoweringError) → attrs.disable ≡ false → unless_disabled attrs errors ≡ errors
enabled_all attrs errors on = ap (λ b. if b then [] else errors) on

-- after something else
pub told_after : (old mid new : Held) (first second : List LoweringError) → mid ≡ added old first → new ≡ added mid second → new ≡ added old (first ++ second)
told_after old mid new first second one other = other ∙ ap (λ h. added h second) one ∙ told_both old first second

pub told_enabled :
    (attrs : Attrs) (old mid new : Held) (first second : List LoweringError) → attrs.disable ≡ false → mid ≡ added old first → new ≡ added mid second
    → new ≡ added old (first ++ unless_disabled attrs second)
told_enabled attrs old mid new first second on one other =
    told_after old mid new first second one other ∙ ap (λ es. added old (first ++ es)) (sym (enabled_all attrs second on))
