-- What is told of a method by what it is marked as comes behind all else, and keeps it from being made.
use Rattle.std.proofs.Common.{◌≡◌, List, [], ◌∷◌, ◌++◌, Option, Some, None, refl, sym, ap, ◌∙◌}
use Rattle.std.proofs.lemmas.List.{append-nil}
use Rattle.hir_backends.specs.declared.support.BackendAttrSupport.{BackendAttrSupport}
use Rattle.hir_definitions.specs.declared.methods.Method.{Method}
use Rattle.hir_ids.specs.declared.ids.TypeId.{TypeId}
use Rattle.hir_mark_contexts.proofs.Stores.{told_both}
use Rattle.hir_reports.specs.Store.{Held, added}
use Rattle.hir_reports.specs.declared.report.LoweringError.{LoweringError}
use Rattle.hir_special.specs.Told.{special_errors}
use Rattle.hir_methods.specs.Methods.{made_errors, with_special}
use Rattle.hir_methods.specs.Types.{unless_told}

module _ (support : BackendAttrSupport) (owner : TypeId) (told : List LoweringError) (form : Option Method) where
  -- of one that was made
  pub special_told : (method : Method) (old mid new : Held) → mid ≡ added old told → Some method ≡ unless_told told form → new ≡ added mid (special_errors support owner method)
      → new ≡ added old (with_special support owner told form)
  special_told method old mid new first is second =
      second ∙ ap (λ h. added h (special_errors support owner method)) first ∙ told_both old told (special_errors support owner method)
      ∙ ap (λ made. added old (told ++ made_errors support owner made)) is

  -- of one that wasn't
  pub nothing_more : (old new : Held) → new ≡ added old told → None ≡ unless_told told form → new ≡ added old (with_special support owner told form)
  nothing_more old new first is =
      first ∙ ap (added old) (sym (append-nil told)) ∙ ap (λ made. added old (told ++ made_errors support owner made)) is

  made_from : (told : List LoweringError) (method : Method) → Some method ≡ unless_told told form
      → unless_told (special_errors support owner method) (Some method) ≡ unless_told (with_special support owner told form) form
  made_from [] method is = ap (λ made. unless_told (made_errors support owner made) made) is
  made_from (e ∷ es) method is = cc

  -- what is kept of one that was made
  pub kept_special : (method : Method) (kept : Option Method) → Some method ≡ unless_told told form → kept ≡ unless_told (special_errors support owner method) (Some method)
      → kept ≡ unless_told (with_special support owner told form) form
  kept_special method kept is made = made ∙ made_from told method is

  none_from : (told : List LoweringError) → None ≡ unless_told told form → None ≡ unless_told (with_special support owner told form) form
  none_from [] is = ap (λ made. unless_told (made_errors support owner made) made) is
  none_from (e ∷ es) is = refl

  -- nothing is kept of one that wasn't
  pub kept_none : None ≡ unless_told told form → None ≡ unless_told (with_special support owner told form) form
  kept_none is = none_from told is
