use Rattle.std.specs.Prelude.{None}
use Rattle.hir_fitting.specs.Fitting.{Fits}
use Rattle.hir_mentions.specs.Callbacks.{callback_mentions}
use Rattle.hir_traits.specs.TraitMethods.{trait_method_form}
use Rattle.std.proofs.lemmas.Option.{IfSome_then}
use Rattle.hir_elide.proofs.BelowLemmas.{each_all}
use Rattle.hir_fitting_forms.proofs.TraitParts.{trait_method_good}
use Rattle.hir_fitting_forms.proofs.wholes.trait_methods_stand_for_what_fits.Goals as goal

pub returns : goal.returns
returns c = λ census backend catalog names owner parent method all.
    IfSome_then (trait_method_form backend catalog names owner parent method) (trait_method_good census catalog backend names owner parent method all) (λ cb h. each_all (Fits census None) (callback_mentions cb) h)
