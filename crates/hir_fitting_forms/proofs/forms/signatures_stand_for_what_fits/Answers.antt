use Rattle.bridge_order.specs.Catalog.{entry_at}
use Rattle.hir_form.specs.SignatureForms.{signature_form}
use Rattle.hir_fitting_forms.specs.Lowered.{signature_mentions}
use Rattle.hir_fitting_forms.specs.Names.{names_in_signature}
use Rattle.hir_fitting_forms.specs.NumberedFits.{NameFits}
use Rattle.hir_fitting_forms.proofs.Lists.{each_from_all}
use Rattle.hir_fitting_forms.proofs.Positions.{signature_made}
use Rattle.hir_fitting_forms.proofs.Settled.{receiver_settled, settled, trait_settled}
use Rattle.hir_fitting_forms.proofs.forms.signatures_stand_for_what_fits.Goals as goal

pub returns-clause-receiver : goal.returns-clause-receiver
returns-clause-receiver c = λ census catalog count. receiver_settled census count catalog

pub returns-clause-trait_receiver : goal.returns-clause-trait_receiver
returns-clause-trait_receiver c = λ census catalog count target fits. trait_settled census count target.lifetimes (entry_at catalog target.place) fits

pub returns-clause-signature : goal.returns-clause-signature
returns-clause-signature c = λ census catalog written n all.
    settled census n.lifetimes.count signature_mentions (signature_form catalog written n)
    (signature_made census n.lifetimes.count catalog written n (each_from_all (NameFits census catalog n.lifetimes.count) (names_in_signature n) all))
