use Rattle.std.specs.Prelude.{[], Some, None}
use Rattle.hir_elide.proofs.BelowLemmas.{each_all}
use Rattle.hir_fitting.specs.Fitting.{Fits}
use Rattle.hir_ids.specs.declared.owners.Borrow.{Borrow}
use Rattle.hir_ids.specs.declared.owners.InputOrOutput.TheVariants.{InputOutput}
use Rattle.hir_mentions.specs.Callbacks.{callback_mentions, method_mentions}
use Rattle.hir_mentions.specs.Definitions.{trait_mentions}
use Rattle.hir_usage.specs.Callbacks.{callback_usages, method_usages, output_usages, struct_id}
use Rattle.hir_usage.specs.Definitions.{fields_usages, trait_usages}
use Rattle.hir_usage.specs.Types.{type_usages}
use Rattle.hir_fitting_forms.specs.Uses.{UseFits}
use Rattle.hir_fitting_forms.proofs.Lists.{each_from_all}
use Rattle.hir_fitting_forms.proofs.Using.{callback_fine, field_type_fine, fields_fine, method_fine, output_fine, trait_fine}
use Rattle.hir_fitting_forms.proofs.uses.uses_fit_where_types_do.Goals as goal

pub returns-clause-method : goal.returns-clause-method
returns-clause-method c = λ census m all.
    each_all (UseFits census) (method_usages m) (method_fine census (Some m.lifetime_env.count) m (each_from_all (Fits census (Some m.lifetime_env.count)) (method_mentions m) all))

pub returns-clause-callback : goal.returns-clause-callback
returns-clause-callback c = λ census count cb all.
    each_all (UseFits census) (callback_usages cb) (callback_fine census count cb (each_from_all (Fits census count) (callback_mentions cb) all))

pub returns-clause-traits : goal.returns-clause-traits
returns-clause-traits c = λ census def all.
    each_all (UseFits census) (trait_usages def) (trait_fine census None def (each_from_all (Fits census None) (trait_mentions def) all))

pub returns-clause-fields : goal.returns-clause-fields
returns-clause-fields c = λ census fields.
    each_all (UseFits census) (fields_usages (type_usages InputOutput (λ (o : Borrow). Some o) struct_id (λ _. [])) fields)
    (fields_fine census (type_usages InputOutput (λ (o : Borrow). Some o) struct_id (λ _. [])) (field_type_fine census) fields)

pub returns-clause-out_fields : goal.returns-clause-out_fields
returns-clause-out_fields c = λ census fields. each_all (UseFits census) (fields_usages output_usages fields) (fields_fine census output_usages (output_fine census) fields)
