use Rattle.hir_mentions.specs.Callbacks.{field_mentions, output_mentions}
use Rattle.hir_fitting_forms.proofs.Whole.{struct_whole, trait_whole, type_whole, used_whole}
use Rattle.hir_fitting_forms.proofs.definitions.definitions_fit_where_parts_do.Goals as goal

pub returns-clause-types : goal.returns-clause-types
returns-clause-types c = λ census methods all. type_whole census methods all

pub returns-clause-used : goal.returns-clause-used
returns-clause-used c = λ census methods special before after h all. used_whole census methods special before after h all

pub returns-clause-structs : goal.returns-clause-structs
returns-clause-structs c = λ census def fields all. struct_whole census field_mentions def fields all

pub returns-clause-out_structs : goal.returns-clause-out_structs
returns-clause-out_structs c = λ census def fields all. struct_whole census output_mentions def fields all

pub returns-clause-traits : goal.returns-clause-traits
returns-clause-traits c = λ census def h k. trait_whole census def h k
