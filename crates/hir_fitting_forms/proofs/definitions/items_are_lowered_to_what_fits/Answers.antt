use Rattle.hir_fitting_forms.proofs.ItemParts.{enum_item_fits, function_item_fits, opaque_item_fits, out_struct_item_fits, struct_item_fits, trait_item_fits}
use Rattle.hir_fitting_forms.proofs.definitions.items_are_lowered_to_what_fits.Goals as goal

pub returns-clause-out_structs : goal.returns-clause-out_structs
returns-clause-out_structs c = λ census s place set item fit. out_struct_item_fits census s fit place set item

pub returns-clause-structs : goal.returns-clause-structs
returns-clause-structs c = λ census s place set item fit. struct_item_fits census s fit place set item

pub returns-clause-opaques : goal.returns-clause-opaques
returns-clause-opaques c = λ census s place set item fit. opaque_item_fits census s fit place set item

pub returns-clause-enums : goal.returns-clause-enums
returns-clause-enums c = λ census s place set item fit. enum_item_fits census s fit place set item

pub returns-clause-traits : goal.returns-clause-traits
returns-clause-traits c = λ census s place set item fit. trait_item_fits census s fit place set item

pub returns-clause-functions : goal.returns-clause-functions
returns-clause-functions c = λ census s set item fit. function_item_fits census s fit set item
