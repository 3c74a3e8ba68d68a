use Rattle.std.proofs.Common.{◌++◌}
use Rattle.hir_fields.specs.Fields.{fields_errors, fields_form, out_fields_errors, out_fields_form}
use Rattle.hir_form.proofs.EmptyLemmas.{both_there, map_given}
use Rattle.hir_heads.specs.Heads.{lifetime_errors, notes_errors}
use Rattle.hir_heads.specs.Names.{name_errors}
use Rattle.hir_mark_contexts.specs.declared.contexts.MarkContext.TheVariants as marked
use Rattle.hir_methods.specs.Functions.{function_errors}
use Rattle.hir_number.proofs.ElisionLemmas.{none_of}
use Rattle.hir_items.proofs.FieldLemmas.{fields_formed, out_fields_formed}
use Rattle.hir_items.proofs.ItemLemmas.{untold}
use Rattle.hir_items.proofs.LawLemmas.{fields_there, methods_there}
use Rattle.hir_items.specs.Enums.{enum_errors, enum_with}
use Rattle.hir_items.specs.Inheriting.{item_marks, item_start, method_start}
use Rattle.hir_items.specs.Opaques.{opaque_errors, opaque_with}
use Rattle.hir_items.specs.Placing.{at_item_itself, where_enabled}
use Rattle.hir_items.specs.Structs.{out_struct_errors, out_struct_own_errors, struct_errors, struct_own_errors, struct_with, type_fields_form, zero_size_errors}
use Rattle.hir_items.specs.TypeMethods.{type_method_form, type_method_reports}
use Rattle.hir_items.proofs.laws.what_is_fine_is_made.Goals as goal

pub returns-clause-structs : goal.returns-clause-structs
returns-clause-structs c = λ s path place set item none.
    let marks = item_marks s.backend set item.attrs in
    let all = zero_size_errors item.fields item.methods ++ fields_errors s.backend s.catalog s.names item in
    let parts = none_of (at_item_itself path item.name (struct_errors s set item)) (type_method_reports s path item.name place set marks item.methods) none in
    let own = (none_of (notes_errors s.backend marked.Struct (item_start set) item.docs item.attrs) (struct_own_errors s marks item) (untold path item.name (struct_errors s set item) parts.0)).1 in
    let last = none_of (name_errors item.name ++ lifetime_errors item.lifetimes) (where_enabled marks all) own in
    let named = (none_of (name_errors item.name) (lifetime_errors item.lifetimes) last.0).1 in
    both_there (struct_with s.backend set item) (type_fields_form marks (fields_form s.backend s.catalog s.names item)) (type_method_form s place set marks item.methods)
    (fields_there marks all (fields_form s.backend s.catalog s.names item) (λ told. fields_formed s.backend s.catalog s.names item named (none_of (zero_size_errors item.fields item.methods) (fields_errors s.backend s.catalog s.names item) told).1) last.1)
    (methods_there s path item.name place set marks (λ method. c.what_is_fine_is_made.ensures.method s.backend s.support s.config s.catalog s.names place (method_start set) method) item.methods parts.1)

pub returns-clause-out_structs : goal.returns-clause-out_structs
returns-clause-out_structs c = λ s path place set item none.
    let marks = item_marks s.backend set item.attrs in
    let all = out_fields_errors s.backend s.catalog s.names item in
    let parts = none_of (at_item_itself path item.name (out_struct_errors s set item)) (type_method_reports s path item.name place set marks item.methods) none in
    let own = (none_of (notes_errors s.backend marked.OutStruct (item_start set) item.docs item.attrs) (out_struct_own_errors s marks item) (untold path item.name (out_struct_errors s set item) parts.0)).1 in
    let last = none_of (name_errors item.name ++ lifetime_errors item.lifetimes) (where_enabled marks all) own in
    let named = (none_of (name_errors item.name) (lifetime_errors item.lifetimes) last.0).1 in
    both_there (struct_with s.backend set item) (type_fields_form marks (out_fields_form s.backend s.catalog s.names item)) (type_method_form s place set marks item.methods)
    (fields_there marks all (out_fields_form s.backend s.catalog s.names item) (λ told. out_fields_formed s.backend s.catalog s.names item named told) last.1)
    (methods_there s path item.name place set marks (λ method. c.what_is_fine_is_made.ensures.method s.backend s.support s.config s.catalog s.names place (method_start set) method) item.methods parts.1)

pub returns-clause-opaques : goal.returns-clause-opaques
returns-clause-opaques c = λ s path place set item none.
    let marks = item_marks s.backend set item.attrs in
    let parts = none_of (at_item_itself path item.name (opaque_errors s.backend set item)) (type_method_reports s path item.name place set marks item.methods) none in
    map_given (opaque_with s.backend set item) (type_method_form s place set marks item.methods)
    (methods_there s path item.name place set marks (λ method. c.what_is_fine_is_made.ensures.method s.backend s.support s.config s.catalog s.names place (method_start set) method) item.methods parts.1)

pub returns-clause-enums : goal.returns-clause-enums
returns-clause-enums c = λ s path place set item none.
    let marks = item_marks s.backend set item.attrs in
    let parts = none_of (at_item_itself path item.name (enum_errors s.backend set item)) (type_method_reports s path item.name place set marks item.methods) none in
    map_given (enum_with s.backend set item) (type_method_form s place set marks item.methods)
    (methods_there s path item.name place set marks (λ method. c.what_is_fine_is_made.ensures.method s.backend s.support s.config s.catalog s.names place (method_start set) method) item.methods parts.1)

pub returns-clause-functions : goal.returns-clause-functions
returns-clause-functions c = λ s path set item none.
    c.what_is_fine_is_made.ensures.function s.backend s.support s.config s.catalog s.names (item_start set) item
    (untold path item.name (function_errors s.backend s.support s.config s.catalog s.names (item_start set) item) none)
