-- Items of which nothing is told have a form.
use Rattle.std.proofs.Common.{◌≡◌, ℕ, List, [], Bool, true, false, Option, Some, is_some, refl, ap}
use Rattle.std.specs.Prelude.{IsSome, if◌then◌else◌}
use Rattle.bridge_ast.specs.declared.place.ItemPlace.{ItemPlace}
use Rattle.bridge_decl.specs.declared.methods.Method.{Method}
use Rattle.hir_attrs.specs.Reading.{marks_of}
use Rattle.hir_attrs.specs.declared.attrs.Attrs.{Attrs}
use Rattle.hir_methods.specs.Methods.{method_errors}
use Rattle.hir_number.proofs.ElisionLemmas.{none_of}
use Rattle.hir_special.specs.Repeated.{none_seen}
use Rattle.hir_items.proofs.MethodLemmas.{methods_formed}
use Rattle.hir_items.specs.Inheriting.{method_start}
use Rattle.hir_items.specs.Placing.{where_enabled}
use Rattle.hir_items.specs.Repeated.{repeated_reports}
use Rattle.hir_items.specs.Setting.{Setting}
use Rattle.hir_items.specs.Structs.{type_fields_form}
use Rattle.hir_items.specs.TypeMethods.{all_method_reports, each_method_form, each_method_reports, one_method_form, type_method_form, type_method_reports}

by_flag : {A B : Type 0} (b : Bool) (told : List A) (form : Option (List B)) → (told ≡ [] → is_some form ≡ true) → (if b then [] else told) ≡ [] → is_some (if b then Some [] else form) ≡ true
by_flag true told form fine none = refl
by_flag false told form fine none = fine none

-- the fields of a type, where it has any
pub fields_there : {A F : Type 0} (marks : Attrs) (told : List A) (form : Option (List F)) → (told ≡ [] → is_some form ≡ true) → where_enabled marks told ≡ [] → is_some (type_fields_form marks form) ≡ true
fields_there marks told form fine none = by_flag marks.disable told form fine none

-- its methods, where an enabled method of which nothing is told has a form
pub methods_there :
    (s : Setting) (path : List (List ℕ)) (item : List ℕ) (place : ItemPlace) (set marks : Attrs)
    → ((method : Method) → (marks_of s.backend method.attrs (method_start set)).disable ≡ false
    → method_errors s.backend s.support s.config s.catalog s.names place (method_start set) method ≡ [] → IsSome (one_method_form s place set method))
    → (methods : List Method) → type_method_reports s path item place set marks methods ≡ [] → is_some (type_method_form s place set marks methods) ≡ true
methods_there s path item place set marks fine methods none =
    by_flag marks.disable (all_method_reports s path item place set methods) (each_method_form s place set methods)
    (λ untold.
    ap is_some
    (methods_formed s path item place set fine methods
    (none_of (each_method_reports s path item place set methods) (repeated_reports s.backend s.support path item set none_seen methods) untold).0))
    none
