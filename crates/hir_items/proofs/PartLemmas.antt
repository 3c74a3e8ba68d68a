-- What is told of the parts of types and made of them.
use Rattle.std.proofs.Common.{◌≡◌, List, [], ◌∷◌, ◌++◌, Bool, true, false, Option, Some, None, Result, Ok, Err, refl, sym, ap, ◌∙◌}
use Rattle.std.specs.Prelude.{◌≢◌, ◌↔◌, IfOk, IsTrue, OnOk, option_map, if◌then◌else◌}
use Rattle.bridge_decl.specs.declared.methods.Method.{Method}
use Rattle.bridge_decl.specs.declared.structs.Field.{Field}
use Rattle.hir_attrs.specs.declared.attrs.Attrs.{Attrs}
use Rattle.hir_definitions.specs.declared.definitions.StructField.{StructField}
use Rattle.hir_definitions.specs.declared.methods.Method.{Method as LoweredMethod}
use Rattle.hir_fields.specs.Told.{StandsUnlessTold}
use Rattle.hir_form.specs.ReturnForms.{both_given}
use Rattle.hir_heads.specs.Told.{MadeUnlessTold}
use Rattle.hir_heads.specs.declared.notes.Notes.{Notes}
use Rattle.hir_methods.proofs.MadeLemmas.{both_made}
use Rattle.hir_methods.specs.Choosing.{paired}
use Rattle.hir_methods.specs.inside.Parts.{GivenUnlessTold}
use Rattle.hir_number.proofs.ElisionLemmas.{none_of}
use Rattle.hir_reports.specs.declared.report.LoweringError.{LoweringError}
use Rattle.hir_reports.specs.declared.rule.Rule.TheVariants as rule
use Rattle.hir_items.specs.Placing.{where_enabled}
use Rattle.hir_items.specs.Structs.{type_fields_form, zero_size_errors}
use Rattle.hir_items.specs.declared.heads.Title.{Title}
use Rattle.hir_items.specs.inside.StructParts.{defined_struct, own_of, struct_own}
use Rattle.hir_items.specs.inside.Titles.{broken_if}

-- where more may be told
pub made_before_more : {A : Type 0} (errors more : List LoweringError) (form : A) (made : Option A) → MadeUnlessTold errors form made → MadeUnlessTold (errors ++ more) form made
made_before_more errors more form made is = λ none. is (none_of errors more none).0

-- of what is enabled all is told
pub enabled_told : {A : Type 0} (marks : Attrs) (told : List A) → marks.disable ≡ false → where_enabled marks told ≡ told
enabled_told marks told on = ap (λ (b : Bool). if b then [] else told) on

pub disabled_told : {A : Type 0} (marks : Attrs) (told : List A) → marks.disable ≡ true → where_enabled marks told ≡ []
disabled_told marks told off = ap (λ (b : Bool). if b then [] else told) off

-- ---- structs

pub no_fields : {F : Type 0} (marks : Attrs) (form : Option (List F)) → marks.disable ≡ true → Some [] ≡ type_fields_form marks form
no_fields marks form off = sym (ap (λ (b : Bool). if b then Some [] else form) off)

-- the fields of what is enabled
pub fields_enabled :
    {F : Type 0} (marks : Attrs) (of_lifetimes before of_fields : List LoweringError) (form made : Option (List F)) → marks.disable ≡ false
    → StandsUnlessTold (of_lifetimes ++ of_fields) form made
    → GivenUnlessTold (of_lifetimes ++ where_enabled marks (before ++ of_fields)) (type_fields_form marks form) made
fields_enabled marks of_lifetimes before of_fields form made on is = λ none.
    let parts = none_of of_lifetimes (where_enabled marks (before ++ of_fields)) none in
    let fields = none_of before of_fields (sym (enabled_told marks (before ++ of_fields) on) ∙ parts.1) in
    let both : of_lifetimes ++ of_fields ≡ [] = ap (λ es. es ++ of_fields) parts.0 ∙ fields.1 in
    sym (is both).1 ∙ sym (ap (λ (b : Bool). if b then Some [] else form) on)

module _ {P C O I S T E : Type 0} (title : Option Title) (fields : Result (Option (List (StructField P C O I S T))) E) where
  -- a title with fields, where there was memory for these
  pub struct_told : (Q : Type 0) → OnOk fields Q → OnOk (struct_own title fields) Q
  struct_told Q told = elim fields as (λ r. OnOk r Q → OnOk (struct_own title r) Q) [ Ok made ↦ λ q. q | Err e ↦ λ _. tt ] told

title_and_fields :
    {P C O I S T : Type 0} (x : Title) (form : Option (List (StructField P C O I S T))) (title : Option Title) (made : Option (List (StructField P C O I S T)))
    (of_name of_lifetimes of_fields : List LoweringError) → MadeUnlessTold (of_name ++ of_lifetimes) x title → GivenUnlessTold (of_lifetimes ++ of_fields) form made
    → GivenUnlessTold (of_name ++ of_lifetimes ++ of_fields) (option_map (own_of x) form) (option_map (λ p. own_of p.0 p.1) (paired title made))
title_and_fields x form title made of_name of_lifetimes of_fields named given = λ none.
    let parts = none_of (of_name ++ of_lifetimes) of_fields none in
    let lifetimes = (none_of of_name of_lifetimes parts.0).1 in
    both_made own_of x form title made (of_name ++ of_lifetimes) of_fields named (λ rest. given (ap (λ es. es ++ of_fields) lifetimes ∙ rest)) none

pub struct_given :
    {P C O I S T E : Type 0} (x : Title) (form : Option (List (StructField P C O I S T))) (title : Option Title) (fields : Result (Option (List (StructField P C O I S T))) E)
    (of_name of_lifetimes of_fields : List LoweringError) → MadeUnlessTold (of_name ++ of_lifetimes) x title → IfOk fields (GivenUnlessTold (of_lifetimes ++ of_fields) form)
    → IfOk (struct_own title fields) (GivenUnlessTold (of_name ++ of_lifetimes ++ of_fields) (option_map (own_of x) form))
struct_given x form title (Ok made) of_name of_lifetimes of_fields named given = title_and_fields x form title made of_name of_lifetimes of_fields named given
struct_given x form title (Err e) of_name of_lifetimes of_fields named given = tt

-- what is told of a struct that has methods but no fields
some_methods : (m : Method) (ms : List Method) → m ∷ ms ≡ [] → ⊥
some_methods m ms h = absurd cc

pub zero_size :
    (broken : Bool) (fields : List Field) (methods : List Method) → (IsTrue broken ↔ ((fields ≡ []) × (methods ≢ [])))
    → broken_if broken rule.ZeroSizeMethods ≡ zero_size_errors fields methods
zero_size true [] [] is = absurd ((is.0 refl).1 refl)
zero_size true [] (m ∷ ms) is = refl
zero_size true (f ∷ fs) methods is = let none : f ∷ fs ≡ [] = (is.0 refl).0 in absurd cc
zero_size false [] [] is = refl
zero_size false [] (m ∷ ms) is = let flag : false ≡ true = is.1 (refl, some_methods m ms) in absurd cc
zero_size false (f ∷ fs) methods is = refl

-- with methods it is the whole
pub struct_with_parts :
    {P C O I S T : Type 0} (notes : Notes) (title : Title) (fields : Option (List (StructField P C O I S T))) (methods : Option (List LoweredMethod))
    → both_given (defined_struct notes) (option_map (own_of title) fields) methods ≡ both_given (λ fs. defined_struct notes (own_of title fs)) fields methods
struct_with_parts notes title (Some fs) methods = refl
struct_with_parts notes title None methods = refl
