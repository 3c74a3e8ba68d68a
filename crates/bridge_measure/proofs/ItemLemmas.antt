-- Nothing is reported of the opaque, the structs and the functions.
use Rattle.std.proofs.Common.{◌≡◌, ℕ, ◌%◌, ◌^◌, ◌<◌, Bool, true, List, [], ◌++◌, refl, ap, arith, ◌∙◌}
use Rattle.std.specs.Prelude.{◌==◌}
use Rattle.bridge_ast.specs.declared.place.ItemPlace.{ItemPlace}
use Rattle.bridge_generate.specs.Generated.{function_name, function_numbered, one_lifetime, plain_attrs, plain_docs, struct_name, struct_numbered, the_opaque}
use Rattle.hir_attrs.specs.declared.attrs.Attrs.{Attrs}
use Rattle.hir_backends.specs.Backend.{Backend}
use Rattle.hir_fields.specs.Fields.{fields_errors}
use Rattle.hir_heads.specs.Heads.{lifetime_errors, notes_errors}
use Rattle.hir_heads.specs.Names.{name_errors}
use Rattle.hir_items.specs.FreeFunctions.{function_reports}
use Rattle.hir_items.specs.Inheriting.{item_marks, item_start}
use Rattle.hir_items.specs.Opaques.{opaque_errors, opaque_reports}
use Rattle.hir_items.specs.Placing.{at_item_itself}
use Rattle.hir_items.specs.Setting.{Setting}
use Rattle.hir_items.specs.Structs.{struct_errors, struct_reports}
use Rattle.hir_items.specs.TypeMethods.{type_method_reports}
use Rattle.hir_mark_contexts.specs.declared.contexts.MarkContext.TheVariants as marked
use Rattle.bridge_measure.specs.inside.Made.{AreAsMade}
use Rattle.bridge_measure.proofs.EmptyLemmas.{both_empty, unless_empty}
use Rattle.bridge_measure.proofs.FieldLemmas.{fields_fine}
use Rattle.bridge_measure.proofs.FunctionLemmas.{function_fine}
use Rattle.bridge_measure.proofs.MarkLemmas.{opaque_notes_fine, struct_notes_fine}
use Rattle.bridge_measure.proofs.NameLemmas.{O_fine, one_lifetime_fine, struct_name_fine}
use Rattle.bridge_measure.proofs.UseLemmas.{struct_if}

-- ---- the opaque

-- its marks
abbrev marks_in : Backend → Attrs → Attrs
marks_in backend set = item_marks backend set plain_attrs

opaque_fine : (backend : Backend) (set : Attrs) → opaque_errors backend set the_opaque ≡ []
opaque_fine backend set =
    let name = name_errors the_opaque.name in
    let symbol = name_errors the_opaque.dtor_abi_name in
    both_empty (notes_errors backend marked.Opaque (item_start set) plain_docs plain_attrs) _ (opaque_notes_fine backend set)
    (both_empty ((name ++ []) ++ symbol) _ (both_empty (name ++ []) symbol (both_empty name [] O_fine refl) O_fine)
    (unless_empty (marks_in backend set).disable [] refl))

pub opaque_unreported : (s : Setting) (path : List (List ℕ)) (place : ItemPlace) (set : Attrs) → opaque_reports s path place set the_opaque ≡ []
opaque_unreported s path place set =
    ap (λ errors. at_item_itself path the_opaque.name errors ++ type_method_reports s path the_opaque.name place set (marks_in s.backend set) [])
    (opaque_fine s.backend set)
    ∙ unless_empty (marks_in s.backend set).disable [] refl

module _ (count : ℕ) (s : Setting) (known : AreAsMade count s.names s.catalog) (fits : count < 2 ^ 64) (path : List (List ℕ)) (set : Attrs)
    (k : ℕ) (within : k < count)
  where
    -- ---- a struct

    struct_fine : (first : Bool) → struct_errors s set (struct_if first k) ≡ []
    struct_fine first =
        both_empty (notes_errors s.backend marked.Struct (item_start set) plain_docs plain_attrs) _ (struct_notes_fine s.backend set)
        (both_empty (name_errors (struct_name k) ++ lifetime_errors one_lifetime) _
        (both_empty (name_errors (struct_name k)) (lifetime_errors one_lifetime) (struct_name_fine k (omega arith)) one_lifetime_fine)
        (unless_empty (marks_in s.backend set).disable (fields_errors s.backend s.catalog s.names (struct_if first k))
        (fields_fine count s.names s.catalog known s.backend s.config first k within)))

    struct_if_unreported : (place : ItemPlace) (first : Bool) → struct_reports s path place set (struct_if first k) ≡ []
    struct_if_unreported place first =
        ap (λ errors. at_item_itself path (struct_name k) errors ++ type_method_reports s path (struct_name k) place set (marks_in s.backend set) [])
        (struct_fine first)
        ∙ unless_empty (marks_in s.backend set).disable [] refl

    pub struct_unreported : (place : ItemPlace) → struct_reports s path place set (struct_numbered k) ≡ []
    struct_unreported place = struct_if_unreported place (k % 8 == 0)

    -- ---- a function

    pub function_unreported : s.support.free_functions ≡ true → function_reports s path set (function_numbered k) ≡ []
    function_unreported on =
        ap (at_item_itself path (function_name k))
        (function_fine count s.names s.catalog known s.support s.config k within s.backend on (omega arith) set)
