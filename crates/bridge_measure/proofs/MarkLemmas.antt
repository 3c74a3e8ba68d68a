-- Nothing is told of the marks of what is made: it has none of its own.
use Rattle.std.proofs.Common.{◌≡◌, true, [], None, refl}
use Rattle.std.specs.Prelude.{◌||◌, false}
use Rattle.std.specs.List.{list_any}
use Rattle.bridge_generate.specs.Generated.{plain_attrs, plain_docs}
use Rattle.bridge_text.specs.Rename.{inherited_pattern}
use Rattle.bridge_text.specs.declared.rename.AttrInheritContext.TheVariants.{OfType}
use Rattle.hir_attrs.specs.Attrs.{empty_attrs}
use Rattle.hir_attrs.specs.declared.attrs.Attrs.{Attrs}
use Rattle.hir_attrs.specs.declared.names.MarkName.TheVariants as mark
use Rattle.hir_backends.specs.Backend.{Backend}
use Rattle.hir_heads.specs.Heads.{notes_errors}
use Rattle.hir_items.specs.Inheriting.{item_start}
use Rattle.hir_mark_contexts.proofs.UnmarkedLemmas.{item_fine, part_fine}
use Rattle.hir_mark_contexts.specs.Contexts.{allows}
use Rattle.hir_mark_contexts.specs.Told.{tested_errors}
use Rattle.hir_mark_contexts.specs.declared.contexts.MarkContext.{MarkContext}
use Rattle.hir_mark_contexts.specs.declared.contexts.MarkContext.TheVariants as marked
use Rattle.bridge_measure.proofs.EmptyLemmas.{both_empty}

-- an item takes over what may stand on it
item_tested : (backend : Backend) (context : MarkContext) → allows mark.Disable context ≡ true → allows mark.Rename context ≡ true → allows mark.Namespace context ≡ true
    → (set : Attrs) → tested_errors backend context plain_attrs (item_start set) ≡ []
unfolding tested_errors
item_tested backend context disable rename namespace set =
    item_fine backend context set.disable (set.unstable || list_any backend.is_unstable []) None set.namespace (inherited_pattern set.rename OfType) disable rename namespace

pub function_tested : (backend : Backend) (set : Attrs) → tested_errors backend marked.Function plain_attrs (item_start set) ≡ []
unfolding allows
function_tested backend = item_tested backend marked.Function refl refl refl

notes_fine : (backend : Backend) (context : MarkContext) (set : Attrs) → tested_errors backend context plain_attrs (item_start set) ≡ []
    → notes_errors backend context (item_start set) plain_docs plain_attrs ≡ []
notes_fine backend context set tested = both_empty (tested_errors backend context plain_attrs (item_start set)) [] tested refl

pub opaque_notes_fine : (backend : Backend) (set : Attrs) → notes_errors backend marked.Opaque (item_start set) plain_docs plain_attrs ≡ []
unfolding allows
opaque_notes_fine backend set = notes_fine backend marked.Opaque set (item_tested backend marked.Opaque refl refl refl set)

pub struct_notes_fine : (backend : Backend) (set : Attrs) → notes_errors backend marked.Struct (item_start set) plain_docs plain_attrs ≡ []
unfolding allows
struct_notes_fine backend set = notes_fine backend marked.Struct set (item_tested backend marked.Struct refl refl refl set)

-- a field or a parameter begins with none
pub part_tested : (backend : Backend) (context : MarkContext) → tested_errors backend context plain_attrs empty_attrs ≡ []
unfolding tested_errors
part_tested backend context = part_fine backend context (false || list_any backend.is_unstable []) None
