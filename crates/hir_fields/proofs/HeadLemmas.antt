-- What is made of a name with marks and documents.
use Rattle.std.proofs.Common.{◌≡◌, ℕ, List, [], Option, Some, None, sym, ◌∙◌}
use Rattle.bridge_decl.specs.declared.attrs.Attrs.{Attrs as DeclaredAttrs}
use Rattle.bridge_decl.specs.declared.docs.Docs.{Docs as DeclaredDocs}
use Rattle.hir_attrs.specs.declared.attrs.Attrs.{Attrs}
use Rattle.hir_backends.specs.Backend.{Backend}
use Rattle.hir_mark_contexts.specs.declared.contexts.MarkContext.{MarkContext}
use Rattle.hir_fields.proofs.SoFar.{front_none}
use Rattle.hir_fields.specs.Heads.{head_errors}
use Rattle.hir_fields.specs.inside.Heads.{head_form}
use Rattle.hir_heads.specs.Heads.{notes_errors, notes_form}
use Rattle.hir_heads.specs.Names.{name_errors}
use Rattle.hir_heads.specs.Told.{MadeUnlessTold}
use Rattle.hir_heads.specs.declared.notes.Notes.{Notes}

same_inside : {A : Type 0} (x y : A) → Some x ≡ Some y → x ≡ y
same_inside x y h = cc

none_is_some : {A : Type 0} (made : Option A) (x : A) → made ≡ None → made ≡ Some x → ⊥
none_is_some made x none some = absurd cc

module _ (backend : Backend) (context : MarkContext) (start : Attrs) (name : List ℕ) (docs : DeclaredDocs) (attrs : DeclaredAttrs) (made : Option (List ℕ))
    (named : MadeUnlessTold (name_errors name) name made)
  where
    pub head_made : (ident : List ℕ) (notes : Notes) → made ≡ Some ident → notes ≡ notes_form backend start docs attrs
        → head_errors backend context start name docs attrs ≡ [] → Some (record { name = ident; notes = notes }) ≡ Some (head_form backend start name docs attrs)
    head_made ident notes is noted none =
        let here : ident ≡ name = same_inside ident name (sym is ∙ named (front_none (name_errors name) (notes_errors backend context start docs attrs) none)) in
        λ i. Some (record { name = here i; notes = noted i })

    pub head_absent : made ≡ None → head_errors backend context start name docs attrs ≡ [] → ⊥
    head_absent is none = none_is_some made name is (named (front_none (name_errors name) (notes_errors backend context start docs attrs) none))
