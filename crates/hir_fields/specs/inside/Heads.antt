-- What a field has beside its type, or a variant beside its number, for the backend.
use Rattle.std.specs.Prelude.{ℕ, List, map}
use Rattle.std.specs.List.{zip}
use Rattle.bridge_decl.specs.declared.attrs.Attrs.{Attrs as DeclaredAttrs}
use Rattle.bridge_decl.specs.declared.docs.Docs.{Docs as DeclaredDocs}
use Rattle.bridge_decl.specs.declared.structs.Field.{Field}
use Rattle.hir_attrs.specs.Attrs.{empty_attrs}
use Rattle.hir_attrs.specs.declared.attrs.Attrs.{Attrs}
use Rattle.hir_backends.specs.Backend.{Backend}
use Rattle.hir_heads.specs.Heads.{notes_form}
use Rattle.hir_fields.specs.declared.heads.Head.{Head}

-- its name, its marks and its documents
abbrev pub head_form : Backend → Attrs → List ℕ → DeclaredDocs → DeclaredAttrs → Head
head_form backend start name docs attrs = record { name = name; notes = notes_form backend start docs attrs }

-- those of a field
abbrev pub field_head : Backend → Field → Head
field_head backend field = head_form backend empty_attrs field.name field.docs field.attrs

-- the fields of types of one kind, each by what is made of what else a field has and its type
abbrev pub kind_fields : {T F : Type 0} → (Head → T → F) → Backend → List Field → List T → List F
kind_fields make backend fields types = map (λ pair. make (field_head backend pair.0) pair.1) (zip fields types)
