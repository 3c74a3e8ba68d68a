-- What marks start from: what the module around hands on.
use Rattle.bridge_decl.specs.declared.attrs.Attrs.{Attrs as DeclaredAttrs}
use Rattle.bridge_text.specs.declared.rename.AttrInheritContext.TheVariants as context
use Rattle.hir_attrs.specs.Attrs.{inherited}
use Rattle.hir_attrs.specs.Reading.{marks_of}
use Rattle.hir_attrs.specs.declared.attrs.Attrs.{Attrs}
use Rattle.hir_backends.specs.Backend.{Backend}

-- those of a type or a function start from what a type takes over of the module's set
abbrev pub item_start : Attrs → Attrs
item_start module_set = inherited module_set context.OfType

-- those of a method start from what a method takes over of the module's set, and not from those of its type
abbrev pub method_start : Attrs → Attrs
method_start module_set = inherited module_set context.MethodOrImplFromModule

-- the marks of a type or a function
abbrev pub item_marks : Backend → Attrs → DeclaredAttrs → Attrs
item_marks backend module_set attrs = marks_of backend attrs (item_start module_set)
