-- What the trailing writer of a method or of a function takes: in `fn print(&self, n: u8, w: &mut DiplomatWrite)` a text in UTF-8.
use Rattle.std.specs.Prelude.{List, [], ◌∷◌, Option, Some, None}
use Rattle.bridge_decl.specs.declared.methods.Param.{Param}
use Rattle.bridge_decl.specs.declared.types.Mutability.TheVariants as mutability
use Rattle.bridge_decl.specs.declared.types.TypeName.{TypeName, out-TypeName}
use Rattle.bridge_decl.specs.declared.types.TypeName.TheOpen.{TypeName-F}
use Rattle.bridge_decl.specs.declared.types.WriteType.{WriteType}

-- what a type takes that is a writer
abbrev pub taken_level : TypeName-F TypeName → Option WriteType
taken_level (TypeName-F.Write target) = Some target
taken_level _ = None

-- what is written through a reference
abbrev pub written_level : TypeName-F TypeName → Option WriteType
written_level (TypeName-F.Reference l mutability.Mutable t) = taken_level (out-TypeName t)
written_level _ = None

-- what is written through a parameter
abbrev pub written_through : Param → Option WriteType
written_through param = written_level (out-TypeName param.ty)

-- what is written through the last one
abbrev pub trailing_writer : List Param → Option WriteType
trailing_writer [] = None
trailing_writer (param ∷ []) = written_through param
trailing_writer (param ∷ next ∷ params) = trailing_writer (next ∷ params)
