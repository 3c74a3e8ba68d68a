-- FfiUnsafe: a field of a struct has a type whose layout the other language can have.
use Rattle.std.specs.Prelude.{◌≡◌, ⊤, true, false}
use Rattle.bridge_decl.specs.declared.types.StdlibOrDiplomat.TheVariants.{Stdlib, Diplomat}
use Rattle.hir_number.specs.declared.numbered.NumberedType.{NumberedType, out-NumberedType}
use Rattle.hir_number.specs.declared.numbered.NumberedType.TheOpen.{NumberedType-F}
use Rattle.bridge_grid.specs.Returns.{is_pointer}

-- slices are Diplomat's; an option of a reference or a box is the standard library's, of anything else Diplomat's
abbrev pub LevelFfiSafe : NumberedType-F NumberedType → Type 0
LevelFfiSafe (NumberedType-F.Primitive p) = ⊤
LevelFfiSafe NumberedType-F.Ordering = ⊥
LevelFfiSafe (NumberedType-F.Named t) = ⊤
LevelFfiSafe (NumberedType-F.SelfType t) = ⊤
LevelFfiSafe (NumberedType-F.ImplTrait t) = ⊤
LevelFfiSafe (NumberedType-F.Reference l m t) = ⊤
LevelFfiSafe (NumberedType-F.Box t) = ⊤
LevelFfiSafe (NumberedType-F.Option t Stdlib) = is_pointer t ≡ true
LevelFfiSafe (NumberedType-F.Option t Diplomat) = is_pointer t ≡ false
LevelFfiSafe (NumberedType-F.Result t e d) = ⊥
LevelFfiSafe (NumberedType-F.Write w) = ⊥
LevelFfiSafe (NumberedType-F.StrReference l e d) = d ≡ Diplomat
LevelFfiSafe (NumberedType-F.StrSlice e d) = d ≡ Diplomat
LevelFfiSafe (NumberedType-F.PrimitiveSlice b p d) = d ≡ Diplomat
LevelFfiSafe (NumberedType-F.CustomTypeSlice b t d) = d ≡ Diplomat
LevelFfiSafe (NumberedType-F.Function ts t m) = ⊤
LevelFfiSafe NumberedType-F.Unit = ⊥

-- a field may have the type
abbrev pub IsFfiSafe : NumberedType → Type 0
IsFfiSafe ty = LevelFfiSafe (out-NumberedType ty)
