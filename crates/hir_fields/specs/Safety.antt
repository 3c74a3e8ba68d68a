-- Which types a field of a struct may have, as a test. `IsFfiSafe` of `bridge_grid` says the same as a relation.
use Rattle.std.specs.Prelude.{ℕ, List, [], ◌∷◌, Bool, true, false, not, if◌then◌else◌}
use Rattle.bridge_decl.specs.declared.types.StdlibOrDiplomat.{StdlibOrDiplomat}
use Rattle.bridge_decl.specs.declared.types.StdlibOrDiplomat.TheVariants.{Stdlib, Diplomat}
use Rattle.bridge_grid.specs.Returns.{is_pointer}
use Rattle.bridge_grid.specs.Telling.{field_error}
use Rattle.hir_number.specs.declared.numbered.NumberedType.{NumberedType, out-NumberedType}
use Rattle.hir_number.specs.declared.numbered.NumberedType.TheOpen.{NumberedType-F}
use Rattle.hir_reports.specs.declared.report.LoweringError.{LoweringError}

-- whether it is Diplomat's
abbrev pub is_own_spelling : StdlibOrDiplomat → Bool
is_own_spelling Stdlib = false
is_own_spelling Diplomat = true

-- whether an option is: of a reference or a box it is the standard library's, of anything else Diplomat's
abbrev pub is_safe_option : StdlibOrDiplomat → Bool → Bool
is_safe_option Stdlib pointer = pointer
is_safe_option Diplomat pointer = not pointer

-- whether a type is laid out as the other language can have it
abbrev pub is_safe_level : NumberedType-F NumberedType → Bool
is_safe_level (NumberedType-F.Primitive p) = true
is_safe_level NumberedType-F.Ordering = false
is_safe_level (NumberedType-F.Named t) = true
is_safe_level (NumberedType-F.SelfType t) = true
is_safe_level (NumberedType-F.ImplTrait t) = true
is_safe_level (NumberedType-F.Reference l m t) = true
is_safe_level (NumberedType-F.Box t) = true
is_safe_level (NumberedType-F.Option t d) = is_safe_option d (is_pointer t)
is_safe_level (NumberedType-F.Result t e d) = false
is_safe_level (NumberedType-F.Write w) = false
is_safe_level (NumberedType-F.StrReference l e d) = is_own_spelling d
is_safe_level (NumberedType-F.StrSlice e d) = is_own_spelling d
is_safe_level (NumberedType-F.PrimitiveSlice b p d) = is_own_spelling d
is_safe_level (NumberedType-F.CustomTypeSlice b t d) = is_own_spelling d
is_safe_level (NumberedType-F.Function ts t m) = true
is_safe_level NumberedType-F.Unit = false

abbrev pub is_safe : NumberedType → Bool
is_safe ty = is_safe_level (out-NumberedType ty)

-- what is told of a field of that name: that it isn't, where it isn't
abbrev pub safety_errors : List ℕ → NumberedType → List LoweringError
safety_errors name ty = if is_safe ty then [] else field_error name ∷ []
