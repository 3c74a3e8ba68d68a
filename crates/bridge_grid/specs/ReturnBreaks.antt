-- Which rules break what is returned, by methods and functions or by callbacks and traits' methods.
use Rattle.std.specs.Prelude.{◌≡◌, ◌⊎◌, true}
use Rattle.bridge_decl.specs.declared.types.StdlibOrDiplomat.TheVariants.{Stdlib}
use Rattle.hir_backends.specs.declared.support.BackendAttrSupport.{BackendAttrSupport}
use Rattle.hir_number.specs.declared.numbered.NumberedType.{NumberedType, out-NumberedType}
use Rattle.hir_number.specs.declared.numbered.NumberedType.TheOpen.{NumberedType-F}
use Rattle.hir_reports.specs.declared.rule.Rule.TheVariants as rule
use Rattle.bridge_order.specs.declared.catalog.Catalog.{Catalog}
use Rattle.bridge_rules.specs.declared.position.Position.{Position}
use Rattle.bridge_grid.specs.declared.fault.TypeFault.{TypeFault}
use Rattle.bridge_grid.specs.declared.fault.TypeFault.TheVariants.{Broken}
use Rattle.bridge_grid.specs.declared.part.Part.{Part}
use Rattle.bridge_grid.specs.declared.part.Part.TheVariants.{Whole, Inside, Error}
use Rattle.bridge_grid.specs.Breaks.{TypeBreaks}
use Rattle.bridge_grid.specs.Returns.{is_pointer}

abbrev pub LevelResultPartBreaks : BackendAttrSupport → Catalog → Position → Part → NumberedType
    → NumberedType-F NumberedType → TypeFault → Type 0
LevelResultPartBreaks support catalog at part ty NumberedType-F.Unit f = ⊥
LevelResultPartBreaks support catalog at part ty (NumberedType-F.Option t Stdlib) f =
    ((is_pointer t ≡ true) × TypeBreaks support catalog at part ty f)
    ⊎ ((¬ (is_pointer t ≡ true)) × (f ≡ Broken rule.StdOptionPlace))
LevelResultPartBreaks support catalog at part ty _ f = TypeBreaks support catalog at part ty f

-- a part of a result: the standard library's option is only of a reference or a box
abbrev pub ResultPartBreaks : BackendAttrSupport → Catalog → Position → Part → NumberedType → TypeFault → Type 0
ResultPartBreaks support catalog at part ty f = LevelResultPartBreaks support catalog at part ty
    (out-NumberedType ty) f

abbrev pub LevelReturnedOptionBreaks : BackendAttrSupport → Catalog → Position → NumberedType → NumberedType
    → NumberedType-F NumberedType → TypeFault → Type 0
LevelReturnedOptionBreaks support catalog at ty inner NumberedType-F.Unit f = ⊥
LevelReturnedOptionBreaks support catalog at ty inner (NumberedType-F.Reference l m t) f =
    TypeBreaks support catalog at Whole ty f
LevelReturnedOptionBreaks support catalog at ty inner (NumberedType-F.Box t) f = TypeBreaks support catalog at Whole ty f
LevelReturnedOptionBreaks support catalog at ty inner _ f = TypeBreaks support catalog at Inside inner f

-- an option: of a reference or a box it is a shape of the table, else its inside is
abbrev pub ReturnedOptionBreaks : BackendAttrSupport → Catalog → Position → NumberedType → NumberedType
    → TypeFault → Type 0
ReturnedOptionBreaks support catalog at ty inner f = LevelReturnedOptionBreaks support catalog at ty inner
    (out-NumberedType inner) f

abbrev pub LevelReturnBreaks : BackendAttrSupport → Catalog → Position → NumberedType
    → NumberedType-F NumberedType → TypeFault → Type 0
LevelReturnBreaks support catalog at ty NumberedType-F.Unit f = ⊥
LevelReturnBreaks support catalog at ty (NumberedType-F.Option t d) f = ReturnedOptionBreaks support catalog at ty t f
LevelReturnBreaks support catalog at ty (NumberedType-F.Result t e d) f =
    ResultPartBreaks support catalog at Inside t f ⊎ ResultPartBreaks support catalog at Error e f
LevelReturnBreaks support catalog at ty _ f = TypeBreaks support catalog at Whole ty f

-- a type that is returned at that position breaks the rule
abbrev pub ReturnBreaks : BackendAttrSupport → Catalog → Position → NumberedType → TypeFault → Type 0
ReturnBreaks support catalog at ty f = LevelReturnBreaks support catalog at ty (out-NumberedType ty) f
