-- What says that neither of two values comes first.
use Rattle.std.specs.Prelude.{Bool, false, Option, Some}
use Rattle.hir_attrs.specs.declared.attrs.Attrs.{Attrs}
use Rattle.hir_attrs.specs.declared.special.SpecialMethod.{SpecialMethod}
use Rattle.hir_attrs.specs.declared.special.SpecialMethod.TheVariants as special
use Rattle.hir_types.specs.Named.{Returned}
use Rattle.hir_types.specs.declared.returns.ReturnType.TheVariants as returned
use Rattle.hir_special.specs.Returns.{is_ordering}

-- an option of an `Ordering`
abbrev pub is_partial : Returned → Bool
is_partial (returned.Nullable s) = is_ordering s
is_partial _ = false

-- of what returns that: the mark of a comparison says whether it is partial
abbrev pub marked_partial : Returned → Option SpecialMethod → Option SpecialMethod
marked_partial it (Some (special.Comparison _)) = Some (special.Comparison (is_partial it))
marked_partial it mark = mark

-- the same among all its marks
abbrev pub with_partial : Returned → Attrs → Attrs
with_partial it attrs = record attrs { special_method = marked_partial it attrs.special_method }
