-- Special methods that stand once on a type.
use Rattle.std.specs.Prelude.{List, [], Bool, true, false, not, ◌&&◌, ◌||◌, Option, Some, None}
use Rattle.bridge_telling.specs.Telling.{one_if}
use Rattle.hir_attrs.specs.Reading.{about}
use Rattle.hir_attrs.specs.Special.{special_text}
use Rattle.hir_attrs.specs.declared.special.kind.SpecialKind.{SpecialKind}
use Rattle.hir_attrs.specs.declared.special.kind.SpecialKind.TheVariants as kind
use Rattle.hir_backends.specs.Support.{flag_on}
use Rattle.hir_backends.specs.declared.support.BackendAttrSupport.{BackendAttrSupport}
use Rattle.hir_backends.specs.declared.support.flag.SupportFlag.TheVariants as flag
use Rattle.hir_reports.specs.declared.report.LoweringError.{LoweringError}
use Rattle.hir_reports.specs.declared.rule.Rule.TheVariants as rule
use Rattle.hir_special.specs.declared.repeated.SeenSpecials.{SeenSpecials}

abbrev pub is_constructor : SpecialKind → Bool
is_constructor kind.Constructor = true
is_constructor _ = false

abbrev pub is_comparison : SpecialKind → Bool
is_comparison kind.Comparison = true
is_comparison _ = false

abbrev pub is_iterator : SpecialKind → Bool
is_iterator kind.Iterator = true
is_iterator _ = false

abbrev pub is_iterable : SpecialKind → Bool
is_iterable kind.Iterable = true
is_iterable _ = false

-- ---- which were seen

abbrev pub none_seen : SeenSpecials
none_seen = record { constructor = false; comparison = false; iterator = false; iterable = false }

-- one more
abbrev pub seen_with : SpecialKind → SeenSpecials → SeenSpecials
seen_with it seen =
    record {
      constructor = seen.constructor || is_constructor it;
      comparison = seen.comparison || is_comparison it;
      iterator = seen.iterator || is_iterator it;
      iterable = seen.iterable || is_iterable it;
    }

abbrev pub seen_after : Option SpecialKind → SeenSpecials → SeenSpecials
seen_after None seen = seen
seen_after (Some it) seen = seen_with it seen

-- ---- which is one too many

-- constructors stand once where the backend doesn't overload methods
abbrev pub is_lone_constructor : BackendAttrSupport → SpecialKind → Bool
is_lone_constructor supports it = is_constructor it && not (flag_on supports flag.MethodOverloading)

-- one that stands once, and was seen
unfoldable pub is_repeated : BackendAttrSupport → SeenSpecials → SpecialKind → Bool
is_repeated supports seen it =
    (is_lone_constructor supports it && seen.constructor)
    || ((is_comparison it && seen.comparison)
    || ((is_iterator it && seen.iterator)
    || (is_iterable it && seen.iterable)))

-- of a method of that kind, or of none, after these
abbrev pub repeated_errors : BackendAttrSupport → SeenSpecials → Option SpecialKind → List LoweringError
repeated_errors supports seen None = []
repeated_errors supports seen (Some it) = one_if (is_repeated supports seen it) (about rule.SpecialRepeated (special_text it))
