-- Where a callable is declared, as it is lent.
use Rattle.std.specs.Prelude.{option_map}
use Rattle.hir_reports.specs.Store.{at_place}
use Rattle.hir_reports.specs.declared.places.ErrorContext.{ErrorContext}
use Rattle.bridge_report.specs.declared.callables.CallablePlace.{CallablePlace}

-- the place that is lent: the path of its module, its item, and its method where it is one
abbrev pub shown_place : CallablePlace → ErrorContext
shown_place place = at_place place.«module».now place.item.now (option_map (λ name. name.now) place.method)
