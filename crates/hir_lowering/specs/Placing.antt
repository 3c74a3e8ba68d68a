-- What is told of the items at places, and what they are lowered to.
use Rattle.std.specs.Prelude.{List, Option, map, option_map, option_and_then, slice_get}
use Rattle.std.specs.List.{filter_map, flat_map}
use Rattle.bridge_ast.specs.declared.place.ItemPlace.{ItemPlace}
use Rattle.bridge_decl.specs.declared.modules.Item.{Item}
use Rattle.bridge_decl.specs.declared.modules.Module.{Module}
use Rattle.hir_form.specs.ParamForms.{all_given}
use Rattle.hir_items.specs.Placing.{unless_reported}
use Rattle.hir_mentions.specs.Mentions.{where_any}
use Rattle.hir_modules.specs.ModuleMarks.{module_marks}
use Rattle.hir_reports.specs.declared.report.LoweringReport.{LoweringReport}
use Rattle.hir_lowering.specs.Interface.{Interface, setting_in}
use Rattle.hir_lowering.specs.Kinds.{ItemMaking, ItemTelling}

-- the item at a place, with the module that it stands in
abbrev pub beside_module : Module → Option Item → Option (Module × Item)
beside_module m it = option_map (λ i. (m, i)) it

abbrev pub found_at : List Module → ItemPlace → Option (Module × Item)
found_at modules place = option_and_then (λ m. beside_module m (slice_get m.items place.item)) (slice_get modules place.«module»)

-- what is told of what was found at a place
abbrev pub reports_of : Interface → ItemTelling → ItemPlace → Module × Item → List LoweringReport
reports_of it told place found =
    told (setting_in it place.«module») found.0.path place (module_marks it.backend it.modules found.0) found.1

abbrev pub reports_at : Interface → ItemTelling → ItemPlace → List LoweringReport
reports_at it told place = where_any (reports_of it told place) (found_at it.modules place)

-- of all places, in order
abbrev pub each_report : Interface → ItemTelling → List ItemPlace → List LoweringReport
each_report it told places = flat_map (reports_at it told) places

-- what is made of what was found at a place
abbrev pub form_of : {D : Type 0} → Interface → ItemMaking D → ItemPlace → Module × Item → Option D
form_of it made place found =
    made (setting_in it place.«module») place (module_marks it.backend it.modules found.0) found.1

abbrev pub form_at : {D : Type 0} → Interface → ItemMaking D → ItemPlace → Option D
form_at it made place = option_and_then (form_of it made place) (found_at it.modules place)

-- of all places, in order, where something is made of each: so none is left out
abbrev pub each_form : {D : Type 0} → Interface → ItemMaking D → List ItemPlace → Option (List D)
each_form it made places = all_given (map (form_at it made) places)

-- the definitions of the items of which nothing is told, in order
abbrev pub made_at : {D : Type 0} → Interface → ItemTelling → ItemMaking D → ItemPlace → Option D
made_at it told made place = unless_reported (reports_at it told place) (form_at it made place)

abbrev pub each_made : {D : Type 0} → Interface → ItemTelling → ItemMaking D → List ItemPlace → List D
each_made it told made places = filter_map (made_at it told made) places
