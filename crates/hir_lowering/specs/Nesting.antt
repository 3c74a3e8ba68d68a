-- What is told of how structs nest: at each struct that contains itself, or nests too deep, that it does.
use Rattle.std.specs.Prelude.{ℕ, List, [], ◌∷◌, ◌++◌, Option, Some, None, drop, slice_get, take}
use Rattle.std.specs.List.{enumerate_from, flat_map}
use Rattle.bridge_ast.specs.declared.place.ItemPlace.{ItemPlace}
use Rattle.bridge_decl.specs.Names.{item_name}
use Rattle.bridge_decl.specs.declared.modules.Item.{Item}
use Rattle.bridge_decl.specs.declared.modules.Module.{Module}
use Rattle.bridge_places.specs.Places.{places_of}
use Rattle.bridge_places.specs.declared.kinds.Kind.TheVariants as kind
use Rattle.hir_items.specs.Placing.{at_item_itself}
use Rattle.hir_mentions.specs.Mentions.{where_any}
use Rattle.hir_nesting.specs.declared.fault.NestingFault.{NestingFault}
use Rattle.hir_nesting.specs.declared.fault.NestingFault.TheVariants as fault
use Rattle.hir_reports.specs.Texts.{plain_error}
use Rattle.hir_reports.specs.declared.report.LoweringError.{LoweringError}
use Rattle.hir_reports.specs.declared.report.LoweringReport.{LoweringReport}
use Rattle.hir_reports.specs.declared.rule.Rule.TheVariants as rule
use Rattle.hir_lowering.specs.Placing.{found_at}

-- the rule that a struct breaks by a fault
abbrev pub nesting_error : NestingFault → LoweringError
nesting_error fault.ContainsItself = plain_error rule.StructContainsItself
nesting_error fault.NestsTooDeep = plain_error rule.NestingTooDeep

abbrev pub nesting_errors : Option NestingFault → List LoweringError
nesting_errors None = []
nesting_errors (Some f) = nesting_error f ∷ []

-- at the item that was found at a place
abbrev pub nesting_reports_of : Option NestingFault → Module × Item → List LoweringReport
nesting_reports_of f found = at_item_itself found.0.path (item_name found.1) (nesting_errors f)

-- at a place with its number, of which the faults have that of the struct there
abbrev pub nesting_reports_at : List Module → List (Option NestingFault) → ℕ × ItemPlace → List LoweringReport
nesting_reports_at modules faults at =
    where_any (λ f. where_any (nesting_reports_of f) (found_at modules at.1)) (slice_get faults at.0)

-- at these places, of which the faults have one for each, in order
abbrev pub each_nesting_report : List Module → List (Option NestingFault) → List ItemPlace → List LoweringReport
each_nesting_report modules faults places = flat_map (nesting_reports_at modules faults) (enumerate_from 0 places)

-- at structs, and then at out-structs, of which the faults have first so many
abbrev pub nesting_reports : List Module → ℕ → List (Option NestingFault) → List LoweringReport
nesting_reports modules out_structs faults =
    each_nesting_report modules (drop out_structs faults) (places_of modules kind.Struct)
    ++ each_nesting_report modules (take out_structs faults) (places_of modules kind.OutStruct)
