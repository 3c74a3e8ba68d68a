-- What is printed of reports, piece by piece: names are looked up in the context.
use Rattle.std.specs.Prelude.{ℕ, List, ◌++◌, Option, codes, decimal, length, option_map, slice_get}
use Rattle.std.specs.List.{flat_map}
use Rattle.hir_context.specs.declared.parts.Definitions.{Definitions}
use Rattle.hir_definitions.specs.declared.methods.Method.{Method}
use Rattle.hir_definitions.specs.declared.methods.Param.{Param}
use Rattle.hir_definitions.specs.declared.methods.ParamSelf.{ParamSelf}
use Rattle.hir_ids.specs.declared.ids.TypeId.{TypeId}
use Rattle.hir_life.specs.Naming.{printed_name}
use Rattle.hir_mentions.specs.Mentions.{where_any}
use Rattle.hir_reports.specs.Places.{context_text}
use Rattle.hir_skeleton.specs.Inputs.{field_names, param_skeleton}
use Rattle.hir_skeleton.specs.Lowered.{receiver_skeleton}
use Rattle.hir_skeleton.specs.Skeletons.{Skeleton}
use Rattle.bridge_report.specs.Callables.{Callable}
use Rattle.bridge_report.specs.InContext.{callable_at, method_at, receiver_name}
use Rattle.bridge_report.specs.Page.{list_text, optional_text}
use Rattle.bridge_report.specs.declared.report.CallableReport.{CallableReport}
use Rattle.bridge_report.specs.declared.report.InputPlace.{InputPlace}
use Rattle.bridge_report.specs.declared.report.InputPlace.TheVariants as input
use Rattle.bridge_report.specs.declared.report.LeafPath.{LeafPath}
use Rattle.bridge_report.specs.declared.report.ReportEdge.{ReportEdge}
use Rattle.bridge_report.specs.declared.report.ReportEdgeKind.{ReportEdgeKind}
use Rattle.bridge_report.specs.declared.report.ReportEdgeKind.TheVariants as kind
use Rattle.bridge_report.specs.declared.report.ReturnedLifetime.{ReturnedLifetime}

-- ---- inputs

-- the name of the input at a place, and its skeleton, where there is one
abbrev pub place_name : List Param → InputPlace → List ℕ
place_name params input.Receiver = receiver_name
place_name params (input.Param number) = where_any (λ param. param.name) (slice_get params number)

abbrev pub place_skeleton : Option ParamSelf → List Param → InputPlace → Option (Skeleton TypeId)
place_skeleton receiver params input.Receiver = option_map (λ receiver. receiver_skeleton receiver.ty) receiver
place_skeleton receiver params (input.Param number) = option_map (λ param. param_skeleton param.ty) (slice_get params number)

abbrev pub input_name : Method → InputPlace → List ℕ
input_name m place = place_name m.params place

abbrev pub input_at : Method → InputPlace → Option (Skeleton TypeId)
input_at m place = place_skeleton m.param_self m.params place

-- ---- leaves

-- names, each after a point
abbrev pub dotted : List (List ℕ) → List ℕ
dotted names = flat_map (λ name. codes "." ++ name) names

-- the names of the fields of a path, from inside an input
abbrev pub fields_text : Definitions → Option (Skeleton TypeId) → List ℕ → List ℕ
fields_text defs inside fields = dotted (where_any (field_names defs fields) inside)

abbrev pub leaf_path_text : Definitions → Method → LeafPath → List ℕ
leaf_path_text defs m path = input_name m path.input ++ fields_text defs (input_at m path.input) path.fields

-- ---- edges

abbrev pub edge_kind_text : List ℕ → ReportEdgeKind → List ℕ
edge_kind_text name kind.Opaque = codes "opaque " ++ name
edge_kind_text name kind.Slice = codes "slice " ++ name
edge_kind_text name (kind.Struct d optional) = codes "struct " ++ name ++ codes " " ++ decimal d ++ optional_text optional

abbrev pub report_edge_text : Method → ReportEdge → List ℕ
report_edge_text m edge = edge_kind_text (input_name m edge.input) edge.kind

-- ---- lines

abbrev pub paths_line : Definitions → Method → ReturnedLifetime → List ℕ
paths_line defs m returned =
    codes "  lifetime " ++ decimal returned.lifetime ++ codes " " ++ printed_name m.lifetime_env returned.lifetime ++ codes ":"
    ++ list_text (leaf_path_text defs m) returned.leaves ++ codes "\n"

abbrev pub report_edges_line : Method → ReturnedLifetime → List ℕ
report_edges_line m returned = codes "  edges:" ++ list_text (report_edge_text m) returned.edges ++ codes "\n"

abbrev pub returned_text : Definitions → Method → ReturnedLifetime → List ℕ
returned_text defs m returned = paths_line defs m returned ++ report_edges_line m returned

-- the line of a callable
abbrev pub callable_line : Callable → List ℕ
callable_line c = codes "callable " ++ context_text c.place ++ codes "\n"

-- a callable with what its result may borrow
abbrev pub callable_text : Definitions → CallableReport → List ℕ
callable_text defs report =
    where_any callable_line (callable_at defs report.callable)
    ++ where_any (λ m. flat_map (returned_text defs m) report.returned) (method_at defs report.callable)

-- the last line
abbrev pub end_line : ℕ → List ℕ
end_line count = codes "ok " ++ decimal count ++ codes "\n"

-- the whole page
abbrev pub printed_page : Definitions → List CallableReport → List ℕ
printed_page defs reports = flat_map (callable_text defs) reports ++ end_line (length reports)
