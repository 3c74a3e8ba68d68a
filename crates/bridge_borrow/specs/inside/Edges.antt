-- The edges of inputs, by what the code goes over. In the example of the crate's head `mark` is an input in an option, in the place of the
-- first parameter: under 'a it has an edge for each argument of `Mark`.
use Rattle.std.specs.Prelude.{ℕ, List, [], ◌∷◌, ◌++◌, Bool, cond, map}
use Rattle.std.specs.List.{enumerate_from, flat_map, list_any}
use Rattle.hir_life.specs.declared.maybe_static.MaybeStatic.{MaybeStatic}
use Rattle.hir_definitions.specs.declared.methods.Method.{Method}
use Rattle.hir_definitions.specs.declared.methods.Param.{Param}
use Rattle.hir_definitions.specs.declared.methods.ParamSelf.{ParamSelf}
use Rattle.hir_mentions.specs.Mentions.{where_any}
use Rattle.hir_parts.specs.Parts.{carried_by}
use Rattle.hir_parts.specs.declared.parts.InputPart.{InputPart}
use Rattle.hir_parts.specs.declared.parts.InputPart.TheVariants as part
use Rattle.hir_skeleton.specs.Edges.{shallow_edges}
use Rattle.hir_skeleton.specs.Leaves.{number_passes}
use Rattle.bridge_report.specs.Borrowings.{edge_kind, kind_of_whole}
use Rattle.bridge_report.specs.Callables.{CallableInput}
use Rattle.bridge_report.specs.InContext.{param_input, receiver_input}
use Rattle.bridge_report.specs.declared.report.InputPlace.{InputPlace}
use Rattle.bridge_report.specs.declared.report.InputPlace.TheVariants as place
use Rattle.bridge_report.specs.declared.report.ReportEdge.{ReportEdge}
use Rattle.bridge_report.specs.declared.report.ReportEdgeKind.TheVariants as kind

-- ---- by parts

-- the edge of an input that carries these lifetimes, where one of them passes
abbrev pub edges_of_whole : InputPlace → (ℕ → Bool) → Bool → List (MaybeStatic ℕ) → List ReportEdge
edges_of_whole at test slice lifetimes =
    cond (list_any (number_passes test) lifetimes) (record { input = at; kind = kind_of_whole slice } ∷ []) []

-- that of a struct for its argument of a number, where this passes
abbrev pub argument_edges : InputPlace → (ℕ → Bool) → Bool → ℕ × MaybeStatic ℕ → List ReportEdge
argument_edges at test optional arg = cond (number_passes test arg.1) (record { input = at; kind = kind.Struct arg.0 optional } ∷ []) []

-- those for its arguments, of which the first has the number n
abbrev pub edges_of_struct : InputPlace → (ℕ → Bool) → Bool → ℕ → List (MaybeStatic ℕ) → List ReportEdge
edges_of_struct at test optional n args = flat_map (argument_edges at test optional) (enumerate_from n args)

-- those of a part
abbrev pub part_edges : InputPlace → (ℕ → Bool) → Bool → InputPart → List ReportEdge
part_edges at test optional (part.Carrier slice own element given) = edges_of_whole at test slice (carried_by own element given.now)
part_edges at test optional (part.Struct id args) = edges_of_struct at test optional 0 args.now

-- ---- by inputs

-- the edges of an input in its place
abbrev pub edges_at : InputPlace → (ℕ → Bool) → CallableInput → List ReportEdge
edges_at at test input =
    map (λ edge. record { input = at; kind = edge_kind input.slice edge }) (shallow_edges test input.optional input.skeleton)

-- of a receiver, where there is one
abbrev pub receiver_edges : (ℕ → Bool) → ParamSelf → List ReportEdge
receiver_edges test receiver = edges_at place.Receiver test (receiver_input receiver.ty)

-- of a parameter by its number
abbrev pub param_edges : (ℕ → Bool) → ℕ × Param → List ReportEdge
param_edges test numbered = edges_at (place.Param numbered.0) test (param_input numbered.1)

-- of parameters, of which the first has the number n
abbrev pub params_edges : (ℕ → Bool) → ℕ → List Param → List ReportEdge
params_edges test n params = flat_map (param_edges test) (enumerate_from n params)

-- of all inputs of a method
abbrev pub method_edges : (ℕ → Bool) → Method → List ReportEdge
method_edges test m = where_any (receiver_edges test) m.param_self ++ params_edges test 0 m.params
