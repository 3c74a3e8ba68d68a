-- Edges are printed with the names of their inputs.
use Rattle.std.proofs.Common.{◌≡◌, ℕ, suc, ◌+◌, Bool, true, false, List, [], ◌∷◌, ◌++◌, map, Option, Some, None, refl, ap, ◌∙◌, arith}
use Rattle.std.specs.Bool.{⊤}
use Rattle.std.specs.Prelude.{slice_get, is_some}
use Rattle.std.specs.List.{enumerate_from, flat_map}
use Rattle.std.proofs.lemmas.List.{map-append}
use Rattle.hir_definitions.specs.declared.methods.Method.{Method}
use Rattle.hir_definitions.specs.declared.methods.Param.{Param}
use Rattle.hir_definitions.specs.declared.methods.ParamSelf.{ParamSelf}
use Rattle.hir_mentions.specs.Mentions.{where_any}
use Rattle.hir_skeleton.specs.Edges.{ShallowEdge, Whole, Position, shallow_edges}
use Rattle.bridge_report.specs.Borrowings.{edge_kind, edges_of_input, input_place}
use Rattle.bridge_report.specs.Callables.{CallableInput}
use Rattle.bridge_report.specs.InContext.{callable_inputs, param_input, receiver_input}
use Rattle.bridge_report.specs.Page.{edge_text, edge_texts}
use Rattle.bridge_report.specs.declared.report.InputPlace.{InputPlace}
use Rattle.bridge_report.specs.declared.report.ReportEdge.{ReportEdge}
use Rattle.bridge_page.specs.inside.Printed.{edge_kind_text, place_name, report_edge_text}

kind_told : (name : List ℕ) (slice : Bool) (edge : ShallowEdge (Unit {0})) → edge_kind_text name (edge_kind slice edge) ≡ edge_text name slice edge
kind_told name true Whole = refl
kind_told name false Whole = refl
kind_told name slice (Position key d optional) = refl

-- the names of inputs by their numbers, from k on
abbrev Named : (ℕ → List ℕ) → ℕ → List CallableInput → Type 0
Named name_of k [] = ⊤
Named name_of k (input ∷ inputs) = (name_of k ≡ input.name) × Named name_of (k + 1) inputs

params_named : (name_of : ℕ → List ℕ) (k : ℕ) (params : List Param) → ((i e : ℕ) (p : Param) → k + i ≡ e → slice_get params i ≡ Some p → name_of e ≡ p.name)
    → Named name_of k (map param_input params)
params_named name_of k [] each = tt
params_named name_of k (p ∷ params) each =
    (each 0 k p (omega arith) refl, params_named name_of (k + 1) params (λ i e q is at. each (suc i) e q (omega arith) at))

inputs_named : (receiver : Option ParamSelf) (params : List Param)
    → Named (λ n. place_name params (input_place (is_some receiver) n)) 0 (where_any (λ receiver. receiver_input receiver.ty ∷ []) receiver ++ map param_input params)
inputs_named None params =
    params_named (λ n. place_name params (input_place false n)) 0 params
    (λ i e p is at. let same : e ≡ i = omega arith in ap (λ n. place_name params (input_place false n)) same ∙ ap (where_any (λ (param : Param). param.name)) at)
inputs_named (Some receiver) params = (
  refl,
  params_named (λ n. place_name params (input_place true n)) 1 params
      (λ i e p is at. let same : e ≡ suc i = omega arith in ap (λ n. place_name params (input_place true n)) same ∙ ap (where_any (λ (param : Param). param.name)) at),
)

module _ (m : Method) where
  -- the edges of an input by its place
  abbrev edge_of : InputPlace → Bool → ShallowEdge (Unit {0}) → ReportEdge
  edge_of place slice edge = record { input = place; kind = edge_kind slice edge }

  one_told : (place : InputPlace) (name : List ℕ) (slice : Bool) (edges : List (ShallowEdge (Unit {0}))) → place_name m.params place ≡ name
      → map (report_edge_text m) (map (edge_of place slice) edges) ≡ map (edge_text name slice) edges
  one_told place name slice [] is = refl
  one_told place name slice (edge ∷ edges) is =
      ap (λ text. text ∷ map (report_edge_text m) (map (edge_of place slice) edges)) (ap (λ name. edge_kind_text name (edge_kind slice edge)) is ∙ kind_told name slice edge)
      ∙ ap (λ texts. edge_text name slice edge ∷ texts) (one_told place name slice edges is)

  each_told : (receiver : Bool) (test : ℕ → Bool) (k : ℕ) (inputs : List CallableInput) → Named (λ n. place_name m.params (input_place receiver n)) k inputs
      → map (report_edge_text m) (flat_map (edges_of_input receiver test) (enumerate_from k inputs)) ≡ flat_map (edge_texts test) inputs
  each_told receiver test k [] all = refl
  each_told receiver test k (input ∷ inputs) all =
      map-append (report_edge_text m) (edges_of_input receiver test (k, input)) (flat_map (edges_of_input receiver test) (enumerate_from (k + 1) inputs))
      ∙ ap (λ texts. texts ++ map (report_edge_text m) (flat_map (edges_of_input receiver test) (enumerate_from (k + 1) inputs)))
      (one_told (input_place receiver k) input.name input.slice (shallow_edges test input.optional input.skeleton) all.0)
      ∙ ap (λ texts. edge_texts test input ++ texts) (each_told receiver test (k + 1) inputs all.1)

  -- the edges that are held
  pub edges_told : (test : ℕ → Bool)
      → map (report_edge_text m) (flat_map (edges_of_input (is_some m.param_self) test) (enumerate_from 0 (callable_inputs m))) ≡ flat_map (edge_texts test) (callable_inputs m)
  edges_told test = each_told (is_some m.param_self) test 0 (callable_inputs m) (inputs_named m.param_self m.params)
