-- The edges that the code adds are those of inputs.
use Rattle.std.proofs.Common.{◌≡◌, ◌++◌, ◌+◌, ℕ, suc, List, [], ◌∷◌, Bool, true, false, cond, map, Option, Some, None, refl, ap, ◌∙◌, arith}
use Rattle.std.specs.Prelude.{is_some}
use Rattle.std.specs.List.{cons_option, enumerate_from, filter_map, flat_map, list_any}
use Rattle.hir_definitions.specs.declared.methods.Method.{Method}
use Rattle.hir_definitions.specs.declared.methods.Param.{Param}
use Rattle.hir_definitions.specs.declared.methods.ParamSelf.{ParamSelf}
use Rattle.hir_ids.specs.declared.ids.TypeId.{TypeId}
use Rattle.hir_life.specs.declared.maybe_static.MaybeStatic.{MaybeStatic}
use Rattle.hir_mentions.specs.Mentions.{where_any}
use Rattle.hir_parts.specs.Parts.{carried_by, input_skeleton, part_is_slice}
use Rattle.hir_parts.specs.declared.parts.InputPart.{InputPart}
use Rattle.hir_parts.specs.declared.parts.InputPart.TheVariants as part
use Rattle.hir_skeleton.specs.Edges.{ShallowEdge, Whole, Position, edge_at, shallow_edges}
use Rattle.hir_skeleton.specs.Leaves.{number_passes}
use Rattle.hir_skeleton.specs.Lowered.{carrier_of}
use Rattle.hir_skeleton.specs.Skeletons.{Skeleton}
use Rattle.bridge_report.specs.Borrowings.{edge_kind, edges_of_input, input_place, kind_of_whole}
use Rattle.bridge_report.specs.Callables.{CallableInput}
use Rattle.bridge_report.specs.InContext.{callable_inputs, outline, param_input, receiver_input}
use Rattle.bridge_report.specs.declared.report.InputPlace.{InputPlace}
use Rattle.bridge_report.specs.declared.report.InputPlace.TheVariants as place
use Rattle.bridge_report.specs.declared.report.ReportEdge.{ReportEdge}
use Rattle.bridge_report.specs.declared.report.ReportEdgeKind.TheVariants as kind
use Rattle.bridge_borrow.specs.inside.Edges.{edges_at, method_edges, param_edges, params_edges, part_edges, receiver_edges, edges_of_struct, edges_of_whole}

-- ---- an input by its part

module _ (at : InputPlace) (slice : Bool) where
  abbrev told : ShallowEdge (Unit {0}) → ReportEdge
  told edge = record { input = at; kind = edge_kind slice edge }

  whole_by : (b : Bool) → cond b (record { input = at; kind = kind_of_whole slice } ∷ []) [] ≡ map told (cond b (Whole ∷ []) [])
  whole_by true = refl
  whole_by false = refl

  carrier_told : (test : ℕ → Bool) (optional : Bool) (lifetimes : List (MaybeStatic ℕ))
      → edges_of_whole at test slice lifetimes ≡ map told (shallow_edges test optional (outline (carrier_of {K = TypeId} lifetimes)))
  carrier_told test optional [] = refl
  carrier_told test optional (l ∷ ls) = whole_by (list_any (number_passes test) (l ∷ ls))

  argument_by : (b : Bool) (n : ℕ) (optional : Bool) (ones : List ReportEdge) (others : List (ShallowEdge (Unit {0}))) → ones ≡ map told others
      → cond b (record { input = at; kind = kind.Struct n optional } ∷ []) [] ++ ones ≡ map told (cons_option (cond b (Some (Position tt n optional)) None) others)
  argument_by true n optional ones others rest = ap (λ es. record { input = at; kind = kind.Struct n optional } ∷ es) rest
  argument_by false n optional ones others rest = rest

  struct_told : (test : ℕ → Bool) (optional : Bool) (n : ℕ) (args : List (MaybeStatic ℕ))
      → edges_of_struct at test optional n args ≡ map told (filter_map (edge_at test optional tt) (enumerate_from n args))
  struct_told test optional n [] = refl
  struct_told test optional n (l ∷ ls) = argument_by (number_passes test l) n optional _ _ (struct_told test optional (n + 1) ls)

-- an input that is like this part
abbrev input_like : List ℕ → Bool → InputPart → CallableInput
input_like name optional p = record { name = name; skeleton = outline (input_skeleton p); optional = optional; slice = part_is_slice p }

part_told : (at : InputPlace) (test : ℕ → Bool) (name : List ℕ) (optional : Bool) (p : InputPart)
    → part_edges at test optional p ≡ edges_at at test (input_like name optional p)
part_told at test name optional (part.Carrier slice own element given) = carrier_told at slice test optional (carried_by own element given.now)
part_told at test name optional (part.Struct id args) = struct_told at false test optional 0 args.now

-- the edges of an input are those of its part
pub edges_by_part : (at : InputPlace) (test : ℕ → Bool) (input : CallableInput) (s : Skeleton TypeId) (p : InputPart)
    → input_skeleton p ≡ s → part_is_slice p ≡ input.slice → outline s ≡ input.skeleton → part_edges at test input.optional p ≡ edges_at at test input
edges_by_part at test input s p is slice shown =
    part_told at test input.name input.optional p
    ∙ ap (λ k. edges_at at test (record { name = input.name; skeleton = k; optional = input.optional; slice = part_is_slice p })) (ap outline is ∙ shown)
    ∙ ap (λ b. edges_at at test (record { name = input.name; skeleton = input.skeleton; optional = input.optional; slice = b })) slice

-- ---- all inputs

module _ (test : ℕ → Bool) where
  params_first : (n : ℕ) (params : List Param) → params_edges test n params ≡ flat_map (edges_of_input false test) (enumerate_from n (map param_input params))
  params_first n [] = refl
  params_first n (p ∷ ps) = ap (λ es. param_edges test (n, p) ++ es) (params_first (n + 1) ps)

  later_place : (n : ℕ) → place.Param n ≡ input_place true (n + 1)
  later_place n = let e : suc n ≡ n + 1 = omega arith in ap (input_place true) e

  params_later : (n : ℕ) (params : List Param) → params_edges test n params ≡ flat_map (edges_of_input true test) (enumerate_from (n + 1) (map param_input params))
  params_later n [] = refl
  params_later n (p ∷ ps) =
      ap (λ es. param_edges test (n, p) ++ es) (params_later (n + 1) ps)
      ∙ ap (λ at. edges_at at test (param_input p) ++ flat_map (edges_of_input true test) (enumerate_from (n + 1 + 1) (map param_input ps))) (later_place n)

  inputs_by : (receiver : Option ParamSelf) (params : List Param)
      → where_any (receiver_edges test) receiver ++ params_edges test 0 params
      ≡ flat_map (edges_of_input (is_some receiver) test) (enumerate_from 0 (where_any (λ receiver. receiver_input receiver.ty ∷ []) receiver ++ map param_input params))
  inputs_by None params = params_first 0 params
  inputs_by (Some receiver) params = ap (λ es. receiver_edges test receiver ++ es) (params_later 0 params)

  pub method_told : (m : Method) → method_edges test m ≡ flat_map (edges_of_input (is_some m.param_self) test) (enumerate_from 0 (callable_inputs m))
  method_told m = inputs_by m.param_self m.params
