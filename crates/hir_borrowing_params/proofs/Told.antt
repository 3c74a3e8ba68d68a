-- What is told of carriers and structs is told of their skeletons.
use Rattle.std.proofs.Common.{◌≡◌, ℕ, ◌+◌, ◌++◌, Bool, true, false, cond, map, List, [], ◌∷◌, Option, Some, None, option_map, append-nil, ap, subst, sym, refl, ◌∙◌}
use Rattle.std.specs.Prelude.{IsSome, MatchBool, MatchOption}
use Rattle.std.specs.List.{cons_option, enumerate_from, filter_map}
use Rattle.std.specs.BTreeMap.{BTreeMap}
use Rattle.hir_life.specs.Environment.{Environment}
use Rattle.hir_life.specs.declared.maybe_static.MaybeStatic.{MaybeStatic}
use Rattle.hir_ids.specs.declared.ids.TypeId.{TypeId}
use Rattle.hir_context.specs.Lookups.{environment_at}
use Rattle.hir_context.specs.declared.parts.Definitions.{Definitions}
use Rattle.hir_skeleton.specs.Edges.{Position, ShallowEdge, edge_at}
use Rattle.hir_skeleton.specs.Leaves.{number_passes}
use Rattle.hir_skeleton.specs.Lowered.{carrier_of}
use Rattle.hir_skeleton.specs.Skeletons.{Struct}
use Rattle.hir_borrowing_params.specs.Answering.{IsCarrier, IsUnheld, IsHeld, TellsParam, TellsStruct, counts_for}
use Rattle.hir_borrowing_params.specs.Edges.{HeldFor, NamedEdge, OfStruct, held_for, held_under, holding, info_under, input_edges, is_in, edge_kind_of, named_edge}
use Rattle.hir_borrowing_params.specs.declared.edges.BorrowedLifetimeInfo.{BorrowedLifetimeInfo}
use Rattle.hir_borrowing_params.specs.declared.infos.StructBorrowInfo.{StructBorrowInfo}
use Rattle.hir_borrowing_params.specs.declared.infos.ParamBorrowInfo.{ParamBorrowInfo}
use Rattle.hir_borrowing_params.specs.declared.infos.ParamBorrowInfo.TheVariants as info
use Rattle.hir_borrowing_params.specs.inside.Candidates.{IsKeyed, struct_edges, whole_edges}
use Rattle.hir_borrowing_params.specs.inside.Telling.{carrier_told}
use Rattle.hir_borrowing_params.proofs.Kinding.{carrier_edges, position_edges}

-- what is held carries something
carries : (under : ℕ → Option HeldFor) (is_slice : Bool) (ls : List (MaybeStatic ℕ)) → IsHeld under (whole_edges is_slice ls) → IsCarrier (carrier_of ls)
carries under is_slice [] is = absurd (is.some refl)
carries under is_slice (l ∷ ls) is = tt

told_by : (defs : Definitions) (under : ℕ → Option HeldFor) (is_slice borrowed : Bool) (ls : List (MaybeStatic ℕ)) → MatchBool borrowed (IsHeld under (whole_edges is_slice ls)) (IsUnheld under (whole_edges is_slice ls))
    → TellsParam defs under is_slice (carrier_of ls) (whole_edges is_slice ls) (carrier_told is_slice borrowed)
told_by defs under true true ls is = (is, carries under true ls is, refl)
told_by defs under true false ls is = (is, refl)
told_by defs under false true ls is = (is, carries under false ls is, refl)
told_by defs under false false ls is = (is, refl)

pub tells_carrier : (defs : Definitions) (under : ℕ → Option HeldFor) (is_slice optional borrowed : Bool) (ls : List (MaybeStatic ℕ)) (told : ParamBorrowInfo) → told ≡ carrier_told is_slice borrowed
    → MatchBool borrowed (IsHeld under (whole_edges is_slice ls)) (IsUnheld under (whole_edges is_slice ls))
    → TellsParam defs under is_slice (carrier_of ls) (input_edges defs is_slice optional (carrier_of ls)) told
tells_carrier defs under is_slice optional borrowed ls told same is =
    subst (λ e. TellsParam defs under is_slice (carrier_of ls) e told) (carrier_edges defs is_slice optional ls)
    (subst (TellsParam defs under is_slice (carrier_of ls) (whole_edges is_slice ls)) (sym same) (told_by defs under is_slice borrowed ls is))

module _ (defs : Definitions) (under : ℕ → Option HeldFor) (optional : Bool) (id : TypeId) (env : Environment) (args : List (MaybeStatic ℕ)) (there : environment_at defs id ≡ Some env) where
  pub tells_free : IsUnheld under (struct_edges env optional args) → TellsParam defs under false (Struct id args) (input_edges defs false optional (Struct id args)) info.NotBorrowed
  tells_free free = (subst (IsUnheld under) (position_edges defs false optional id env args there) free, refl)

  pub tells_held : (told : StructBorrowInfo) → IsHeld under (struct_edges env optional args) → TellsStruct env (counts_for under) args told
      → TellsParam defs under false (Struct id args) (input_edges defs false optional (Struct id args)) (info.Struct told)
  tells_held told is tells = (subst (IsHeld under) (position_edges defs false optional id env args there) is, (env, there, tells))

  pub tells_some : (o : Option StructBorrowInfo) (told : StructBorrowInfo) → o ≡ Some told
      → MatchOption o (IsUnheld under (struct_edges env optional args)) (λ told. IsHeld under (struct_edges env optional args) × TellsStruct env (counts_for under) args told)
      → TellsParam defs under false (Struct id args) (input_edges defs false optional (Struct id args)) (info.Struct told)
  tells_some o told is tells =
      let both = subst (λ o. MatchOption o (IsUnheld under (struct_edges env optional args)) (λ told. IsHeld under (struct_edges env optional args) × TellsStruct env (counts_for under) args told)) is tells in
      tells_held told both.0 both.1

  pub tells_none : (o : Option StructBorrowInfo) → o ≡ None
      → MatchOption o (IsUnheld under (struct_edges env optional args)) (λ told. IsHeld under (struct_edges env optional args) × TellsStruct env (counts_for under) args told)
      → TellsParam defs under false (Struct id args) (input_edges defs false optional (Struct id args)) info.NotBorrowed
  tells_none o is tells = tells_free (subst (λ o. MatchOption o (IsUnheld under (struct_edges env optional args)) (λ told. IsHeld under (struct_edges env optional args) × TellsStruct env (counts_for under) args told)) is tells)

-- ---- a struct that isn't there has no edges

module _ (defs : Definitions) (is_slice optional : Bool) (id : TypeId) (nowhere : environment_at defs id ≡ None) where
  none_by : (b : Bool) (n : ℕ) (others : List (ShallowEdge TypeId)) → filter_map (edge_kind_of defs is_slice) others ≡ [] → filter_map (edge_kind_of defs is_slice) (cons_option (cond b (Some (Position id n optional)) None) others) ≡ []
  none_by true n others rest = ap (λ o. cons_option (option_map (λ e. OfStruct e n optional) o) (filter_map (edge_kind_of defs is_slice) others)) nowhere ∙ rest
  none_by false n others rest = rest

  none_at : (test : ℕ → Bool) (n : ℕ) (args : List (MaybeStatic ℕ)) → filter_map (edge_kind_of defs is_slice) (filter_map (edge_at test optional id) (enumerate_from n args)) ≡ []
  none_at test n [] = refl
  none_at test n (l ∷ ls) = none_by (number_passes test l) n (filter_map (edge_at test optional id) (enumerate_from (n + 1) ls)) (none_at test (n + 1) ls)

  pub unknown_free : (under : ℕ → Option HeldFor) (args : List (MaybeStatic ℕ)) → IsUnheld under (input_edges defs is_slice optional (Struct id args))
  unknown_free under args t h here = none_at (is_in h.longer) 0 args

  pub unknown_same : (name : List ℕ) (args : List (MaybeStatic ℕ)) (o : Option HeldFor) → o ≡ option_map (holding name (input_edges defs is_slice optional (Struct id args))) o
  unknown_same name args None = refl
  unknown_same name args (Some h) =
      let none : h.edges ++ map (named_edge name) (input_edges defs is_slice optional (Struct id args) (is_in h.longer)) ≡ h.edges =
      ap (λ ks. h.edges ++ map (named_edge name) ks) (none_at (is_in h.longer) 0 args) ∙ append-nil h.edges in
      ap (λ (es : List NamedEdge). Some (record { longer = h.longer; edges = es })) (sym none)

-- ---- the keys stay

is_some_map : (f : HeldFor → HeldFor) (o : Option BorrowedLifetimeInfo) (p : Option BorrowedLifetimeInfo) → option_map held_for o ≡ option_map f (option_map held_for p) → IsSome o → IsSome p
is_some_map f None p e some = absurd cc
is_some_map f (Some x) None e some = absurd cc
is_some_map f (Some x) (Some y) e some = refl

pub keyed_still : (keys : List ℕ) (old new : BTreeMap ℕ BorrowedLifetimeInfo) (f : HeldFor → HeldFor) → ((t : ℕ) → held_under new t ≡ option_map f (held_under old t)) → IsKeyed keys old → IsKeyed keys new
keyed_still keys old new f is keyed = record { apart = keyed.apart; all = λ t some. keyed.all t (is_some_map f (info_under new t) (info_under old t) (is t) some) }

same_map : (o : Option HeldFor) → o ≡ option_map (λ h. h) o
same_map None = refl
same_map (Some h) = refl

pub keyed_same : (keys : List ℕ) (old new : BTreeMap ℕ BorrowedLifetimeInfo) → ((t : ℕ) → held_under new t ≡ held_under old t) → IsKeyed keys old → IsKeyed keys new
keyed_same keys old new is keyed = keyed_still keys old new (λ h. h) (λ t. is t ∙ same_map (held_under old t)) keyed
