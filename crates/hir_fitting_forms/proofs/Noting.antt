-- Noting uses that fit keeps what is known of uses fitting.
use Rattle.std.proofs.Common.{◌≡◌, ℕ, List, [], ◌∷◌, ◌++◌, Option, Some, None, refl, sym, subst}
use Rattle.std.specs.Prelude.{option_map, replicate, slice_get}
use Rattle.std.specs.List.{All, flat_map}
use Rattle.std.proofs.lemmas.Grind.{flat_map-append}
use Rattle.std.proofs.lemmas.List.Elements.{All-append, All-nil, All-replicate, All-set}
use Rattle.bridge_order.proofs.OrderLemmas.{all_got}
use Rattle.hir_definitions.specs.Usage.{unused}
use Rattle.hir_definitions.specs.declared.usage.ResultUsage.{ResultUsage}
use Rattle.hir_definitions.specs.declared.usage.TypingUseInfo.{TypingUseInfo}
use Rattle.hir_elide.proofs.BelowLemmas.{Each}
use Rattle.hir_fitting.specs.Fitting.{Fits}
use Rattle.hir_fitting.specs.Parts.{PartFits, free}
use Rattle.hir_fitting.specs.declared.census.Census.{Census}
use Rattle.hir_ids.specs.declared.ids.TypeId.{TypeId}
use Rattle.hir_ids.specs.declared.ids.TypeId.TheVariants as type
use Rattle.hir_mentions.specs.Definitions.{result_mentions, usage_mentions}
use Rattle.hir_usage.specs.Tables.{Usages, noted, noted_at, put_at, unused_of, with_use, with_use_at}
use Rattle.hir_usage.specs.Uses.{Used, Sliced, Optioned, InResult, used_id}
use Rattle.hir_fitting_forms.specs.Uses.{InfosFit, UsagesFit, UseFits}

module _ (census : Census) where
  abbrev InfoFits : TypingUseInfo → Type 0
  InfoFits info = PartFits census (free (usage_mentions info))

  -- one use more
  result_added : (results : List ResultUsage) (result : ResultUsage) → All (Fits census None) (flat_map result_mentions results) → All (Fits census None) (result_mentions result)
      → All (Fits census None) (flat_map result_mentions (results ++ result ∷ []))
  result_added results result h k =
      subst (All (Fits census None)) (sym (flat_map-append result_mentions results (result ∷ [])))
      (All-append (Fits census None) (flat_map result_mentions results) (result_mentions result ++ []) h (All-append (Fits census None) (result_mentions result) [] k (All-nil (Fits census None))))

  use_added : (u : Used) (info : TypingUseInfo) → UseFits census u → InfoFits info → InfoFits (with_use u info)
  use_added (Sliced id) info h k = k
  use_added (Optioned id) info h k = k
  use_added (InResult id result) info h k = result_added info.results result k h

  put_fits : (place : ℕ) (u : Used) (infos : List TypingUseInfo) → UseFits census u → InfosFit census infos → (o : Option TypingUseInfo) → slice_get infos place ≡ o
      → InfosFit census (put_at place infos (option_map (with_use u) o))
  put_fits place u infos h all None is = all
  put_fits place u infos h all (Some info) is = All-set InfoFits infos place (with_use u info) (use_added u info h (all_got InfoFits infos place info all is)) all

  at_place : (place : ℕ) (u : Used) (infos : List TypingUseInfo) → UseFits census u → InfosFit census infos → InfosFit census (with_use_at place u infos)
  at_place place u infos h all = put_fits place u infos h all (slice_get infos place) refl

  at_id : (id : TypeId) (u : Used) (t : Usages) → UseFits census u → UsagesFit census t → UsagesFit census (noted_at id u t)
  at_id (type.Struct place) u t h fit = record { structs = at_place place u t.structs h fit.structs; out_structs = fit.out_structs; opaques = fit.opaques; enums = fit.enums }
  at_id (type.OutStruct place) u t h fit = record { structs = fit.structs; out_structs = at_place place u t.out_structs h fit.out_structs; opaques = fit.opaques; enums = fit.enums }
  at_id (type.Opaque place) u t h fit = record { structs = fit.structs; out_structs = fit.out_structs; opaques = at_place place u t.opaques h fit.opaques; enums = fit.enums }
  at_id (type.Enum place) u t h fit = record { structs = fit.structs; out_structs = fit.out_structs; opaques = fit.opaques; enums = at_place place u t.enums h fit.enums }

  pub noted_fit : (us : List Used) (t : Usages) → Each (UseFits census) us → UsagesFit census t → UsagesFit census (noted us t)
  noted_fit [] t h fit = fit
  noted_fit (u ∷ us) t h fit = noted_fit us (noted_at (used_id u) u t) h.1 (at_id (used_id u) u t h.0 fit)

  none_fit : (n : ℕ) → InfosFit census (replicate n unused)
  none_fit n = All-replicate InfoFits n unused (All-nil (Fits census None))

  pub unused_fit : (structs out_structs opaques enums : ℕ) → UsagesFit census (unused_of structs out_structs opaques enums)
  unused_fit structs out_structs opaques enums = record { structs = none_fit structs; out_structs = none_fit out_structs; opaques = none_fit opaques; enums = none_fit enums }
