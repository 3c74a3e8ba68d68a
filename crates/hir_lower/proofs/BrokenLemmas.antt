-- What declarations are answered with is what the rules say.
use Rattle.std.proofs.Common.{◌≡◌, inl, inr, List, [], ◌∷◌, Result, Ok, Err, refl, sym, subst}
use Rattle.std.specs.Prelude.{◌≢◌}
use Rattle.std.specs.List.{Contains}
use Rattle.bridge_decl.specs.declared.modules.Module.{Module}
use Rattle.bridge_places.specs.Entries.{IsCatalog}
use Rattle.bridge_telling.proofs.ExactLemmas.{in_first, in_none}
use Rattle.hir_backends.specs.Backend.{Backend}
use Rattle.hir_config.specs.declared.config.LoweringConfig.{LoweringConfig}
use Rattle.hir_context.specs.declared.context.TypeContext.{TypeContext}
use Rattle.hir_lowering.specs.Interface.{AreNamed, Interface}
use Rattle.hir_lowering.specs.Lowered.{lowering_reports}
use Rattle.hir_lowering.specs.Walks.{interface_of}
use Rattle.hir_naming.specs.Meaning.{naming_of}
use Rattle.hir_nesting_rules.proofs.NestingLemmas.{nesting_exactly}
use Rattle.hir_reports.specs.declared.report.LoweringReport.{LoweringReport}
use Rattle.hir_rules.proofs.WalkLemmas.{lowering_told}
use Rattle.hir_rules.specs.Broken.{IsBroken, LoweringBreaks}
use Rattle.hir_usage_notes.specs.declared.definitions.LoweredDefinitions.{LoweredDefinitions}
use Rattle.hir_lower.specs.Acceptance.{AreAccepted}
use Rattle.hir_lower.specs.Answers.{AnswersDeclarations, AreToldOf}
use Rattle.hir_lower.specs.Refusals.{IsRefusal}
use Rattle.hir_lower.specs.declared.fault.LowerFault.{LowerFault}
use Rattle.hir_lower.specs.declared.fault.LowerFault.TheVariants as fault
use Rattle.hir_lower.specs.inside.Contexts.{AnswersContext}

first_of : (rs : List LoweringReport) → rs ≢ [] → (r : LoweringReport) × Contains rs r
first_of [] some = absurd (some refl)
first_of (r ∷ rs) some = (r, in_first r rs)

module _ (it : Interface) (is : IsCatalog it.modules it.catalog) where
  -- where nothing is told of modules and items, nothing is broken in them
  none_breaks : lowering_reports it ≡ [] → (r : LoweringReport) → ¬ (LoweringBreaks it r)
  none_breaks none r h = let one = (lowering_told it is).every r h in in_none one.0 (subst (λ rs. Contains rs one.0) none one.1.0)

  module _ (named : AreNamed it.modules it.names) where
    -- what is refused is told of
    pub refused_so : (told : List LoweringReport) → IsRefusal it told → AreToldOf it told
    refused_so told (IsRefusal.OfItems some same) = record {
      some = some;
      broken = record {
        each = λ r h. inl ((lowering_told it is).each r (subst (λ rs. Contains rs r) same h));
        every = λ r h. elim h [
          | inl l ↦ (let one = (lowering_told it is).every r l in (one.0, (subst (λ rs. Contains rs one.0) (sym same) one.1.0, one.1.1)))
          | inr n ↦ (let one = first_of told some in absurd (n.0 one.0 ((lowering_told it is).each one.0 (subst (λ rs. Contains rs one.0) same one.1))))
        ];
      };
      ordered = IsRefusal.OfItems some same;
    }
    refused_so told (IsRefusal.OfNesting d some none all tells) =
        let exact = nesting_exactly it d tells.faults is named all tells.are in
        record {
          some = some;
          broken = record {
            each = λ r h. inr ((λ x l. none_breaks none x l), (exact r).0 (subst (λ rs. Contains rs r) tells.told h));
            every = λ r h. elim h [
              | inl l ↦ absurd (none_breaks none r l)
              | inr n ↦ (r, (subst (λ rs. Contains rs r) (sym tells.told) ((exact r).1 n.1), refl))
            ];
          };
          ordered = IsRefusal.OfNesting d some none all tells;
        }

    -- in what is accepted nothing is broken
    pub accepted_so : (d : LoweredDefinitions) → AreAccepted it d → (r : LoweringReport) → ¬ (IsBroken it r)
    accepted_so d accepted r h = elim h [
      | inl l ↦ none_breaks accepted.untold r l
      | inr n ↦ (let exact = nesting_exactly it d accepted.quiet.faults is named accepted.all accepted.quiet.are in in_none r (subst (λ rs. Contains rs r) (sym accepted.quiet.told) ((exact r).1 n.1)))
    ]

-- so the answer
pub answered_so : (modules : List Module) (backend : Backend) (config : LoweringConfig) → AreNamed modules (naming_of modules) → (result : Result TypeContext LowerFault)
    → AnswersContext modules backend config (naming_of modules) result → AnswersDeclarations modules backend config result
answered_so modules backend config named (Ok tcx) answer =
    let it = interface_of modules backend config (naming_of modules) answer.catalog in
    record {
      catalog = answer.catalog;
      is = answer.is;
      holds = record { unbroken = accepted_so it answer.is named answer.holds.lowered answer.holds.accepted; stand = answer.holds };
    }
answered_so modules backend config named (Err (fault.Refused told)) answer =
    let it = interface_of modules backend config (naming_of modules) answer.catalog in
    record { catalog = answer.catalog; is = answer.is; holds = refused_so it answer.is named told.items answer.holds }
answered_so modules backend config named (Err fault.NoMemory) answer = tt
