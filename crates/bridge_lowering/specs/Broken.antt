-- What is broken in declarations, in all phases: while they are lowered and in how their structs nest (`IsBroken` of `hir_rules`); and, where
-- nothing is, by the types, the traits and the functions of the context that stands for them (`LoweredContextBreaks` of `bridge_validation`).
use Rattle.std.specs.Prelude.{◌⊎◌, List}
use Rattle.bridge_decl.specs.declared.modules.Module.{Module}
use Rattle.bridge_validation.specs.LoweredContextBreaks.{LoweredContextBreaks}
use Rattle.hir_backends.specs.Backend.{Backend}
use Rattle.hir_config.specs.declared.config.LoweringConfig.{LoweringConfig}
use Rattle.hir_context.specs.declared.parts.Definitions.{Definitions}
use Rattle.hir_lower.specs.Acceptance.{HoldsByCatalog}
use Rattle.hir_lower.specs.Contexts.{StandForItems}
use Rattle.hir_lowering.specs.Interface.{Interface}
use Rattle.hir_naming.specs.Meaning.{naming_of}
use Rattle.hir_reports.specs.declared.report.LoweringReport.{LoweringReport}
use Rattle.hir_rules.specs.Broken.{IsBroken}

-- a type, a trait or a function of the definitions that stand for the declarations breaks a rule there: there is one context that does
pub record LoweredBreak (it : Interface) (report : LoweringReport) : Type 0 where
  pub definitions : Definitions
  pub stand : StandForItems it definitions
  pub breaks : LoweredContextBreaks it.backend.supports.callback_returns_must_be_fallible definitions report

-- a rule is broken there, with these arguments
abbrev pub BreaksRule : Interface → LoweringReport → Type 0
BreaksRule it report = IsBroken it report ⊎ (((r : LoweringReport) → ¬ (IsBroken it r)) × LoweredBreak it report)

-- something holds of declarations, for a backend and by what is allowed, where paths mean what they name, and each item is what the
-- catalog of the modules says: they have one
abbrev pub HoldsOf : List Module → Backend → LoweringConfig → (Interface → Type 0) → Type 0
HoldsOf modules backend config P = HoldsByCatalog modules backend config (naming_of modules) P

-- declarations break a rule there, with these arguments
abbrev pub Break : List Module → Backend → LoweringConfig → LoweringReport → Type 0
Break modules backend config report = HoldsOf modules backend config (λ it. BreaksRule it report)

-- they break none
abbrev pub BreakNothing : List Module → Backend → LoweringConfig → Type 0
BreakNothing modules backend config = (report : LoweringReport) → ¬ (Break modules backend config report)
