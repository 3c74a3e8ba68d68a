-- What a condition comes to for a backend.
use Rattle.std.specs.Prelude.{ℕ, List, [], ◌∷◌, map, Bool, true, false, not, if◌then◌else◌, Option, Some, None, Result, Ok, Err}
use Rattle.bridge_decl.specs.declared.attrs.DiplomatBackendAttrCfg.{DiplomatBackendAttrCfg, fold-DiplomatBackendAttrCfg}
use Rattle.bridge_decl.specs.declared.attrs.DiplomatBackendAttrCfg.TheOpen.{DiplomatBackendAttrCfg-F}
use Rattle.hir_reports.specs.declared.report.LoweringError.{LoweringError}
use Rattle.hir_reports.specs.declared.rule.Rule.{Rule}
use Rattle.hir_reports.specs.declared.rule.Rule.TheVariants as rule
use Rattle.hir_reports.specs.Texts.{plain_error}
use Rattle.hir_backends.specs.declared.conditions.CfgFault.{CfgFault}
use Rattle.hir_backends.specs.declared.conditions.CfgFault.TheVariants.{AutoMisplaced, UnknownPair}
use Rattle.hir_backends.specs.declared.conditions.Met.{Met}
use Rattle.hir_backends.specs.declared.conditions.Met.TheVariants.{Holds, Fails, Faulty}
use Rattle.hir_backends.specs.Backend.{Backend}

-- `not`: the opposite
abbrev pub inverted : Met → Met
inverted (Holds by_auto) = Fails
inverted Fails = Holds false
inverted (Faulty fault) = Faulty fault

-- of a list all parts have to be met, or one: what is met leaves open what the list comes to where all have to be, and what isn't
-- where one has to be
abbrev pub leaves_open : Bool → Met → Bool
leaves_open needs_all (Holds by_auto) = needs_all
leaves_open needs_all Fails = not needs_all
leaves_open needs_all (Faulty fault) = false

-- a list that no part settles: the empty `all` is met, and the empty `any` isn't
abbrev pub left_open : Bool → Met
left_open true = Holds false
left_open false = Fails

-- `all` and `any`: the first part that doesn't leave it open settles it
abbrev pub settled : Bool → List Met → Met
settled needs_all [] = left_open needs_all
settled needs_all (part ∷ parts) = if leaves_open needs_all part then settled needs_all parts else part

-- `auto` is met where it is allowed
abbrev pub met_auto : Bool → Met
met_auto true = Holds true
met_auto false = Faulty AutoMisplaced

-- a name of a backend is a plain test
abbrev pub met_plain : Bool → Met
met_plain true = Holds false
met_plain false = Fails

-- a pair is one too, where the backend knows what it asks
abbrev pub met_pair : Option Bool → Met
met_pair (Some holds) = met_plain holds
met_pair None = Faulty UnknownPair

-- each form by its parts, where `auto` is allowed or isn't: it isn't under `not` and `all`
abbrev pub met_step : Backend → DiplomatBackendAttrCfg-F (Bool → Met) → Bool → Met
met_step backend (DiplomatBackendAttrCfg-F.Not part) allowed = inverted (part false)
met_step backend (DiplomatBackendAttrCfg-F.Any parts) allowed = settled false (map (λ part. part allowed) parts)
met_step backend (DiplomatBackendAttrCfg-F.All parts) allowed = settled true (map (λ part. part false) parts)
met_step backend DiplomatBackendAttrCfg-F.Auto allowed = met_auto allowed
met_step backend DiplomatBackendAttrCfg-F.Star allowed = Holds false
met_step backend (DiplomatBackendAttrCfg-F.BackendName name) allowed = met_plain (backend.is_backend name)
met_step backend (DiplomatBackendAttrCfg-F.NameValue name value) allowed = met_pair (backend.is_name_value name value)

-- what a condition comes to
abbrev pub condition_met : Backend → DiplomatBackendAttrCfg → Bool → Met
condition_met backend = fold-DiplomatBackendAttrCfg (Bool → Met) (met_step backend)

-- that as an answer
abbrev pub answer_of : Met → Result Bool CfgFault
answer_of (Holds by_auto) = Ok true
answer_of Fails = Ok false
answer_of (Faulty fault) = Err fault

-- whether `auto` is what meets the condition
abbrev pub is_by_auto : Met → Bool
is_by_auto (Holds by_auto) = by_auto
is_by_auto _ = false

-- the rule that a fault breaks, which has its name
abbrev pub fault_rule : CfgFault → Rule
fault_rule AutoMisplaced = rule.AutoMisplaced
fault_rule UnknownPair = rule.UnknownPair

-- what is told of a condition: its fault
abbrev pub met_errors : Met → List LoweringError
met_errors (Faulty fault) = plain_error (fault_rule fault) ∷ []
met_errors _ = []
