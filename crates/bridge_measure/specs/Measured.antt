-- What is measured: declarations that are made from a number, for a backend that has functions outside of types and supports nothing else, by
-- a configuration that allows nothing beyond the rules.
use Rattle.std.specs.Prelude.{◌≡◌, ℕ, false, List, [], ◌∷◌, Result}
use Rattle.bridge_callables.specs.Declared.{declared_callables}
use Rattle.bridge_decl.specs.declared.modules.Module.{Module}
use Rattle.bridge_generate.specs.Generated.{generated_module}
use Rattle.bridge_lowering.specs.Answers.{AreAcceptedWith}
use Rattle.bridge_lowering.specs.Broken.{HoldsOf}
use Rattle.bridge_order.specs.declared.catalog.Catalog.{Catalog}
use Rattle.bridge_outside.specs.Outside.{SinkState}
use Rattle.bridge_outside.specs.Printing.{Delivers}
use Rattle.bridge_outside.specs.declared.sink.SinkFault.{SinkFault}
use Rattle.bridge_report.specs.declared.report.BridgeReport.{BridgeReport}
use Rattle.bridge_summary.specs.Summary.{AreListed, summary_text}
use Rattle.hir_backends.specs.Backend.{Backend}
use Rattle.hir_backends.specs.Support.{no_flags, with_flag}
use Rattle.hir_backends.specs.Validator.{basic_meaning, plain_validator}
use Rattle.hir_backends.specs.declared.support.flag.SupportFlag.TheVariants as flag
use Rattle.hir_backends.specs.declared.validator.BasicAttributeValidator.{BasicAttributeValidator}
use Rattle.hir_config.specs.declared.config.LoweringConfig.{LoweringConfig}
use Rattle.hir_lowering.specs.Interface.{Interface}
use Rattle.hir_lowering.specs.Walks.{interface_of}
use Rattle.hir_naming.specs.Meaning.{naming_of}

-- the modules
abbrev pub measured : ℕ → List Module
measured count = generated_module count ∷ []

-- the backend has no name
abbrev pub measured_validator : BasicAttributeValidator
measured_validator = record (plain_validator []) { support = with_flag no_flags flag.FreeFunctions }

abbrev pub measured_backend : Backend
measured_backend = basic_meaning measured_validator

abbrev pub measured_config : LoweringConfig
measured_config = record { unsafe_references_in_callbacks = false }

-- the declarations for any backend, by a catalog of them
abbrev pub measured_by : ℕ → Backend → LoweringConfig → Catalog → Interface
measured_by count backend config catalog = interface_of (measured count) backend config (naming_of (measured count)) catalog

-- this is the report of the declarations for so many structs and functions
abbrev pub IsMeasured : ℕ → BridgeReport → Type 0
IsMeasured count report = AreAcceptedWith (measured count) measured_backend measured_config report

-- the three lines: there are as many callables as functions, and so many leaves are listed in all
pub record IsMeasuredAs (count : ℕ) (text : List ℕ) : Type 0 where
  pub listed : ℕ
  pub counts : HoldsOf (measured count) measured_backend measured_config (λ it. AreListed (declared_callables it) listed)
  pub is : text ≡ summary_text count listed

-- the three lines were written, whole or up to a fault
pub record DeliversMeasured (count : ℕ) (old new : SinkState) (result : Result (Unit {0}) SinkFault) : Type 0 where
  pub text : List ℕ
  pub is : IsMeasuredAs count text
  pub delivered : Delivers old new text result
