-- From what a context is, and what its callables may borrow, to what declarations are answered with.
use Rattle.std.proofs.Common.{◌≡◌, ◌≢◌, Bool, List, [], ◌∷◌, Result, Ok, Err, refl, sym, ap, subst, ◌∙◌, arith, inl, inr}
use Rattle.std.specs.List.{Contains}
use Rattle.bridge_callables.specs.Declared.{declared_callables}
use Rattle.bridge_decl.specs.declared.modules.Module.{Module}
use Rattle.bridge_order.specs.declared.catalog.Catalog.{Catalog}
use Rattle.bridge_places.specs.Entries.{IsCatalog}
use Rattle.bridge_report.specs.Borrowings.{AreReported}
use Rattle.bridge_report.specs.InContext.{callables}
use Rattle.bridge_report.specs.declared.report.BridgeReport.{BridgeReport}
use Rattle.bridge_telling.specs.Telling.{TellsExactly}
use Rattle.bridge_validation.specs.LoweredContextBreaks.{LoweredContextBreaks}
use Rattle.bridge_validation.specs.Told.{context_reports}
use Rattle.hir_backends.specs.Backend.{Backend}
use Rattle.hir_config.specs.declared.config.LoweringConfig.{LoweringConfig}
use Rattle.hir_context.specs.declared.context.TypeContext.{TypeContext}
use Rattle.hir_context.specs.declared.parts.Definitions.{Definitions}
use Rattle.hir_lower.specs.Answers.{AnswersDeclarations, AreStoodFor, AreToldOf}
use Rattle.hir_lower.specs.Contexts.{StandForItems}
use Rattle.hir_lower.specs.declared.fault.LowerFault.{LowerFault}
use Rattle.hir_lower.specs.declared.fault.LowerFault.TheVariants as fault
use Rattle.hir_lowering.specs.Interface.{Interface}
use Rattle.hir_lowering.specs.Walks.{interface_of}
use Rattle.hir_naming.specs.Meaning.{naming_of}
use Rattle.hir_reports.specs.declared.report.LoweringReport.{LoweringReport}
use Rattle.hir_rules.specs.Broken.{IsBroken}
use Rattle.bridge_lowering.specs.Answers.{AnswersReport, AreRefusedWith}
use Rattle.bridge_lowering.specs.Broken.{Break, BreakNothing, BreaksRule, LoweredBreak}
use Rattle.bridge_lowering.specs.inside.Borrowing.{BorrowsIn}
use Rattle.bridge_lowering.proofs.SameLemmas.{one_context}

-- modules have one catalog
abbrev pub OneCatalog : Type 0
OneCatalog = (modules : List Module) (one other : Catalog) → IsCatalog modules one → IsCatalog modules other → one ≡ other

-- the callables of a context are those that are declared
abbrev pub ReadAlike : Type 0
ReadAlike = (it : Interface) (defs : Definitions) → IsCatalog it.modules it.catalog → StandForItems it defs → callables defs ≡ declared_callables it

-- what is told of a context is what breaks a rule in it
abbrev pub ToldByRules : Type 0
ToldByRules = (must_fail : Bool) (defs : Definitions) → TellsExactly (context_reports must_fail defs) (LoweredContextBreaks must_fail defs)

first_stands : {A : Type 0} (xs : List A) → xs ≢ [] → (x : A) × Contains xs x
first_stands [] some = absurd (some refl)
first_stands (x ∷ xs) some = (x, (0, omega (arith), refl))

none_stands : {A : Type 0} (xs : List A) (x : A) → xs ≡ [] → ¬ (Contains xs x)
none_stands xs x e h = let k : Contains [] x = subst (λ ys. Contains ys x) e h in omega (arith, k.1)

module _ (one_catalog : OneCatalog) (by_rules : ToldByRules) (modules : List Module) (backend : Backend) (config : LoweringConfig) (catalog : Catalog)
    (is : IsCatalog modules catalog) where
  -- the declarations by this catalog
  abbrev it : Interface
  it = interface_of modules backend config (naming_of modules) catalog

  -- whether callbacks must be able to fail
  abbrev must_fail : Bool
  must_fail = backend.supports.callback_returns_must_be_fallible

  abbrev Breaks : LoweringReport → Type 0
  Breaks = Break modules backend config

  -- what is broken is broken by this one
  broken_here : (r : LoweringReport) → Breaks r → BreaksRule it r
  broken_here r b =
      subst (λ (c : Catalog). BreaksRule (interface_of modules backend config (naming_of modules) c) r)
      (one_catalog modules b.catalog catalog b.is is) b.holds

  breaks_here : (r : LoweringReport) → BreaksRule it r → Breaks r
  breaks_here r b = record { catalog = catalog; is = is; holds = b }

  -- what a context breaks is broken by any that stands for the declarations, since there is one
  breaks_in : (defs : Definitions) → StandForItems it defs → (r : LoweringReport) → LoweredBreak it r → Contains (context_reports must_fail defs) r
  breaks_in defs stand r b =
      (by_rules must_fail defs r).1 (subst (λ (d : Definitions). LoweredContextBreaks must_fail d r) (one_context it b.definitions defs b.stand stand) b.breaks)

  -- nothing is
  no_rule : (defs : Definitions) → StandForItems it defs → ((r : LoweringReport) → ¬ (IsBroken it r)) → context_reports must_fail defs ≡ [] → BreakNothing modules backend config
  no_rule defs stand unbroken quiet r b = elim (broken_here r b) [
    | inl l ↦ unbroken r l
    | inr m ↦ none_stands (context_reports must_fail defs) r quiet (breaks_in defs stand r m.1)
  ]

  -- what is told while declarations are lowered
  refused_lowering : (told : List LoweringReport) → AreToldOf it told → AreRefusedWith modules backend config told
  refused_lowering told t = record {
    some = t.some;
    broken = record {
      each = λ r h. breaks_here r (inl (t.broken.each r h));
      every = λ r b. elim (broken_here r b) [
        | inl l ↦ t.broken.every r l
        | inr m ↦ let first = first_stands told t.some in absurd (m.0 first.0 (t.broken.each first.0 first.1))
      ];
    };
    ordered = record { catalog = catalog; is = is; holds = inl t.ordered };
  }

  -- what is told of the context
  refused_context : (defs : Definitions) → StandForItems it defs → (told : List LoweringReport) → ((r : LoweringReport) → ¬ (IsBroken it r)) → told ≡ context_reports must_fail defs
      → told ≢ [] → AreRefusedWith modules backend config told
  refused_context defs stand told unbroken e some = record {
    some = some;
    broken = record {
      each = λ r h.
          breaks_here r (inr (unbroken, record { definitions = defs; stand = stand; breaks = (by_rules must_fail defs r).0 (subst (λ rs. Contains rs r) e h) }));
      every = λ r b. elim (broken_here r b) [
        | inl l ↦ absurd (unbroken r l)
        | inr m ↦ (r, (subst (λ rs. Contains rs r) (sym e) (breaks_in defs stand r m.1), refl))
      ];
    };
    ordered = record { catalog = catalog; is = is; holds = inr (record { definitions = defs; stand = stand; is = e }) };
  }

  module _ (read_alike : ReadAlike) (defs : Definitions) (stood : AreStoodFor it defs) where
    same : callables defs ≡ declared_callables it
    same = read_alike it defs is stood.stand

    pub answered_in : (result : Result BridgeReport LowerFault) → BorrowsIn must_fail defs result → AnswersReport modules backend config result
    answered_in (Ok report) b = record {
      unbroken = no_rule defs stood.stand stood.unbroken b.unbroken;
      borrowed = record {
        catalog = catalog;
        is = is;
        holds = record {
          stand = subst (StandForItems it) (sym b.context) stood.stand;
          same = ap callables b.context ∙ same;
          reported = subst (λ cs. AreReported cs report.callables) same b.reported;
        };
      };
    }
    answered_in (Err (fault.Refused told)) b = refused_context defs stood.stand told.items stood.unbroken b.0 b.1
    answered_in (Err fault.NoMemory) b = tt

-- declarations in which a rule is broken while they are lowered
pub refused_with : OneCatalog → ToldByRules → (modules : List Module) (backend : Backend) (config : LoweringConfig) (f : LowerFault)
    → AnswersDeclarations modules backend config (Err f) → AnswersReport modules backend config (Err f)
refused_with one rules modules backend config (fault.Refused told) h = refused_lowering one rules modules backend config h.catalog h.is told.items h.holds
refused_with one rules modules backend config fault.NoMemory h = tt

-- and those that have a context
pub answered_with : OneCatalog → ToldByRules → ReadAlike → (modules : List Module) (backend : Backend) (config : LoweringConfig) (tcx : TypeContext)
    → AnswersDeclarations modules backend config (Ok tcx) → (result : Result BridgeReport LowerFault) → BorrowsIn backend.supports.callback_returns_must_be_fallible tcx.definitions result
    → AnswersReport modules backend config result
answered_with one rules alike modules backend config tcx h result b = answered_in one rules modules backend config h.catalog h.is alike tcx.definitions h.holds result b
