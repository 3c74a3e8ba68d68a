-- What is told of a context is what breaks a rule in it.
use Rattle.std.proofs.Common.{◌≡◌, ◌<◌, ◌≤◌, ◌⊎◌, inl, inr, ℕ, [], ◌++◌, length, map, Bool, true, false, cond, List, refl, sym, subst, ap, arith}
use Rattle.std.specs.Prelude.{not, nat_lt}
use Rattle.std.specs.List.{Contains, enumerate_from, flat_map, list_any}
use Rattle.std.proofs.lemmas.Bool.{lt-ltb, ltb-true}
use Rattle.bridge_leaves.specs.Limits.{has_too_many, most_leaves}
use Rattle.bridge_report.specs.Callables.{Callable}
use Rattle.bridge_report.specs.InContext.{function_callable}
use Rattle.bridge_report.specs.declared.report.CallableId.{CallableId}
use Rattle.bridge_report.specs.declared.report.CallableId.TheVariants as callable
use Rattle.bridge_telling.specs.Telling.{TellsExactly, one_if}
use Rattle.bridge_telling.proofs.ExactLemmas.{exactly_as, exactly_both, exactly_each, exactly_if, exactly_unless, exactly_where}
use Rattle.bridge_telling.proofs.GivenLemmas.{in_map, mapped}
use Rattle.bridge_telling.proofs.TestLemmas.{and_parts, parts_and, passes_some, some_passes}
use Rattle.hir_context.specs.Iterating.{all_types}
use Rattle.hir_context.specs.Lookups.{DefinedType, type_methods}
use Rattle.hir_context.specs.declared.parts.Definitions.{Definitions}
use Rattle.hir_definitions.specs.declared.definitions.TraitDef.{TraitDef}
use Rattle.hir_definitions.specs.declared.methods.Method.{Method}
use Rattle.hir_ids.specs.declared.ids.TypeId.{TypeId}
use Rattle.hir_life.specs.Environment.{Environment}
use Rattle.hir_life.specs.declared.maybe_static.MaybeStatic.{MaybeStatic}
use Rattle.hir_life.specs.declared.maybe_static.MaybeStatic.TheVariants.{NonStatic, Static}
use Rattle.hir_reports.specs.Store.{told_at}
use Rattle.hir_reports.specs.Texts.{plain_error}
use Rattle.hir_reports.specs.declared.places.ErrorContext.{ErrorContext}
use Rattle.hir_reports.specs.declared.report.LoweringError.{LoweringError}
use Rattle.hir_reports.specs.declared.report.LoweringReport.{LoweringReport}
use Rattle.hir_reports.specs.declared.rule.Rule.TheVariants as rule
use Rattle.hir_types.specs.declared.callbacks.Callback.{Callback}
use Rattle.hir_validation.proofs.BreakLemmas.{method_exactly}
use Rattle.hir_validation.proofs.SignatureLemmas.{signature_exactly, trait_method_exactly}
use Rattle.hir_validation.proofs.TypeLemmas.{type_exactly}
use Rattle.hir_validation.specs.LoweredMethodBreaks.{LoweredMethodBreaks}
use Rattle.hir_validation.specs.LoweredSignatureBreaks.{LoweredSignatureBreaks, LoweredTraitMethodBreaks}
use Rattle.hir_validation.specs.Signatures.{signature_errors, lowered_trait_method_errors}
use Rattle.hir_validation.specs.Structs.{type_errors}
use Rattle.hir_validation.specs.Told.{method_rule_errors}
use Rattle.hir_validation.specs.LoweredTypeBreaks.{LoweredTypeBreaks}
use Rattle.bridge_validation.specs.LoweredContextBreaks.{CallableBreaks, LoweredContextBreaks}
use Rattle.bridge_validation.specs.Told.{lowered_callable_errors, lowered_callable_reports, context_reports, elides, lowered_function_reports, is_type_method, is_unnamed, lowered_method_callable, lowered_method_reports, trait_method_place, lowered_trait_method_reports, lowered_trait_reports, type_place, lowered_type_reports}
use Rattle.bridge_validation.specs.rules.ElidedReturn.{ElidedReturn}

-- ---- lifetimes without a name

past : (b : Bool) (l n : ℕ) → (b ≡ true → l < n) → (l < n → b ≡ true) → not b ≡ true → n ≤ l
past true l n to from h = cc
past false l n to from h = omega (arith, below) where
  below : ¬ (l < n)
  below lt = let t : false ≡ true = from lt in cc

not_both : (l n : ℕ) → l < n → ¬ (n ≤ l)
not_both l n lt h = omega (arith, lt, h)

not_past : (b : Bool) (l n : ℕ) → (b ≡ true → l < n) → n ≤ l → not b ≡ true
not_past true l n to h = absurd (not_both l n (to refl) h)
not_past false l n to h = refl

unnamed_of : (env : Environment) (l : MaybeStatic ℕ) → is_unnamed env l ≡ true → (n : ℕ) × ((l ≡ NonStatic n) × (length env.bounds ≤ n))
unnamed_of env Static h = cc
unnamed_of env (NonStatic n) h =
    (n, (refl, past (nat_lt n (length env.bounds)) n (length env.bounds) (ltb-true n (length env.bounds)) (lt-ltb n (length env.bounds)) h))

of_unnamed : (env : Environment) (n : ℕ) → length env.bounds ≤ n → is_unnamed env (NonStatic n) ≡ true
of_unnamed env n h = not_past (nat_lt n (length env.bounds)) n (length env.bounds) (ltb-true n (length env.bounds)) h

method_of_type : (c : Callable) (id : CallableId) → c.id ≡ id → is_type_method id ≡ true → list_any (is_unnamed c.environment) c.named ≡ true → ElidedReturn c
method_of_type c (callable.Method type number) is h some =
    let one = some_passes (is_unnamed c.environment) c.named some in
    let unnamed = unnamed_of c.environment one.0 one.1.1 in
    record {
      type = type;
      number = number;
      is_method = is;
      lifetime = unnamed.0;
      returned = subst (λ l. Contains c.named l) unnamed.1.0 one.1.0;
      unnamed = unnamed.1.1;
    }
method_of_type c (callable.Function number) is h some = cc

elided_of : (c : Callable) → elides c ≡ true → ElidedReturn c
elided_of c h =
    let parts = and_parts (is_type_method c.id) (list_any (is_unnamed c.environment) c.named) h in
    method_of_type c c.id refl parts.0 parts.1

of_elided : (c : Callable) → ElidedReturn c → elides c ≡ true
of_elided c b =
    parts_and (is_type_method c.id) (list_any (is_unnamed c.environment) c.named) (ap is_type_method b.is_method)
    (passes_some (is_unnamed c.environment) c.named (NonStatic b.lifetime) b.returned (of_unnamed c.environment b.lifetime b.unnamed))

-- ---- at a place

-- one of these errors, told at a place
abbrev TellsAt : ErrorContext → (LoweringError → Type 0) → LoweringReport → Type 0
TellsAt place Breaks r = (e : LoweringError) × (Breaks e × (r ≡ told_at place e))

placed_exactly : (place : ErrorContext) (errors : List LoweringError) (Breaks : LoweringError → Type 0) → TellsExactly errors Breaks
    → TellsExactly (map (told_at place) errors) (TellsAt place Breaks)
placed_exactly place errors Breaks exactly r = (
  λ h. let from = mapped (told_at place) errors r h in (from.0, ((exactly from.0).0 from.1.0, from.1.1)),
  λ p. subst (λ x. Contains (map (told_at place) errors) x) (sym p.1.1) (in_map (told_at place) errors p.0 ((exactly p.0).1 p.1.0)),
)

module _ (must_fail : Bool) (defs : Definitions) where
  -- ---- of a callable

  module _ (c : Callable) (method : Method) where
    abbrev Breaks : LoweringError → Type 0
    Breaks = CallableBreaks must_fail defs c method

    abbrev Crowded : LoweringError → Type 0
    Crowded e = (has_too_many c ≡ true) × (e ≡ plain_error rule.TooManyLeaves)

    abbrev Elided : LoweringError → Type 0
    Elided e = (elides c ≡ true) × (e ≡ plain_error rule.ElidedReturn)

    abbrev AsMethod : LoweringError → Type 0
    AsMethod e = (is_type_method c.id ≡ true) × LoweredMethodBreaks defs method e

    abbrev Told : LoweringError → Type 0
    Told e = Crowded e ⊎ (Elided e ⊎ (LoweredSignatureBreaks must_fail defs method e ⊎ AsMethod e))

    breaks_of : (e : LoweringError) → Told e → Breaks e
    breaks_of e h = elim h [
      | inl l ↦ subst Breaks (sym l.1) (CallableBreaks.too_many_leaves (ltb-true most_leaves (length c.leaves) l.0))
      | inr r ↦ elim r [
        | inl s ↦ subst Breaks (sym s.1) (CallableBreaks.elided_return (elided_of c s.0))
        | inr t ↦ elim t [ inl b ↦ CallableBreaks.by_types e b | inr m ↦ CallableBreaks.as_method e m.0 m.1 ]
      ]
    ]

    told_of : (e : LoweringError) → Breaks e → Told e
    told_of _ (CallableBreaks.too_many_leaves b) = inl (lt-ltb most_leaves (length c.leaves) b, refl)
    told_of _ (CallableBreaks.elided_return b) = inr (inl (of_elided c b, refl))
    told_of e (CallableBreaks.by_types _ b) = inr (inr (inl b))
    told_of e (CallableBreaks.as_method _ is b) = inr (inr (inr (is, b)))

    errors_exactly : TellsExactly (lowered_callable_errors must_fail defs c method) Breaks
    errors_exactly =
        let crowded = one_if (has_too_many c) (plain_error rule.TooManyLeaves) in
        let elided = one_if (elides c) (plain_error rule.ElidedReturn) in
        let typed = signature_errors must_fail defs method in
        let as_method = cond (is_type_method c.id) (method_rule_errors defs method) [] in
        let Typed = LoweredSignatureBreaks must_fail defs method in
        exactly_as (lowered_callable_errors must_fail defs c method) Told Breaks (λ e. (λ h. breaks_of e h, λ b. told_of e b))
        (exactly_both crowded (elided ++ (typed ++ as_method)) Crowded (λ e. Elided e ⊎ (Typed e ⊎ AsMethod e)) (exactly_if (has_too_many c) (plain_error rule.TooManyLeaves))
        (exactly_both elided (typed ++ as_method) Elided (λ e. Typed e ⊎ AsMethod e) (exactly_if (elides c) (plain_error rule.ElidedReturn))
        (exactly_both typed as_method Typed AsMethod (signature_exactly must_fail defs method)
        (exactly_where (is_type_method c.id) (method_rule_errors defs method) (LoweredMethodBreaks defs method) (method_exactly defs method)))))

    abbrev CallableTells : LoweringReport → Type 0
    CallableTells = TellsAt c.place Breaks

    reports_exactly : TellsExactly (lowered_callable_reports must_fail defs c method) CallableTells
    reports_exactly = placed_exactly c.place (lowered_callable_errors must_fail defs c method) Breaks errors_exactly

  -- ---- of a type

  module _ (entry : TypeId × DefinedType) where
    abbrev MethodTells : ℕ × Method → LoweringReport → Type 0
    MethodTells numbered = CallableTells (lowered_method_callable defs entry numbered) numbered.1

    abbrev Itself : LoweringReport → Type 0
    Itself = TellsAt (type_place defs entry) (LoweredTypeBreaks must_fail defs entry.1)

    abbrev Methods : LoweringReport → Type 0
    Methods r = (numbered : ℕ × Method) × (Contains (enumerate_from 0 (type_methods entry.1)) numbered × MethodTells numbered r)

    type_reports_exactly : TellsExactly (lowered_type_reports must_fail defs entry) (λ r. Itself r ⊎ Methods r)
    type_reports_exactly =
        exactly_both (map (told_at (type_place defs entry)) (type_errors must_fail defs entry.1))
        (flat_map (lowered_method_reports must_fail defs entry) (enumerate_from 0 (type_methods entry.1))) Itself Methods
        (placed_exactly (type_place defs entry) (type_errors must_fail defs entry.1) (LoweredTypeBreaks must_fail defs entry.1) (type_exactly must_fail defs entry.1))
        (exactly_each (lowered_method_reports must_fail defs entry) MethodTells
        (λ numbered. reports_exactly (lowered_method_callable defs entry numbered) numbered.1) (enumerate_from 0 (type_methods entry.1)))

  -- ---- of a trait

  module _ (numbered : ℕ × TraitDef) where
    abbrev TraitMethodTells : Callback → LoweringReport → Type 0
    TraitMethodTells method = TellsAt (trait_method_place defs numbered method) (LoweredTraitMethodBreaks must_fail defs method)

    abbrev TraitMethods : LoweringReport → Type 0
    TraitMethods r = (method : Callback) × (Contains numbered.1.methods method × TraitMethodTells method r)

    trait_reports_exactly : TellsExactly (lowered_trait_reports must_fail defs numbered) TraitMethods
    trait_reports_exactly =
        exactly_each (lowered_trait_method_reports must_fail defs numbered) TraitMethodTells
        (λ method. placed_exactly (trait_method_place defs numbered method) (lowered_trait_method_errors must_fail defs method) (LoweredTraitMethodBreaks must_fail defs method)
        (trait_method_exactly must_fail defs method)) numbered.1.methods

  -- ---- of a function

  abbrev FunctionTells : ℕ × Method → LoweringReport → Type 0
  FunctionTells numbered r = (numbered.1.attrs.disable ≡ false) × CallableTells (function_callable defs numbered) numbered.1 r

  function_reports_exactly : (numbered : ℕ × Method) → TellsExactly (lowered_function_reports must_fail defs numbered) (FunctionTells numbered)
  function_reports_exactly numbered =
      exactly_unless numbered.1.attrs.disable (lowered_callable_reports must_fail defs (function_callable defs numbered) numbered.1)
      (CallableTells (function_callable defs numbered) numbered.1) (reports_exactly (function_callable defs numbered) numbered.1)

  -- ---- of all

  abbrev Types : LoweringReport → Type 0
  Types r = (entry : TypeId × DefinedType) × (Contains (all_types defs) entry × (Itself entry r ⊎ Methods entry r))

  abbrev Traits : LoweringReport → Type 0
  Traits r = (numbered : ℕ × TraitDef) × (Contains (enumerate_from 0 defs.traits.defs) numbered × TraitMethods numbered r)

  abbrev Functions : LoweringReport → Type 0
  Functions r = (numbered : ℕ × Method) × (Contains (enumerate_from 0 defs.functions.defs) numbered × FunctionTells numbered r)

  abbrev All : LoweringReport → Type 0
  All r = Types r ⊎ (Traits r ⊎ Functions r)

  abbrev BrokenAt : LoweringReport → Type 0
  BrokenAt = LoweredContextBreaks must_fail defs

  broken_of : (r : LoweringReport) → All r → BrokenAt r
  broken_of r h = elim h [
    | inl t ↦ elim t.1.1 [
      | inl i ↦ subst BrokenAt (sym i.1.1) (LoweredContextBreaks.of_type t.0 i.0 t.1.0 i.1.0)
      | inr m ↦ subst BrokenAt (sym m.1.1.1.1) (LoweredContextBreaks.of_method t.0 m.0 m.1.1.0 t.1.0 m.1.0 m.1.1.1.0)
    ]
    | inr u ↦ elim u [
      | inl t ↦ subst BrokenAt (sym t.1.1.1.1.1.1) (LoweredContextBreaks.of_trait_method t.0 t.1.1.0 t.1.1.1.1.0 t.1.0 t.1.1.1.0 t.1.1.1.1.1.0)
      | inr f ↦ subst BrokenAt (sym f.1.1.1.1.1) (LoweredContextBreaks.of_function f.0 f.1.1.1.0 f.1.0 f.1.1.0 f.1.1.1.1.0)
    ]
  ]

  all_of : (r : LoweringReport) → BrokenAt r → All r
  all_of _ (LoweredContextBreaks.of_type entry e among b) = inl (entry, (among, inl (e, (b, refl))))
  all_of _ (LoweredContextBreaks.of_method entry numbered e among one b) = inl (entry, (among, inr (numbered, (one, (e, (b, refl))))))
  all_of _ (LoweredContextBreaks.of_trait_method numbered method e among one b) = inr (inl (numbered, (among, (method, (one, (e, (b, refl)))))))
  all_of _ (LoweredContextBreaks.of_function numbered e among enabled b) = inr (inr (numbered, (among, (enabled, (e, (b, refl))))))

  pub context_exactly : TellsExactly (context_reports must_fail defs) BrokenAt
  context_exactly =
      let types = flat_map (lowered_type_reports must_fail defs) (all_types defs) in
      let traits = flat_map (lowered_trait_reports must_fail defs) (enumerate_from 0 defs.traits.defs) in
      let functions = flat_map (lowered_function_reports must_fail defs) (enumerate_from 0 defs.functions.defs) in
      exactly_as (context_reports must_fail defs) All BrokenAt (λ r. (λ h. broken_of r h, λ b. all_of r b))
      (exactly_both types (traits ++ functions) Types (λ r. Traits r ⊎ Functions r)
      (exactly_each (lowered_type_reports must_fail defs) (λ entry r. Itself entry r ⊎ Methods entry r) type_reports_exactly (all_types defs))
      (exactly_both traits functions Traits Functions
      (exactly_each (lowered_trait_reports must_fail defs) TraitMethods trait_reports_exactly (enumerate_from 0 defs.traits.defs))
      (exactly_each (lowered_function_reports must_fail defs) FunctionTells function_reports_exactly (enumerate_from 0 defs.functions.defs))))
