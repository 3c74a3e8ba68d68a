-- What is told of the parameters of a method, beside their types, is what breaks a rule.
use Rattle.std.proofs.Common.{◌≡◌, ◌⊎◌, inl, inr, List, [], ◌∷◌, ◌++◌, Bool, true, false, refl, ap, subst, sym, ◌∙◌}
use Rattle.std.specs.Prelude.{◌&&◌, ◌||◌, not}
use Rattle.std.specs.List.{Contains, list_any}
use Rattle.std.proofs.lemmas.List.Elements.{Contains-append_cases, Contains-append_left, Contains-append_right}
use Rattle.bridge_decl.specs.declared.methods.Param.{Param}
use Rattle.bridge_telling.specs.Telling.{TellsExactly}
use Rattle.bridge_telling.proofs.ExactLemmas.{exactly_both, exactly_one, exactly_where, in_none}
use Rattle.hir_attrs.specs.Reading.{about}
use Rattle.hir_backends.specs.Backend.{Backend}
use Rattle.hir_mark_rules.proofs.ContextLemmas.{but_not, has_without}
use Rattle.hir_methods.specs.Required.{has_default, method_param_errors, required_error, required_errors}
use Rattle.hir_methods.specs.Untyped.{each_untyped_errors}
use Rattle.hir_reports.specs.declared.report.LoweringError.{LoweringError}
use Rattle.hir_reports.specs.declared.rule.Rule.TheVariants as rule
use Rattle.hir_rules.specs.Heads.{ParamHeadsBreak}
use Rattle.hir_rules.specs.rules.RequiredAfterDefault.{RequiredAfterDefault}
use Rattle.hir_rules.proofs.HeadLemmas.{params_exactly}

-- ---- tests

or_none : (a : Bool) → a || false ≡ a
or_none true = refl
or_none false = refl

or_three : (a b c : Bool) → (a || b) || c ≡ a || (b || c)
or_three true b c = refl
or_three false b c = refl

-- ---- one after another

module _ (backend : Backend) where
  -- a parameter of a list without a default value, where one of those before the list has one or one before it in the list
  record OneRequired (is_after : Bool) (params : List Param) (e : LoweringError) : Type 0 where
    before : List Param
    it : Param
    after : List Param
    listed : params ≡ before ++ it ∷ after
    given : is_after || list_any (has_default backend) before ≡ true
    missing : has_default backend it ≡ false
    says : e ≡ about rule.RequiredAfterDefault it.name

  one_exactly : (is_after : Bool) (param : Param) → TellsExactly (required_error backend is_after param)
      (λ e. (is_after && not (has_default backend param) ≡ true) × (e ≡ about rule.RequiredAfterDefault param.name))
  one_exactly is_after param =
      exactly_where (is_after && not (has_default backend param)) (about rule.RequiredAfterDefault param.name ∷ []) (λ e. e ≡ about rule.RequiredAfterDefault param.name)
      (exactly_one (about rule.RequiredAfterDefault param.name))

  first_of : (is_after : Bool) (param : Param) (params : List Param) (e : LoweringError) → Contains (required_error backend is_after param) e → OneRequired is_after (param ∷ params) e
  first_of is_after param params e h =
      let told = (one_exactly is_after param e).0 h in
      let so = has_without is_after (has_default backend param) told.0 in
      record { before = []; it = param; after = params; listed = refl; given = or_none is_after ∙ so.0; missing = so.1; says = told.1 }

  later_of : (is_after : Bool) (param : Param) (params : List Param) (e : LoweringError) → OneRequired (is_after || has_default backend param) params e → OneRequired is_after (param ∷ params) e
  later_of is_after param params e h = record {
    before = param ∷ h.before;
    it = h.it;
    after = h.after;
    listed = ap (λ rest. param ∷ rest) h.listed;
    given = sym (or_three is_after (has_default backend param) (list_any (has_default backend) h.before)) ∙ h.given;
    missing = h.missing;
    says = h.says;
  }

  told_one : (is_after : Bool) (params : List Param) (e : LoweringError) → Contains (required_errors backend is_after params) e → OneRequired is_after params e
  told_one is_after [] e h = absurd (in_none e h)
  told_one is_after (param ∷ params) e h =
      elim (Contains-append_cases (required_error backend is_after param) (required_errors backend (is_after || has_default backend param) params) e h) [
        | inl c ↦ first_of is_after param params e c
        | inr c ↦ later_of is_after param params e (told_one (is_after || has_default backend param) params e c)
      ]

  one_told : (is_after : Bool) (before : List Param) (it : Param) (after : List Param) (e : LoweringError)
      → is_after || list_any (has_default backend) before ≡ true → has_default backend it ≡ false → e ≡ about rule.RequiredAfterDefault it.name
      → Contains (required_errors backend is_after (before ++ it ∷ after)) e
  one_told is_after [] it after e given missing says =
      Contains-append_left (required_error backend is_after it) (required_errors backend (is_after || has_default backend it) after) e
      ((one_exactly is_after it e).1 (but_not is_after (has_default backend it) (sym (or_none is_after) ∙ given) missing, says))
  one_told is_after (param ∷ before) it after e given missing says =
      Contains-append_right (required_error backend is_after param) (required_errors backend (is_after || has_default backend param) (before ++ it ∷ after)) e
      (one_told (is_after || has_default backend param) before it after e (or_three is_after (has_default backend param) (list_any (has_default backend) before) ∙ given) missing says)

  required_exactly : (params : List Param) → TellsExactly (required_errors backend false params) (RequiredAfterDefault backend params)
  required_exactly params e = (
    λ h. let one = told_one false params e h in record { before = one.before; it = one.it; after = one.after; listed = one.listed; given = one.given; missing = one.missing; says = one.says },
    λ h. subst (λ list. Contains (required_errors backend false list) e) (sym h.listed) (one_told false h.before h.it h.after e h.given h.missing h.says),
  )

-- of all parameters, their names and marks too
pub method_params_exactly : (backend : Backend) (params : List Param)
    → TellsExactly (method_param_errors backend params) (λ e. ParamHeadsBreak backend params e ⊎ RequiredAfterDefault backend params e)
method_params_exactly backend params =
    exactly_both (each_untyped_errors backend params) (required_errors backend false params) (ParamHeadsBreak backend params) (RequiredAfterDefault backend params)
    (params_exactly backend params) (required_exactly backend params)
