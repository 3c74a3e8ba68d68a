-- What is told of a special method is what breaks a rule.
use Rattle.std.proofs.Common.{◌≡◌, ◌⊎◌, inl, inr, List, [], ◌∷◌, ◌++◌, length, Bool, true, false, Option, Some, None, refl, sym, subst, ap, ◌∙◌}
use Rattle.std.specs.Prelude.{not}
use Rattle.std.specs.List.{Contains}
use Rattle.bridge_telling.specs.Telling.{TellsExactly, one_if}
use Rattle.bridge_telling.proofs.ExactLemmas.{exactly_as, exactly_both, exactly_if, in_first, in_none, in_one}
use Rattle.bridge_telling.proofs.TestLemmas.{false_of_not, not_of_false}
use Rattle.hir_attrs.specs.Reading.{about}
use Rattle.hir_attrs.specs.Special.{special_kind, special_text}
use Rattle.hir_attrs.specs.declared.special.SpecialMethod.{SpecialMethod}
use Rattle.hir_attrs.specs.declared.special.kind.SpecialKind.{SpecialKind}
use Rattle.hir_attrs.specs.declared.special.kind.SpecialKind.TheVariants as kind
use Rattle.hir_backends.specs.declared.support.BackendAttrSupport.{BackendAttrSupport}
use Rattle.hir_backends.specs.declared.support.flag.SupportFlag.{SupportFlag}
use Rattle.hir_definitions.specs.declared.methods.Method.{Method}
use Rattle.hir_definitions.specs.declared.methods.Param.{Param}
use Rattle.hir_definitions.specs.declared.methods.ParamSelf.{ParamSelf}
use Rattle.hir_ids.specs.declared.ids.TypeId.{TypeId}
use Rattle.hir_reports.specs.Texts.{plain_error}
use Rattle.hir_reports.specs.declared.report.LoweringError.{LoweringError}
use Rattle.hir_reports.specs.declared.rule.Rule.TheVariants as rule
use Rattle.hir_special.specs.Operands.{is_other, is_same, is_wrong_operand}
use Rattle.hir_special.specs.Receivers.{is_wrong_count, is_wrong_receiver, is_wrong_target}
use Rattle.hir_special.specs.Returns.{is_right_return}
use Rattle.hir_special.specs.Support.{missing_flag}
use Rattle.hir_special.specs.Told.{input_errors, kind_errors, marked_errors, needs_error, output_errors, special_errors, support_errors}
use Rattle.hir_special_rules.specs.SpecialBreaks.{KindBreaks, SpecialBreaks}
use Rattle.hir_special_rules.specs.rules.SpecialOperand.{SpecialOperand}

-- the flag that is missing
support_each : (it : SpecialKind) (found : Option SupportFlag) (e : LoweringError) → Contains (support_errors it found) e → (flag : SupportFlag) × ((found ≡ Some flag) × (e ≡ needs_error it flag))
support_each it None e h = absurd (in_none e h)
support_each it (Some missing) e h = (missing, (refl, in_one (needs_error it missing) e h))

support_exactly : (it : SpecialKind) (found : Option SupportFlag) → TellsExactly (support_errors it found) (λ e. (flag : SupportFlag) × ((found ≡ Some flag) × (e ≡ needs_error it flag)))
support_exactly it found e = (
  λ h. support_each it found e h,
  λ h. subst (λ x. Contains (support_errors it x) e) (sym h.1.0) (subst (λ y. Contains (needs_error it h.0 ∷ []) y) (sym h.1.1) (in_first (needs_error it h.0) [])),
)

-- what a comparison compares
other_of : (method : Method) (self : Option ParamSelf) (params : List Param) → method.param_self ≡ self → method.params ≡ params → is_other self params ≡ true → SpecialOperand kind.Comparison method
other_of method None params s p h = cc
other_of method (Some it) [] s p h = cc
other_of method (Some it) (param ∷ params) s p h =
    record { compares = refl; receiver = it; is_receiver = s; operand = param; others = params; is_operand = p; differs = false_of_not (is_same it.ty param.ty) h }

operand_of : (it : SpecialKind) (method : Method) → is_wrong_operand it method.param_self method.params ≡ true → SpecialOperand it method
unfolding is_wrong_operand
operand_of kind.Comparison method h = other_of method method.param_self method.params refl refl h
operand_of _ method h = cc

of_operand : (it : SpecialKind) (method : Method) → SpecialOperand it method → is_wrong_operand it method.param_self method.params ≡ true
unfolding is_wrong_operand
of_operand it method b =
    ap (λ k. is_wrong_operand k method.param_self method.params) b.compares
    ∙ (ap (λ s. is_other s method.params) b.is_receiver ∙ (ap (λ ps. is_other (Some b.receiver) ps) b.is_operand ∙ not_of_false (is_same b.receiver.ty b.operand.ty) b.differs))

-- ---- all of a kind

module _ (supports : BackendAttrSupport) (owner : TypeId) (it : SpecialKind) (method : Method) where
  abbrev Says : Bool → LoweringError → LoweringError → Type 0
  Says b error e = (b ≡ true) × (e ≡ error)

  abbrev receiver : LoweringError → Type 0
  receiver e = Says (is_wrong_receiver it method.param_self) (about rule.SpecialReceiver (special_text it)) e

  abbrev params : LoweringError → Type 0
  params e = Says (is_wrong_count it (length method.params)) (about rule.SpecialParams (special_text it)) e

  abbrev operand : LoweringError → Type 0
  operand e = Says (is_wrong_operand it method.param_self method.params) (plain_error rule.SpecialOperand) e

  abbrev target : LoweringError → Type 0
  target e = Says (is_wrong_target it method.param_self) (about rule.AssignReceiver (special_text it)) e

  abbrev output : LoweringError → Type 0
  output e = Says (not (is_right_return it owner method.output)) (about rule.SpecialReturn (special_text it)) e

  abbrev support : LoweringError → Type 0
  support e = (flag : SupportFlag) × ((missing_flag supports it method.param_self method.output ≡ Some flag) × (e ≡ needs_error it flag))

  abbrev inputs : LoweringError → Type 0
  inputs e = receiver e ⊎ (params e ⊎ (operand e ⊎ target e))

  abbrev outputs : LoweringError → Type 0
  outputs e = output e ⊎ support e

  inputs_exactly : TellsExactly (input_errors it method) inputs
  inputs_exactly =
      let of_receiver = one_if (is_wrong_receiver it method.param_self) (about rule.SpecialReceiver (special_text it)) in
      let of_params = one_if (is_wrong_count it (length method.params)) (about rule.SpecialParams (special_text it)) in
      let of_compared = one_if (is_wrong_operand it method.param_self method.params) (plain_error rule.SpecialOperand) in
      let of_target = one_if (is_wrong_target it method.param_self) (about rule.AssignReceiver (special_text it)) in
      exactly_both of_receiver (of_params ++ (of_compared ++ of_target)) receiver (λ e. params e ⊎ (operand e ⊎ target e))
      (exactly_if (is_wrong_receiver it method.param_self) (about rule.SpecialReceiver (special_text it)))
      (exactly_both of_params (of_compared ++ of_target) params (λ e. operand e ⊎ target e)
      (exactly_if (is_wrong_count it (length method.params)) (about rule.SpecialParams (special_text it)))
      (exactly_both of_compared of_target operand target
      (exactly_if (is_wrong_operand it method.param_self method.params) (plain_error rule.SpecialOperand))
      (exactly_if (is_wrong_target it method.param_self) (about rule.AssignReceiver (special_text it)))))

  outputs_exactly : TellsExactly (output_errors supports owner it method) outputs
  outputs_exactly =
      exactly_both (one_if (not (is_right_return it owner method.output)) (about rule.SpecialReturn (special_text it)))
      (support_errors it (missing_flag supports it method.param_self method.output)) output support
      (exactly_if (not (is_right_return it owner method.output)) (about rule.SpecialReturn (special_text it)))
      (support_exactly it (missing_flag supports it method.param_self method.output))

  breaks_inputs : (e : LoweringError) → inputs e → KindBreaks supports owner it method e
  breaks_inputs e h = elim h [
    | inl r ↦ subst (λ d. KindBreaks supports owner it method d) (sym r.1) (KindBreaks.special_receiver r.0)
    | inr rest ↦ elim rest [
      | inl p ↦ subst (λ d. KindBreaks supports owner it method d) (sym p.1) (KindBreaks.special_params p.0)
      | inr more ↦ elim more [
        | inl o ↦ subst (λ d. KindBreaks supports owner it method d) (sym o.1) (KindBreaks.special_operand (operand_of it method o.0))
        | inr t ↦ subst (λ d. KindBreaks supports owner it method d) (sym t.1) (KindBreaks.assign_receiver t.0)
      ]
    ]
  ]

  breaks_outputs : (e : LoweringError) → outputs e → KindBreaks supports owner it method e
  breaks_outputs e h = elim h [
    | inl r ↦ subst (λ d. KindBreaks supports owner it method d) (sym r.1) (KindBreaks.special_return (false_of_not (is_right_return it owner method.output) r.0))
    | inr s ↦ subst (λ d. KindBreaks supports owner it method d) (sym s.1.1) (KindBreaks.special_support s.0 s.1.0)
  ]

  told_of : (e : LoweringError) → KindBreaks supports owner it method e → inputs e ⊎ outputs e
  told_of _ (KindBreaks.special_receiver b) = inl (inl (b, refl))
  told_of _ (KindBreaks.special_params b) = inl (inr (inl (b, refl)))
  told_of _ (KindBreaks.special_operand b) = inl (inr (inr (inl (of_operand it method b, refl))))
  told_of _ (KindBreaks.assign_receiver b) = inl (inr (inr (inr (b, refl))))
  told_of _ (KindBreaks.special_return b) = inr (inl (not_of_false (is_right_return it owner method.output) b, refl))
  told_of _ (KindBreaks.special_support flag b) = inr (inr (flag, (b, refl)))

  kind_exactly : TellsExactly (kind_errors supports owner it method) (KindBreaks supports owner it method)
  kind_exactly =
      exactly_as (kind_errors supports owner it method) (λ e. inputs e ⊎ outputs e) (KindBreaks supports owner it method)
      (λ e. (λ h. elim h [ inl i ↦ breaks_inputs e i | inr o ↦ breaks_outputs e o ], λ b. told_of e b))
      (exactly_both (input_errors it method) (output_errors supports owner it method) inputs outputs inputs_exactly outputs_exactly)

-- ---- of a method

module _ (supports : BackendAttrSupport) (owner : TypeId) (method : Method) where
  abbrev Marked : Option SpecialMethod → LoweringError → Type 0
  Marked found e = (special : SpecialMethod) × ((found ≡ Some special) × KindBreaks supports owner (special_kind special) method e)

  marked_each : (found : Option SpecialMethod) (e : LoweringError) → Contains (marked_errors supports owner found method) e → Marked found e
  marked_each None e h = absurd (in_none e h)
  marked_each (Some special) e h = (special, (refl, (kind_exactly supports owner (special_kind special) method e).0 h))

  marked_every : (found : Option SpecialMethod) (e : LoweringError) → Marked found e → Contains (marked_errors supports owner found method) e
  marked_every found e m =
      subst (λ x. Contains (marked_errors supports owner x method) e) (sym m.1.0) ((kind_exactly supports owner (special_kind m.0) method e).1 m.1.1)

  pub special_exactly : TellsExactly (special_errors supports owner method) (SpecialBreaks supports owner method)
  unfolding special_errors
  special_exactly e = (
    λ h. let m = marked_each method.attrs.special_method e h in record { special = m.0; marked = m.1.0; breaks = m.1.1 },
    λ b. marked_every method.attrs.special_method e (b.special, (b.marked, b.breaks)),
  )
