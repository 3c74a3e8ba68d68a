-- What is told of a set of marks by what is marked is what breaks a rule.
use Rattle.std.proofs.Common.{◌≡◌, ◌⊎◌, ◌↔◌, inl, inr, ℕ, List, [], ◌∷◌, ◌++◌, Bool, true, false, cond, Option, Some, None, codes, refl, sym, subst}
use Rattle.std.specs.Prelude.{◌&&◌, not, is_some}
use Rattle.std.specs.List.{Contains, find}
use Rattle.bridge_telling.specs.Telling.{TellsExactly}
use Rattle.bridge_telling.proofs.ExactLemmas.{exactly_as, exactly_both, exactly_each, exactly_one, exactly_where, in_first, in_none, in_rest}
use Rattle.bridge_decl.specs.declared.attrs.Attrs.{Attrs as DeclaredAttrs}
use Rattle.hir_reports.specs.Texts.{plain_error}
use Rattle.hir_reports.specs.declared.report.LoweringError.{LoweringError}
use Rattle.hir_reports.specs.declared.rule.Rule.TheVariants as rule
use Rattle.hir_backends.specs.Backend.{Backend}
use Rattle.hir_backends.specs.Support.{flag_on}
use Rattle.hir_backends.specs.declared.support.flag.SupportFlag.TheVariants as flag
use Rattle.hir_attrs.specs.Marks.{every_mark, is_mark_called, mark_text}
use Rattle.hir_attrs.specs.Reading.{about, marks_errors, marks_of}
use Rattle.hir_attrs.specs.Special.{special_kind, special_text}
use Rattle.hir_attrs.specs.declared.attrs.Attrs.{Attrs}
use Rattle.hir_attrs.specs.declared.names.MarkName.{MarkName}
use Rattle.hir_attrs.specs.declared.names.MarkName.TheVariants as mark
use Rattle.hir_attrs.specs.declared.special.SpecialMethod.{SpecialMethod}
use Rattle.hir_mark_contexts.specs.Contexts.{allows, is_method, may_be_renamed, is_tested}
use Rattle.hir_mark_contexts.specs.Sets.{has_mark}
use Rattle.hir_mark_contexts.specs.Told.{context_errors, is_misplaced, misplaced_abi_rename, misplaced_mark, misplaced_marks, misplaced_special, placing_errors, tested_errors, unsupported_includes}
use Rattle.hir_mark_contexts.specs.declared.contexts.MarkContext.{MarkContext}
use Rattle.hir_mark_rules.specs.ContextBreaks.{ContextBreaks, TestedMarksBreak}
use Rattle.hir_mark_rules.specs.MarkBreaks.{MarksBreak}
use Rattle.hir_mark_rules.specs.rules.IncludeUnsupported.{IncludeUnsupported}
use Rattle.hir_mark_rules.specs.rules.MarkMisplaced.{MarkMisplaced}
use Rattle.hir_mark_rules.proofs.MarksLemmas.{marks_exactly}
use Rattle.hir_mark_rules.proofs.NameLemmas.{named_mark}

-- ---- tests

not_so : (b : Bool) → not b ≡ true → b ≡ false
not_so true h = cc
not_so false h = refl

so_not : (b : Bool) → b ≡ false → not b ≡ true
so_not true h = cc
so_not false h = refl

-- one thing and not another
pub has_without : (a b : Bool) → a && not b ≡ true → (a ≡ true) × (b ≡ false)
has_without true b h = (refl, not_so b h)
has_without false b h = cc

pub but_not : (a b : Bool) → a ≡ true → b ≡ false → a && not b ≡ true
but_not true b h i = so_not b i
but_not false b h i = cc

there : {A : Type 0} (x : Option A) → is_some x ≡ true → (a : A) × (x ≡ Some a)
there None h = cc
there (Some a) h = (a, refl)

is_there : {A : Type 0} (x : Option A) (a : A) → x ≡ Some a → is_some x ≡ true
is_there None a h = cc
is_there (Some b) a h = refl

-- ---- all marks are in the table

listed_by : {X : Type 0} (y x : X) (ys : List X) (rest : Option X) (b : Bool) → (rest ≡ Some x → Contains ys x) → cond b (Some y) rest ≡ Some x → Contains (y ∷ ys) x
listed_by y x ys rest true more h = subst (λ z. Contains (y ∷ ys) z) (cc h) (in_first y ys)
listed_by y x ys rest false more h = in_rest y ys x (more h)

found_listed : {X : Type 0} (p : X → Bool) (xs : List X) (x : X) → find p xs ≡ Some x → Contains xs x
found_listed p [] x h = absurd cc
found_listed p (y ∷ ys) x h = listed_by y x ys (find p ys) (p y) (found_listed p ys x) h

mark_listed : (it : MarkName) → Contains every_mark it
mark_listed it = found_listed (is_mark_called (mark_text it)) every_mark it (named_mark it)

-- ---- each part

module _ (context : MarkContext) (attrs : Attrs) where
  abbrev MarkTold : MarkName → LoweringError → Type 0
  MarkTold it e = (is_misplaced context attrs it ≡ true) × (e ≡ about rule.MarkMisplaced (mark_text it))

  abbrev MarksTold : LoweringError → Type 0
  MarksTold e = (it : MarkName) × (Contains every_mark it × MarkTold it e)

  mark_exactly : (it : MarkName) → TellsExactly (misplaced_mark context attrs it) (MarkTold it)
  mark_exactly it =
      exactly_where (is_misplaced context attrs it) (about rule.MarkMisplaced (mark_text it) ∷ []) (λ e. e ≡ about rule.MarkMisplaced (mark_text it))
      (exactly_one (about rule.MarkMisplaced (mark_text it)))

  each_exactly : TellsExactly (misplaced_marks context attrs) MarksTold
  each_exactly = exactly_each (misplaced_mark context attrs) MarkTold mark_exactly every_mark

  abbrev AbiTold : LoweringError → Type 0
  AbiTold e = (is_some attrs.abi_rename && not (may_be_renamed context) ≡ true) × (e ≡ about rule.MarkMisplaced (codes "abi_rename"))

  abi_exactly : TellsExactly (misplaced_abi_rename context attrs) AbiTold
  abi_exactly =
      exactly_where (is_some attrs.abi_rename && not (may_be_renamed context)) (about rule.MarkMisplaced (codes "abi_rename") ∷ []) (λ e. e ≡ about rule.MarkMisplaced (codes "abi_rename"))
      (exactly_one (about rule.MarkMisplaced (codes "abi_rename")))

abbrev SpecialTold : MarkContext → Option SpecialMethod → LoweringError → Type 0
SpecialTold context found e =
    (it : SpecialMethod) × ((found ≡ Some it) × ((is_method context ≡ false) × (e ≡ about rule.MarkMisplaced (special_text (special_kind it)))))

special_exactly : (context : MarkContext) (found : Option SpecialMethod) → TellsExactly (misplaced_special context found) (SpecialTold context found)
special_exactly context None e = (λ h. absurd (in_none e h), λ h. cc)
special_exactly context (Some it) e =
    let error = about rule.MarkMisplaced (special_text (special_kind it)) in
    let told = exactly_where (not (is_method context)) (error ∷ []) (λ d. d ≡ error) (exactly_one error) e in (
      λ h. (it, (refl, (not_so (is_method context) (told.0 h).0, (told.0 h).1))),
      λ h. told.1 (so_not (is_method context) h.1.1.0, subst (λ m. e ≡ about rule.MarkMisplaced (special_text (special_kind m))) (cc h.1.0) h.1.1.1),
    )

module _ (backend : Backend) (attrs : Attrs) where
  abbrev includes : Bool
  includes = has_mark mark.CustomExtraCode attrs && not (flag_on backend.supports flag.CustomBindings)

  includes_exactly : TellsExactly (unsupported_includes backend attrs) (λ e. (includes ≡ true) × (e ≡ plain_error rule.IncludeUnsupported))
  includes_exactly =
      exactly_where includes (plain_error rule.IncludeUnsupported ∷ []) (λ e. e ≡ plain_error rule.IncludeUnsupported) (exactly_one (plain_error rule.IncludeUnsupported))

-- ---- all of it

module _ (backend : Backend) (context : MarkContext) (attrs : Attrs) where
  abbrev IncludesTold : LoweringError → Type 0
  IncludesTold e = (includes backend attrs ≡ true) × (e ≡ plain_error rule.IncludeUnsupported)

  abbrev PlacingTold : LoweringError → Type 0
  PlacingTold e = MarksTold context attrs e ⊎ (SpecialTold context attrs.special_method e ⊎ (AbiTold context attrs e ⊎ IncludesTold e))

  placing_exactly : TellsExactly (placing_errors backend context attrs) PlacingTold
  placing_exactly =
      let marks = misplaced_marks context attrs in
      let special = misplaced_special context attrs.special_method in
      let abi = misplaced_abi_rename context attrs in
      let code = unsupported_includes backend attrs in
      exactly_both marks (special ++ (abi ++ code)) (MarksTold context attrs) (λ e. SpecialTold context attrs.special_method e ⊎ (AbiTold context attrs e ⊎ IncludesTold e)) (each_exactly context attrs)
      (exactly_both special (abi ++ code) (SpecialTold context attrs.special_method) (λ e. AbiTold context attrs e ⊎ IncludesTold e) (special_exactly context attrs.special_method)
      (exactly_both abi code (AbiTold context attrs) IncludesTold (abi_exactly context attrs) (includes_exactly backend attrs)))

  misplaced : (e : LoweringError) (name : List ℕ) → is_tested context attrs ≡ true → MarkMisplaced context attrs name → e ≡ about rule.MarkMisplaced name → ContextBreaks backend context attrs e
  misplaced e name tested breaks is = subst (λ d. ContextBreaks backend context attrs d) (sym is) (ContextBreaks.mark_misplaced name tested breaks)

  breaks_of : (e : LoweringError) → is_tested context attrs ≡ true → PlacingTold e → ContextBreaks backend context attrs e
  breaks_of e tested h = elim h [
    | inl m ↦
        let so = has_without (has_mark m.0 attrs) (allows m.0 context) m.1.1.0 in
        misplaced e (mark_text m.0) tested (MarkMisplaced.mark m.0 so.0 so.1) m.1.1.1
    | inr rest ↦ elim rest [
      | inl s ↦ misplaced e (special_text (special_kind s.0)) tested (MarkMisplaced.special s.0 s.1.0 s.1.1.0) s.1.1.1
      | inr more ↦ elim more [
        | inl a ↦
            let so = has_without (is_some attrs.abi_rename) (may_be_renamed context) a.0 in
            let pattern = there attrs.abi_rename so.0 in
            misplaced e (codes "abi_rename") tested (MarkMisplaced.abi_rename pattern.0 pattern.1 so.1) a.1
        | inr c ↦
            let so = has_without (has_mark mark.CustomExtraCode attrs) (flag_on backend.supports flag.CustomBindings) c.0 in
            subst (λ d. ContextBreaks backend context attrs d) (sym c.1) (ContextBreaks.include_unsupported tested (record { includes = so.0; unsupported = so.1 }))
      ]
    ]
  ]

  placed : (name : List ℕ) → MarkMisplaced context attrs name → PlacingTold (about rule.MarkMisplaced name)
  placed _ (MarkMisplaced.mark it has refuses) = inl (it, (mark_listed it, (but_not (has_mark it attrs) (allows it context) has refuses, refl)))
  placed _ (MarkMisplaced.special it is other) = inr (inl (it, (is, (other, refl))))
  placed _ (MarkMisplaced.abi_rename pattern is other) =
      inr (inr (inl (but_not (is_some attrs.abi_rename) (may_be_renamed context) (is_there attrs.abi_rename pattern is) other, refl)))

  told_of : (e : LoweringError) → ContextBreaks backend context attrs e → (is_tested context attrs ≡ true) × PlacingTold e
  told_of _ (ContextBreaks.mark_misplaced name tested breaks) = (tested, placed name breaks)
  told_of _ (ContextBreaks.include_unsupported tested breaks) =
      (tested, inr (inr (inr (but_not (has_mark mark.CustomExtraCode attrs) (flag_on backend.supports flag.CustomBindings) breaks.includes breaks.unsupported, refl))))

  -- of a set in its context
  pub context_exactly : TellsExactly (context_errors backend context attrs) (ContextBreaks backend context attrs)
  unfolding context_errors
  context_exactly =
      exactly_as (context_errors backend context attrs) (λ e. (is_tested context attrs ≡ true) × PlacingTold e) (ContextBreaks backend context attrs)
      (λ e. (λ h. breaks_of e h.0 h.1, λ h. told_of e h))
      (exactly_where (is_tested context attrs) (placing_errors backend context attrs) PlacingTold placing_exactly)

-- of the marks of a declaration, and of the set that they make
pub tested_exactly : (backend : Backend) (context : MarkContext) (declared : DeclaredAttrs) (parent : Attrs)
    → TellsExactly (tested_errors backend context declared parent) (TestedMarksBreak backend context declared parent)
unfolding tested_errors
tested_exactly backend context declared parent =
    exactly_both (marks_errors backend declared parent) (context_errors backend context (marks_of backend declared parent)) (MarksBreak backend declared parent)
    (ContextBreaks backend context (marks_of backend declared parent)) (marks_exactly backend declared parent) (context_exactly backend context (marks_of backend declared parent))
