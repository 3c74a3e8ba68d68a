-- What is told of methods that stand once on a type is what breaks a rule.
use Rattle.std.proofs.Common.{◌≡◌, ◌⊎◌, inl, inr, ℕ, List, [], ◌∷◌, ◌++◌, map, Bool, true, false, Option, Some, None, refl, ap, subst, sym, ◌∙◌}
use Rattle.std.specs.Prelude.{◌&&◌, ◌||◌, not}
use Rattle.std.specs.List.{Contains}
use Rattle.std.proofs.lemmas.List.Elements.{Contains-append_cases, Contains-append_left, Contains-append_right}
use Rattle.bridge_decl.specs.declared.methods.Method.{Method}
use Rattle.bridge_telling.specs.Telling.{TellsExactly}
use Rattle.bridge_telling.proofs.ExactLemmas.{exactly_one, exactly_where, in_cases, in_first, in_none, in_rest}
use Rattle.bridge_telling.proofs.GivenLemmas.{in_map, mapped}
use Rattle.bridge_telling.proofs.TestLemmas.{or_cases, or_first, or_second}
use Rattle.hir_attrs.specs.Reading.{about}
use Rattle.hir_attrs.specs.Special.{special_text}
use Rattle.hir_attrs.specs.declared.attrs.Attrs.{Attrs}
use Rattle.hir_attrs.specs.declared.special.kind.SpecialKind.{SpecialKind}
use Rattle.hir_attrs.specs.declared.special.kind.SpecialKind.TheVariants as kind
use Rattle.hir_backends.specs.Support.{flag_on}
use Rattle.hir_backends.specs.declared.support.BackendAttrSupport.{BackendAttrSupport}
use Rattle.hir_backends.specs.declared.support.flag.SupportFlag.TheVariants as flag
use Rattle.hir_items.specs.Repeated.{method_kind, repeated_report, repeated_reports}
use Rattle.hir_items.specs.Setting.{Setting}
use Rattle.hir_reports.specs.Store.{at_place, told_at}
use Rattle.hir_reports.specs.declared.report.LoweringError.{LoweringError}
use Rattle.hir_reports.specs.declared.report.LoweringReport.{LoweringReport}
use Rattle.hir_reports.specs.declared.rule.Rule.TheVariants as rule
use Rattle.hir_special.specs.Repeated.{is_comparison, is_constructor, is_iterable, is_iterator, is_repeated, none_seen, repeated_errors, seen_after, seen_with}
use Rattle.hir_special.specs.declared.repeated.SeenSpecials.{SeenSpecials}
use Rattle.hir_rules.specs.Items.{AtMethod}
use Rattle.hir_rules.specs.rules.SpecialRepeated.{SpecialRepeated, StandsOnce}

-- ---- which were seen

module _ {X : Type 0} (kind_of : X → Option SpecialKind) where
  abbrev seen_all : List X → SeenSpecials → SeenSpecials
  seen_all [] seen = seen
  seen_all (x ∷ xs) seen = seen_all xs (seen_after (kind_of x) seen)

  -- one of these has that kind
  abbrev Has : SpecialKind → List X → Type 0
  Has it xs = (x : X) × (Contains xs x × (kind_of x ≡ Some it))

  module _ (it : SpecialKind) (field : SeenSpecials → Bool) (test : SpecialKind → Bool) (itself : test it ≡ true) (sole : (k : SpecialKind) → test k ≡ true → k ≡ it)
      (step : (k : SpecialKind) (seen : SeenSpecials) → field (seen_with k seen) ≡ field seen || test k)
    where
      -- so one that was seen is one of the list, or was seen before
      after_one : (found : Option SpecialKind) (seen : SeenSpecials) → field (seen_after found seen) ≡ true → (field seen ≡ true) ⊎ (found ≡ Some it)
      after_one None seen h = inl h
      after_one (Some k) seen h = elim (or_cases (field seen) (test k) (sym (step k seen) ∙ h)) [ inl s ↦ inl s | inr t ↦ inr (ap (λ x. Some x) (sole k t)) ]

      stays : (found : Option SpecialKind) (seen : SeenSpecials) → field seen ≡ true → field (seen_after found seen) ≡ true
      stays None seen h = h
      stays (Some k) seen h = step k seen ∙ or_first (field seen) (test k) h

      all_stays : (xs : List X) (seen : SeenSpecials) → field seen ≡ true → field (seen_all xs seen) ≡ true
      all_stays [] seen h = h
      all_stays (x ∷ xs) seen h = all_stays xs (seen_after (kind_of x) seen) (stays (kind_of x) seen h)

      pub seen_from : (xs : List X) (seen : SeenSpecials) → field (seen_all xs seen) ≡ true → (field seen ≡ true) ⊎ Has it xs
      seen_from [] seen h = inl h
      seen_from (x ∷ xs) seen h = elim (seen_from xs (seen_after (kind_of x) seen) h) [
        | inl s ↦ elim (after_one (kind_of x) seen s) [ inl before ↦ inl before | inr here ↦ inr (x, (in_first x xs, here)) ]
        | inr more ↦ inr (more.0, (in_rest x xs more.0 more.1.0, more.1.1))
      ]

      now_seen : (seen : SeenSpecials) → field (seen_with it seen) ≡ true
      now_seen seen = step it seen ∙ or_second (field seen) (test it) itself

      pub from_seen : (xs : List X) (seen : SeenSpecials) → Has it xs → field (seen_all xs seen) ≡ true
      from_seen [] seen h = absurd (in_none h.0 h.1.0)
      from_seen (x ∷ xs) seen h = elim (in_cases x xs h.0 h.1.0) [
        | inl is ↦
            let here : kind_of x ≡ Some it = ap kind_of (sym is) ∙ h.1.1 in
            all_stays xs (seen_after (kind_of x) seen) (subst (λ k. field (seen_after k seen) ≡ true) (sym here) (now_seen seen))
        | inr c ↦ from_seen xs (seen_after (kind_of x) seen) (h.0, (c, h.1.1))
      ]

constructor_alone : (k : SpecialKind) → is_constructor k ≡ true → k ≡ kind.Constructor
constructor_alone kind.Constructor h = refl
constructor_alone _ h = cc

comparison_alone : (k : SpecialKind) → is_comparison k ≡ true → k ≡ kind.Comparison
comparison_alone kind.Comparison h = refl
comparison_alone _ h = cc

iterator_alone : (k : SpecialKind) → is_iterator k ≡ true → k ≡ kind.Iterator
iterator_alone kind.Iterator h = refl
iterator_alone _ h = cc

iterable_alone : (k : SpecialKind) → is_iterable k ≡ true → k ≡ kind.Iterable
iterable_alone kind.Iterable h = refl
iterable_alone _ h = cc

-- ---- which is one too many

module _ {X : Type 0} (kind_of : X → Option SpecialKind) (support : BackendAttrSupport) (before : List X) where
  abbrev seen : SeenSpecials
  seen = seen_all kind_of before none_seen

  seen_constructor : seen.constructor ≡ true → Has kind_of kind.Constructor before
  seen_constructor h =
      elim (seen_from kind_of kind.Constructor (λ s. s.constructor) is_constructor refl constructor_alone (λ k s. refl) before none_seen h) [ inl none ↦ absurd cc | inr has ↦ has ]

  seen_comparison : seen.comparison ≡ true → Has kind_of kind.Comparison before
  seen_comparison h =
      elim (seen_from kind_of kind.Comparison (λ s. s.comparison) is_comparison refl comparison_alone (λ k s. refl) before none_seen h) [ inl none ↦ absurd cc | inr has ↦ has ]

  seen_iterator : seen.iterator ≡ true → Has kind_of kind.Iterator before
  seen_iterator h =
      elim (seen_from kind_of kind.Iterator (λ s. s.iterator) is_iterator refl iterator_alone (λ k s. refl) before none_seen h) [ inl none ↦ absurd cc | inr has ↦ has ]

  seen_iterable : seen.iterable ≡ true → Has kind_of kind.Iterable before
  seen_iterable h =
      elim (seen_from kind_of kind.Iterable (λ s. s.iterable) is_iterable refl iterable_alone (λ k s. refl) before none_seen h) [ inl none ↦ absurd cc | inr has ↦ has ]

  lone : (overloads was : Bool) → (not overloads && was) || false ≡ true → (overloads ≡ false) × (was ≡ true)
  lone true was h = cc
  lone false true h = (refl, refl)
  lone false false h = cc

  once : (was : Bool) → was || false ≡ true → was ≡ true
  once true h = refl
  once false h = cc

  -- it stands once, and one before it has its kind
  pub repeats : (it : SpecialKind) → is_repeated support seen it ≡ true → StandsOnce support it × Has kind_of it before
  unfolding is_repeated
  repeats kind.Constructor h =
      let parts = lone (flag_on support flag.MethodOverloading) seen.constructor h in
      (StandsOnce.constructor parts.0, seen_constructor parts.1)
  repeats kind.Comparison h = (StandsOnce.comparison, seen_comparison (once seen.comparison h))
  repeats kind.Iterator h = (StandsOnce.iterator, seen_iterator (once seen.iterator h))
  repeats kind.Iterable h = (StandsOnce.iterable, seen_iterable h)
  repeats _ h = cc

  lone_one : (overloads was : Bool) → overloads ≡ false → was ≡ true → (not overloads && was) || false ≡ true
  lone_one true was h i = cc
  lone_one false true h i = refl
  lone_one false false h i = cc

  or_true : (was : Bool) → was ≡ true → was || false ≡ true
  or_true true h = refl
  or_true false h = cc

  pub is_one_too_many : (it : SpecialKind) → StandsOnce support it → Has kind_of it before → is_repeated support seen it ≡ true
  unfolding is_repeated
  is_one_too_many _ (StandsOnce.constructor off) has =
      lone_one (flag_on support flag.MethodOverloading) seen.constructor off
      (from_seen kind_of kind.Constructor (λ s. s.constructor) is_constructor refl constructor_alone (λ k s. refl) before none_seen has)
  is_one_too_many _ StandsOnce.comparison has =
      or_true seen.comparison (from_seen kind_of kind.Comparison (λ s. s.comparison) is_comparison refl comparison_alone (λ k s. refl) before none_seen has)
  is_one_too_many _ StandsOnce.iterator has =
      or_true seen.iterator (from_seen kind_of kind.Iterator (λ s. s.iterator) is_iterator refl iterator_alone (λ k s. refl) before none_seen has)
  is_one_too_many _ StandsOnce.iterable has =
      from_seen kind_of kind.Iterable (λ s. s.iterable) is_iterable refl iterable_alone (λ k s. refl) before none_seen has

-- ---- of the methods of a type

module _ (s : Setting) (path : List (List ℕ)) (name : List ℕ) (set : Attrs) where
  abbrev kind_in : Method → Option SpecialKind
  kind_in method = method_kind s.backend set method

  abbrev reports_after : SeenSpecials → List Method → List LoweringReport
  reports_after was methods = repeated_reports s.backend s.support path name set was methods

  abbrev repeated_error : SpecialKind → LoweringError
  repeated_error it = about rule.SpecialRepeated (special_text it)

  error_exactly : (was : SeenSpecials) (it : SpecialKind) → TellsExactly (repeated_errors s.support was (Some it)) (λ e. (is_repeated s.support was it ≡ true) × (e ≡ repeated_error it))
  error_exactly was it = exactly_where (is_repeated s.support was it) (repeated_error it ∷ []) (λ e. e ≡ repeated_error it) (exactly_one (repeated_error it))

  -- a method of the list that is one too many after those that were seen and those before it
  record OneTooMany (was : SeenSpecials) (methods : List Method) (r : LoweringReport) : Type 0 where
    before : List Method
    it : Method
    after : List Method
    listed : methods ≡ before ++ it ∷ after
    of_kind : SpecialKind
    is_kind : kind_in it ≡ Some of_kind
    repeated : is_repeated s.support (seen_all kind_in before was) of_kind ≡ true
    says : r ≡ told_at (at_place path name (Some it.name)) (repeated_error of_kind)

  first_of : (was : SeenSpecials) (method : Method) (methods : List Method) (found : Option SpecialKind) (r : LoweringReport) → kind_in method ≡ found
      → Contains (map (told_at (at_place path name (Some method.name))) (repeated_errors s.support was found)) r → OneTooMany was (method ∷ methods) r
  first_of was method methods None r is h = absurd (in_none r h)
  first_of was method methods (Some it) r is h =
      let from = mapped (told_at (at_place path name (Some method.name))) (repeated_errors s.support was (Some it)) r h in
      let told = (error_exactly was it from.0).0 from.1.0 in
      record {
        before = [];
        it = method;
        after = methods;
        listed = refl;
        of_kind = it;
        is_kind = is;
        repeated = told.0;
        says = from.1.1 ∙ ap (told_at (at_place path name (Some method.name))) told.1;
      }

  told_each : (was : SeenSpecials) (methods : List Method) (r : LoweringReport) → Contains (reports_after was methods) r → OneTooMany was methods r
  told_each was [] r h = absurd (in_none r h)
  told_each was (method ∷ methods) r h =
      let now = seen_after (kind_in method) was in
      elim (Contains-append_cases (repeated_report s.backend s.support path name set was method) (reports_after now methods) r h) [
        | inl c ↦ first_of was method methods (kind_in method) r refl c
        | inr c ↦
            let more = told_each now methods r c in
            record {
              before = method ∷ more.before;
              it = more.it;
              after = more.after;
              listed = ap (λ xs. method ∷ xs) more.listed;
              of_kind = more.of_kind;
              is_kind = more.is_kind;
              repeated = more.repeated;
              says = more.says;
            }
      ]

  told_one : (was : SeenSpecials) (before : List Method) (it : Method) (after : List Method) (of_kind : SpecialKind) → kind_in it ≡ Some of_kind
      → is_repeated s.support (seen_all kind_in before was) of_kind ≡ true
      → Contains (reports_after was (before ++ it ∷ after)) (told_at (at_place path name (Some it.name)) (repeated_error of_kind))
  told_one was [] it after of_kind is repeated =
      let place = told_at (at_place path name (Some it.name)) in
      Contains-append_left (repeated_report s.backend s.support path name set was it) (reports_after (seen_after (kind_in it) was) after) (place (repeated_error of_kind))
      (subst (λ k. Contains (map place (repeated_errors s.support was k)) (place (repeated_error of_kind))) (sym is)
      (in_map place (repeated_errors s.support was (Some of_kind)) (repeated_error of_kind) ((error_exactly was of_kind (repeated_error of_kind)).1 (repeated, refl))))
  told_one was (method ∷ before) it after of_kind is repeated =
      let now = seen_after (kind_in method) was in
      Contains-append_right (repeated_report s.backend s.support path name set was method) (reports_after now (before ++ it ∷ after))
      (told_at (at_place path name (Some it.name)) (repeated_error of_kind)) (told_one now before it after of_kind is repeated)

  pub repeated_exactly : (methods : List Method) → TellsExactly (reports_after none_seen methods) (λ r. (m : Method) × AtMethod path name m.name (SpecialRepeated s set methods m) r)
  repeated_exactly methods r = (
    λ h.
        let one = told_each none_seen methods r h in
        let rule = repeats kind_in s.support one.before one.of_kind one.repeated in
        let breaks : SpecialRepeated s set methods one.it (repeated_error one.of_kind) = record {
          before = one.before;
          after = one.after;
          listed = one.listed;
          kind = one.of_kind;
          once = rule.0;
          is_kind = one.is_kind;
          earlier = rule.1.0;
          stands = rule.1.1.0;
          has_kind = rule.1.1.1;
          says = refl;
        } in
        (one.it, (repeated_error one.of_kind, (breaks, one.says))),
    λ h.
        let it = h.0 in
        let error = h.1.0 in
        let breaks = h.1.1.0 in
        let told =
        told_one none_seen breaks.before it breaks.after breaks.kind breaks.is_kind
        (is_one_too_many kind_in s.support breaks.before breaks.kind breaks.once (breaks.earlier, (breaks.stands, breaks.has_kind))) in
        subst (λ x. Contains (reports_after none_seen methods) x) (sym (h.1.1.1 ∙ ap (told_at (at_place path name (Some it.name))) breaks.says))
        (subst (λ ms. Contains (reports_after none_seen ms) (told_at (at_place path name (Some it.name)) (repeated_error breaks.kind))) (sym breaks.listed) told),
  )
