-- What is told of several parts, from what is told of each.
use Rattle.std.proofs.Common.{ℕ, ◌<◌, length, get_or, map, Result, Ok, Err, IfOk, ◌≡◌, true, false, true≢false, List, [], ◌∷◌, ◌++◌, Option, Some, None, is_some, refl, sym, subst}
use Rattle.std.specs.Option.{option_map}
use Rattle.std.proofs.lemmas.List.Elements.{All-nil, All-cons, All-append}
use Rattle.hir_ids.specs.declared.ids.SymbolId.{SymbolId}
use Rattle.hir_fitting.specs.Answering.{AnswersFitting}
use Rattle.hir_fitting.specs.Parts.{Part, PartFits, PartMisfits, method_part}
use Rattle.hir_definitions.specs.declared.methods.Method.{Method}
use Rattle.hir_fitting.specs.declared.definitions.Unfit.{Unfit}
use Rattle.hir_fitting.specs.declared.census.Census.{Census}
use Rattle.hir_fitting.specs.inside.Telling.{PartTells, PartsTell}
use Rattle.hir_fitting.proofs.Anywhere.{any_here, any_there, any_front, any_back, any_mapped}
use Rattle.hir_fitting.proofs.Deciding.{parts_fit_only}

module _ (census : Census) (holder : SymbolId) where
  -- something of the first part
  pub told_first : (part : Part) (parts : List Part) (told : Option SymbolId) → is_some told ≡ true → PartTells census holder part told → PartsTell census holder (part ∷ parts) told
  told_first part parts None some h = absurd (true≢false (sym some))
  told_first part parts (Some named) some h = any_here (λ p. PartMisfits census holder p named) part parts h

  -- nothing of the first part, and what is told of the others
  pub told_later : (part : Part) (parts : List Part) (first told : Option SymbolId) → is_some first ≡ false → PartTells census holder part first → PartsTell census holder parts told → PartsTell census holder (part ∷ parts) told
  told_later part parts (Some named) told none h rest = absurd (true≢false none)
  told_later part parts None None none h rest = All-cons (PartFits census) part parts h rest
  told_later part parts None (Some named) none h rest = any_there (λ p. PartMisfits census holder p named) part parts rest

  -- something of the parts in front
  pub told_front : (front back : List Part) (told : Option SymbolId) → is_some told ≡ true → PartsTell census holder front told → PartsTell census holder (front ++ back) told
  told_front front back None some h = absurd (true≢false (sym some))
  told_front front back (Some named) some h = any_front (λ p. PartMisfits census holder p named) front back h

  -- nothing of the parts in front, and what is told of those behind
  pub told_back : (front back : List Part) (first told : Option SymbolId) → is_some first ≡ false → PartsTell census holder front first → PartsTell census holder back told → PartsTell census holder (front ++ back) told
  told_back front back (Some named) told none h rest = absurd (true≢false none)
  told_back front back None None none h rest = All-append (PartFits census) front back h rest
  told_back front back None (Some named) none h rest = any_back (λ p. PartMisfits census holder p named) front back rest

  -- what is told of the only part
  pub told_alone : (part : Part) (told : Option SymbolId) → PartTells census holder part told → PartsTell census holder (part ∷ []) told
  told_alone part None h = All-cons (PartFits census) part [] h (All-nil (PartFits census))
  told_alone part (Some named) h = any_here (λ p. PartMisfits census holder p named) part [] h

  -- something of the method at a place
  pub told_at : (methods : List Method) (i : ℕ) (m : Method) (told : Option SymbolId) → i < length methods → m ≡ get_or methods i m → is_some told ≡ true → PartTells census holder (method_part m) told
      → PartsTell census holder (map method_part methods) told
  told_at methods i m None lt is some h = absurd (true≢false (sym some))
  told_at methods i m (Some named) lt is some h =
      any_mapped (λ p. PartMisfits census holder p named) method_part methods i m lt (subst (λ x. PartMisfits census holder (method_part x) named) is h)

  -- the same where there may have been no memory
  pub later_ok : {E : Type 0} (part : Part) (parts : List Part) (first : Option SymbolId) (r : Result (Option SymbolId) E) → is_some first ≡ false → PartTells census holder part first
      → IfOk r (PartsTell census holder parts) → IfOk r (PartsTell census holder (part ∷ parts))
  later_ok part parts first (Ok told) none h rest = told_later part parts first told none h rest
  later_ok part parts first (Err e) none h rest = tt

  pub back_ok : {E : Type 0} (front back : List Part) (first : Option SymbolId) (r : Result (Option SymbolId) E) → is_some first ≡ false → PartsTell census holder front first
      → IfOk r (PartsTell census holder back) → IfOk r (PartsTell census holder (front ++ back))
  back_ok front back first (Ok told) none h rest = told_back front back first told none h rest
  back_ok front back first (Err e) none h rest = tt

  pub alone_ok : {E : Type 0} (part : Part) (r : Result (Option SymbolId) E) → IfOk r (PartTells census holder part) → IfOk r (PartsTell census holder (part ∷ []))
  alone_ok part (Ok told) h = told_alone part told h
  alone_ok part (Err e) h = tt

  -- what is answered where this is told
  named_so : (parts : List Part) (told : Option SymbolId) → PartsTell census holder parts told → AnswersFitting census holder parts (option_map (λ n. record { holder = holder; named = n }) told)
  named_so parts None h = ((λ _. h, λ _. refl), tt)
  named_so parts (Some named) h = ((λ e. absurd (true≢false e), λ fits. absurd (parts_fit_only census holder parts named fits h)), (refl, h))

  pub answered : (parts : List Part) (told : Option SymbolId) (answer : Option Unfit) → answer ≡ option_map (λ n. record { holder = holder; named = n }) told → PartsTell census holder parts told → AnswersFitting census holder parts answer
  answered parts told answer is h = subst (AnswersFitting census holder parts) (sym is) (named_so parts told h)
