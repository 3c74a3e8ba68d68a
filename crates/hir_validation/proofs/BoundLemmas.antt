-- What is told of implied bounds is what breaks the rule.
use Rattle.std.proofs.Common.{◌≡◌, ◌≢◌, ◌<◌, ◌+◌, ◌⊎◌, inl, inr, ℕ, List, [], ◌∷◌, true, Option, Some, slice_get, refl, sym, subst, ap, ◌∙◌, arith}
use Rattle.std.specs.Prelude.{◌&&◌, not, nat_lt, ◌==◌, ⊤}
use Rattle.std.specs.List.{Contains, enumerate_from, flat_map}
use Rattle.std.proofs.lemmas.Bool.{eq-eqb, eqb-true, lt-ltb, ltb-true}
use Rattle.bridge_telling.specs.Telling.{TellsExactly}
use Rattle.bridge_telling.proofs.ExactLemmas.{exactly_as, exactly_both, exactly_each, exactly_if, in_none}
use Rattle.bridge_telling.proofs.TestLemmas.{and_parts, false_of_not, not_of_false, parts_and, passes_some, some_passes}
use Rattle.hir_context.specs.Lookups.{environment_at}
use Rattle.hir_context.specs.declared.parts.Definitions.{Definitions}
use Rattle.hir_ids.specs.declared.ids.TypeId.{TypeId}
use Rattle.hir_ids.specs.declared.ids.TypeId.TheVariants as type
use Rattle.hir_life.specs.Environment.{Environment}
use Rattle.hir_life.specs.declared.bounds.BoundedLifetime.{BoundedLifetime}
use Rattle.hir_life.specs.declared.maybe_static.MaybeStatic.{MaybeStatic}
use Rattle.hir_life.specs.declared.maybe_static.MaybeStatic.TheVariants.{NonStatic}
use Rattle.hir_mentions.specs.Mentions.{where_any}
use Rattle.hir_reports.specs.declared.report.LoweringError.{LoweringError}
use Rattle.hir_validation.specs.ImpliedBounds.{behind_errors, bound_error, definition_errors, implied_errors, lacks_bound, named_behind_errors, named_written_errors, numbered_outliving_errors, opaque_bound_errors, outliving_errors, written_errors, written_longer_errors}
use Rattle.hir_validation.specs.Lifetimes.{is_in_list, is_lifetime, where_number}
use Rattle.hir_validation.specs.WholeTypes.{Whole, Primitive, Enum, Opaque, Struct, Slice, Callback, Other}
use Rattle.hir_validation.specs.rules.ImpliedBound.{ImpliedBound, Implies, WritesBound}
use Rattle.hir_validation.proofs.ExactlyLemmas.{any_exactly, at_number, false_isnt, isnt, number_exactly, numbered_at}

-- ---- tests

one_of : (l : ℕ) (xs : List ℕ) → is_in_list l xs ≡ true → Contains xs l
one_of l xs h =
    let one = some_passes (is_lifetime l) xs h in
    subst (λ x. Contains xs x) (sym (eqb-true l one.0 one.1.1)) one.1.0

of_one : (l : ℕ) (xs : List ℕ) → Contains xs l → is_in_list l xs ≡ true
of_one l xs c = passes_some (is_lifetime l) xs l c (eq-eqb l l refl)

module _ (env : Environment) (u : ℕ) (shorter : BoundedLifetime) (l : ℕ) where
  abbrev Lacks : Type 0
  Lacks = (l ≢ u) × ((¬ (Contains shorter.longer l)) × (l < env.count))

  pub lacks_of : lacks_bound env u shorter l ≡ true → Lacks
  lacks_of h =
      let first = and_parts (not (l == u)) (not (is_in_list l shorter.longer) && nat_lt l env.count) h in
      let rest = and_parts (not (is_in_list l shorter.longer)) (nat_lt l env.count) first.1 in (
        (λ same. false_isnt (l == u) (false_of_not (l == u) first.0) (eq-eqb l u same)),
        (
          (λ c. false_isnt (is_in_list l shorter.longer) (false_of_not (is_in_list l shorter.longer) rest.0) (of_one l shorter.longer c)),
          ltb-true l env.count rest.1,
        ),
      )

  pub of_lacks : Lacks → lacks_bound env u shorter l ≡ true
  of_lacks h =
      parts_and (not (l == u)) (not (is_in_list l shorter.longer) && nat_lt l env.count)
      (not_of_false (l == u) (isnt (l == u) (λ t. h.0 (eqb-true l u t))))
      (parts_and (not (is_in_list l shorter.longer)) (nat_lt l env.count)
      (not_of_false (is_in_list l shorter.longer) (isnt (is_in_list l shorter.longer) (λ t. h.1.0 (one_of l shorter.longer t))))
      (lt-ltb l env.count h.1.1))

-- ---- bounds

module _ (defs : Definitions) (env : Environment) (source : List ℕ) where
  -- the type breaks the rule so
  abbrev pub BoundOf : Whole → LoweringError → Type 0
  BoundOf ty e = (longer : ℕ) × ((shorter : ℕ) × ((names : List (List ℕ)) × (ImpliedBound defs env ty longer shorter names × (e ≡ bound_error env source shorter longer names))))

  abbrev Out : ℕ → BoundedLifetime → List (List ℕ) → MaybeStatic ℕ → LoweringError → Type 0
  Out u shorter names x e = (l : ℕ) × ((x ≡ NonStatic l) × ((lacks_bound env u shorter l ≡ true) × (e ≡ bound_error env source u l names)))

  out_exactly : (u : ℕ) (shorter : BoundedLifetime) (names : List (List ℕ)) (x : MaybeStatic ℕ)
      → TellsExactly (outliving_errors env source u shorter names x) (Out u shorter names x)
  out_exactly u shorter names x =
      number_exactly (numbered_outliving_errors env source u shorter names) (λ l e. (lacks_bound env u shorter l ≡ true) × (e ≡ bound_error env source u l names))
      (λ l. exactly_if (lacks_bound env u shorter l) (bound_error env source u l names)) x

  bound_of : (ty : Whole) (x y : MaybeStatic ℕ) (names : List (List ℕ)) (u : ℕ) (shorter : BoundedLifetime) (e : LoweringError)
      → Implies defs x y names ty → y ≡ NonStatic u → slice_get env.bounds u ≡ Some shorter → Out u shorter names x e → BoundOf ty e
  bound_of ty x y names u shorter e implies is_u named out =
      let lacks = lacks_of env u shorter out.0 out.1.1.0 in (
        out.0,
        (
          u,
          (
            names,
            (
              record {
                implied = subst (λ (a : MaybeStatic ℕ). Implies defs a (NonStatic u) names ty) out.1.0 (subst (λ (b : MaybeStatic ℕ). Implies defs x b names ty) is_u implies);
                bounds = shorter;
                named = named;
                apart = lacks.0;
                undeclared = lacks.1.0;
                within = lacks.1.1;
              },
              out.1.1.1,
            ),
          ),
        ),
      )

  out_of : (ty : Whole) (longer u : ℕ) (names : List (List ℕ)) (e : LoweringError) (b : ImpliedBound defs env ty longer u names) → e ≡ bound_error env source u longer names
      → Out u b.bounds names (NonStatic longer) e
  out_of ty longer u names e b is = (longer, (refl, (of_lacks env u b.bounds longer (b.apart, (b.undeclared, b.within)), is)))

  -- ---- bounds that a definition writes

  module _ (definition : Environment) (given : List (MaybeStatic ℕ)) where
    abbrev Longer : BoundedLifetime → ℕ → BoundedLifetime → ℕ → LoweringError → Type 0
    Longer written u shorter number e =
        (longer : BoundedLifetime) × ((slice_get definition.bounds number ≡ Some longer)
        × ((x : MaybeStatic ℕ) × ((slice_get given number ≡ Some x) × Out u shorter (longer.ident ∷ written.ident ∷ []) x e)))

    longer_exactly : (written : BoundedLifetime) (u : ℕ) (shorter : BoundedLifetime) (number : ℕ)
        → TellsExactly (written_longer_errors env source definition given written u shorter number) (Longer written u shorter number)
    longer_exactly written u shorter number =
        any_exactly (λ longer. where_any (outliving_errors env source u shorter (longer.ident ∷ written.ident ∷ [])) (slice_get given number))
        (λ longer e. (x : MaybeStatic ℕ) × ((slice_get given number ≡ Some x) × Out u shorter (longer.ident ∷ written.ident ∷ []) x e))
        (λ longer. any_exactly (outliving_errors env source u shorter (longer.ident ∷ written.ident ∷ [])) (Out u shorter (longer.ident ∷ written.ident ∷ []))
        (out_exactly u shorter (longer.ident ∷ written.ident ∷ [])) (slice_get given number)) (slice_get definition.bounds number)

    abbrev NamedWritten : BoundedLifetime → ℕ → LoweringError → Type 0
    NamedWritten written u e =
        (shorter : BoundedLifetime) × ((slice_get env.bounds u ≡ Some shorter) × ((number : ℕ) × (Contains written.longer number × Longer written u shorter number e)))

    named_exactly : (written : BoundedLifetime) (u : ℕ) → TellsExactly (named_written_errors env source definition given written u) (NamedWritten written u)
    named_exactly written u =
        any_exactly (λ shorter. flat_map (written_longer_errors env source definition given written u shorter) written.longer)
        (λ shorter e. (number : ℕ) × (Contains written.longer number × Longer written u shorter number e))
        (λ shorter. exactly_each (written_longer_errors env source definition given written u shorter) (Longer written u shorter) (longer_exactly written u shorter) written.longer)
        (slice_get env.bounds u)

    abbrev Written : ℕ × BoundedLifetime → LoweringError → Type 0
    Written numbered e =
        (y : MaybeStatic ℕ) × ((slice_get given numbered.0 ≡ Some y) × ((u : ℕ) × ((y ≡ NonStatic u) × NamedWritten numbered.1 u e)))

    written_exactly : (numbered : ℕ × BoundedLifetime) → TellsExactly (written_errors env source definition given numbered) (Written numbered)
    written_exactly numbered =
        any_exactly (where_number (named_written_errors env source definition given numbered.1)) (λ y e. (u : ℕ) × ((y ≡ NonStatic u) × NamedWritten numbered.1 u e))
        (number_exactly (named_written_errors env source definition given numbered.1) (NamedWritten numbered.1) (named_exactly numbered.1)) (slice_get given numbered.0)

    abbrev Defined : LoweringError → Type 0
    Defined e = (numbered : ℕ × BoundedLifetime) × (Contains (enumerate_from 0 definition.bounds) numbered × Written numbered e)

    defined_exactly : TellsExactly (definition_errors env source given definition) Defined
    defined_exactly = exactly_each (written_errors env source definition given) Written written_exactly (enumerate_from 0 definition.bounds)

    same_place : (i n : ℕ) → 0 + i ≡ n → i ≡ n
    same_place i n is = omega (arith, is)

    -- what such a definition writes
    defined_bound : (ty : Whole) → ((x y : MaybeStatic ℕ) (names : List (List ℕ)) → WritesBound definition given x y names → Implies defs x y names ty) → (e : LoweringError)
        → Defined e → BoundOf ty e
    defined_bound ty implies e d =
        let numbered = d.0 in
        let at = numbered_at 0 definition.bounds numbered d.1.0 in
        let place = same_place at.0 numbered.0 at.1.0 in
        let w = d.1.1 in
        let named = w.1.1.1.1 in
        let longer = named.1.1.1.1 in
        bound_of ty longer.1.1.0 w.0 (longer.0.ident ∷ numbered.1.ident ∷ []) w.1.1.0 named.0 e
        (implies longer.1.1.0 w.0 (longer.0.ident ∷ numbered.1.ident ∷ []) (record {
          number = numbered.0;
          written = numbered.1;
          is_written = ap (slice_get definition.bounds) (sym place) ∙ at.1.1;
          outliving = named.1.1.0;
          declared = named.1.1.1.0;
          other = longer.0;
          is_other = longer.1.0;
          stands_for_longer = longer.1.1.1.0;
          stands_for_shorter = w.1.0;
          are_names = refl;
        }))
        w.1.1.1.0 named.1.0 longer.1.1.1.1

    bound_defined : (ty : Whole) (longer u : ℕ) (names : List (List ℕ)) (e : LoweringError) (b : ImpliedBound defs env ty longer u names)
        → e ≡ bound_error env source u longer names → WritesBound definition given (NonStatic longer) (NonStatic u) names → Defined e
    bound_defined ty longer u names e b is w = (
      (w.number, w.written),
      (
        at_number 0 definition.bounds w.number w.number w.written (same_zero w.number) w.is_written,
        (
          NonStatic u,
          (
            w.stands_for_shorter,
            (
              u,
              (
                refl,
                (
                  b.bounds,
                  (
                    b.named,
                    (
                      w.outliving,
                      (
                        w.declared,
                        (
                          w.other,
                          (
                            w.is_other,
                            (
                              NonStatic longer,
                              (
                                w.stands_for_longer,
                                subst (λ (ns : List (List ℕ)). Out u b.bounds ns (NonStatic longer) e) w.are_names (out_of ty longer u names e b is),
                              ),
                            ),
                          ),
                        ),
                      ),
                    ),
                  ),
                ),
              ),
            ),
          ),
        ),
      ),
    )
      where
        same_zero : (n : ℕ) → 0 + n ≡ n
        same_zero n = omega arith

  -- ---- bounds that a reference implies

  abbrev NamedBehind : List (MaybeStatic ℕ) → ℕ → LoweringError → Type 0
  NamedBehind given u e =
      (shorter : BoundedLifetime) × ((slice_get env.bounds u ≡ Some shorter) × ((x : MaybeStatic ℕ) × (Contains given x × Out u shorter [] x e)))

  abbrev Behind : List (MaybeStatic ℕ) → MaybeStatic ℕ → LoweringError → Type 0
  Behind given y e = (u : ℕ) × ((y ≡ NonStatic u) × NamedBehind given u e)

  behind_exactly : (given : List (MaybeStatic ℕ)) (y : MaybeStatic ℕ) → TellsExactly (behind_errors env source given y) (Behind given y)
  behind_exactly given y =
      number_exactly (named_behind_errors env source given) (NamedBehind given)
      (λ u. any_exactly (λ shorter. flat_map (outliving_errors env source u shorter []) given) (λ shorter e. (x : MaybeStatic ℕ) × (Contains given x × Out u shorter [] x e))
      (λ shorter. exactly_each (outliving_errors env source u shorter []) (Out u shorter []) (out_exactly u shorter []) given) (slice_get env.bounds u)) y

  -- ---- the whole

  abbrev OfDefinition : TypeId → List (MaybeStatic ℕ) → LoweringError → Type 0
  OfDefinition id given e = (definition : Environment) × ((environment_at defs id ≡ Some definition) × Defined definition given e)

  of_definition : (id : TypeId) (given : List (MaybeStatic ℕ)) → TellsExactly (where_any (definition_errors env source given) (environment_at defs id)) (OfDefinition id given)
  of_definition id given =
      any_exactly (definition_errors env source given) (λ definition. Defined definition given) (λ definition. defined_exactly definition given) (environment_at defs id)

  abbrev OfBorrow : Option (MaybeStatic ℕ) → List (MaybeStatic ℕ) → LoweringError → Type 0
  OfBorrow borrow given e = (y : MaybeStatic ℕ) × ((borrow ≡ Some y) × Behind given y e)

  of_borrow : (borrow : Option (MaybeStatic ℕ)) (given : List (MaybeStatic ℕ)) → TellsExactly (where_any (behind_errors env source given) borrow) (OfBorrow borrow given)
  of_borrow borrow given = any_exactly (behind_errors env source given) (Behind given) (behind_exactly given) borrow

  opaque_each : (number : ℕ) (borrow : Option (MaybeStatic ℕ)) (given : List (MaybeStatic ℕ)) (e : LoweringError)
      → OfDefinition (type.Opaque number) given e ⊎ OfBorrow borrow given e → BoundOf (Opaque number borrow given) e
  opaque_each number borrow given e h = elim h [
    | inl d ↦ defined_bound d.0 given (Opaque number borrow given) (λ x y names w. Implies.opaque number borrow given d.0 d.1.0 w) e d.1.1
    | inr b ↦
        let named = b.1.1.1.1 in
        bound_of (Opaque number borrow given) named.1.1.0 b.0 [] b.1.1.0 named.0 e (Implies.behind number borrow given b.1.0 named.1.1.1.0 refl) b.1.1.1.0 named.1.0 named.1.1.1.1
  ]

  opaque_cases : (number : ℕ) (borrow : Option (MaybeStatic ℕ)) (given : List (MaybeStatic ℕ)) (longer u : ℕ) (names : List (List ℕ)) (e : LoweringError)
      (b : ImpliedBound defs env (Opaque number borrow given) longer u names) → e ≡ bound_error env source u longer names
      → Implies defs (NonStatic longer) (NonStatic u) names (Opaque number borrow given)
      → OfDefinition (type.Opaque number) given e ⊎ OfBorrow borrow given e
  opaque_cases number borrow given longer u names e b is (Implies.opaque _ _ _ definition defined w) =
      inl (definition, (defined, bound_defined definition given (Opaque number borrow given) longer u names e b is w))
  opaque_cases number borrow given longer u names e b is (Implies.behind _ _ _ is_borrow has none) =
      inr (
        NonStatic u,
        (
          is_borrow,
          (
            u,
            (
              refl,
              (
                b.bounds,
                (
                  b.named,
                  (
                    NonStatic longer,
                    (
                      has,
                      subst (λ (ns : List (List ℕ)). Out u b.bounds ns (NonStatic longer) e) none
                          (out_of (Opaque number borrow given) longer u names e b is),
                    ),
                  ),
                ),
              ),
            ),
          ),
        ),
      )

  struct_cases : (id : TypeId) (held : _) (given : List (MaybeStatic ℕ)) (longer u : ℕ) (names : List (List ℕ)) (e : LoweringError)
      (b : ImpliedBound defs env (Struct id held given) longer u names) → e ≡ bound_error env source u longer names
      → Implies defs (NonStatic longer) (NonStatic u) names (Struct id held given) → OfDefinition id given e
  struct_cases id held given longer u names e b is (Implies.struct _ _ _ definition defined w) =
      (definition, (defined, bound_defined definition given (Struct id held given) longer u names e b is w))

  -- no other type implies any
  abbrev Bears : Whole → Type 0
  Bears (Opaque _ _ _) = ⊤
  Bears (Struct _ _ _) = ⊤
  Bears _ = ⊥

  bears : (x y : MaybeStatic ℕ) (names : List (List ℕ)) (ty : Whole) → Implies defs x y names ty → Bears ty
  bears x y names _ (Implies.opaque _ _ _ _ _ _) = tt
  bears x y names _ (Implies.behind _ _ _ _ _ _) = tt
  bears x y names _ (Implies.struct _ _ _ _ _ _) = tt

  none_exactly : (ty : Whole) → ¬ (Bears ty) → TellsExactly [] (BoundOf ty)
  none_exactly ty none e = (λ h. absurd (in_none e h), λ b. absurd (none (bears (NonStatic b.0) (NonStatic b.1.0) b.1.1.0 ty b.1.1.1.0.implied)))

  pub implied_exactly : (ty : Whole) → TellsExactly (implied_errors env source defs ty) (BoundOf ty)
  unfolding implied_errors
  implied_exactly (Opaque number borrow given) =
      exactly_as (opaque_bound_errors env source defs number borrow given) (λ e. OfDefinition (type.Opaque number) given e ⊎ OfBorrow borrow given e) (BoundOf (Opaque number borrow given))
      (λ e. (λ h. opaque_each number borrow given e h, λ b. opaque_cases number borrow given b.0 b.1.0 b.1.1.0 e b.1.1.1.0 b.1.1.1.1 b.1.1.1.0.implied))
      (exactly_both (where_any (definition_errors env source given) (environment_at defs (type.Opaque number))) (where_any (behind_errors env source given) borrow)
      (OfDefinition (type.Opaque number) given) (OfBorrow borrow given) (of_definition (type.Opaque number) given) (of_borrow borrow given))
  implied_exactly (Struct id held given) =
      exactly_as (where_any (definition_errors env source given) (environment_at defs id)) (OfDefinition id given) (BoundOf (Struct id held given))
      (λ e. (
        λ d. defined_bound d.0 given (Struct id held given) (λ x y names w. Implies.struct id held given d.0 d.1.0 w) e d.1.1,
        λ b. struct_cases id held given b.0 b.1.0 b.1.1.0 e b.1.1.1.0 b.1.1.1.1 b.1.1.1.0.implied,
      ))
      (of_definition id given)
  implied_exactly Primitive = none_exactly Primitive (λ b. b)
  implied_exactly (Enum number) = none_exactly (Enum number) (λ b. b)
  implied_exactly (Slice element) = none_exactly (Slice element) (λ b. b)
  implied_exactly (Callback output) = none_exactly (Callback output) (λ b. b)
  implied_exactly Other = none_exactly Other (λ b. b)
