-- What is told of a method of a type is what breaks a rule.
use Rattle.std.proofs.Common.{◌≡◌, ◌<◌, ◌⊎◌, inl, inr, ℕ, List, [], ◌∷◌, ◌++◌, Bool, true, false, Option, Some, None, refl, sym, subst, ap, ◌∙◌}
use Rattle.std.specs.Prelude.{◌||◌, cond, nat_lt, ⊤}
use Rattle.std.specs.List.{Contains, flat_map}
use Rattle.std.proofs.lemmas.Bool.{lt-ltb, ltb-true}
use Rattle.std.proofs.lemmas.List.Elements.{Contains-append_cases, Contains-append_left, Contains-append_right}
use Rattle.bridge_telling.specs.Telling.{TellsExactly}
use Rattle.bridge_telling.proofs.ExactLemmas.{exactly_as, exactly_both, exactly_each, exactly_if, in_cases, in_first, in_none, in_rest}
use Rattle.bridge_telling.proofs.TestLemmas.{and_parts, parts_and}
use Rattle.hir_attrs.specs.Reading.{about}
use Rattle.hir_context.specs.Lookups.{InputStruct}
use Rattle.hir_context.specs.Lookups as defined
use Rattle.hir_context.specs.declared.parts.Definitions.{Definitions}
use Rattle.hir_definitions.specs.declared.methods.Method.{Method}
use Rattle.hir_definitions.specs.declared.methods.Param.{Param}
use Rattle.hir_definitions.specs.declared.methods.ParamSelf.{ParamSelf}
use Rattle.hir_ids.specs.declared.ids.TypeId.{TypeId}
use Rattle.hir_ids.specs.declared.ids.TypeId.TheVariants as type
use Rattle.hir_ids.specs.declared.owners.Borrow.{Borrow}
use Rattle.hir_ids.specs.declared.owners.MaybeOwn.{MaybeOwn}
use Rattle.hir_ids.specs.declared.owners.MaybeOwn.TheVariants as owner
use Rattle.hir_life.specs.Environment.{Environment}
use Rattle.hir_life.specs.Naming.{printed_name}
use Rattle.hir_life.specs.declared.maybe_static.MaybeStatic.{MaybeStatic}
use Rattle.hir_life.specs.declared.maybe_static.MaybeStatic.TheVariants.{NonStatic}
use Rattle.hir_reports.specs.Texts.{plain_error}
use Rattle.hir_reports.specs.declared.report.LoweringError.{LoweringError}
use Rattle.hir_reports.specs.declared.rule.Rule.TheVariants as rule
use Rattle.hir_types.specs.Named.{ReturnedType, contained, lifetimes_named}
use Rattle.hir_types.specs.declared.paths.StructPath.{StructPath}
use Rattle.hir_types.specs.declared.self_types.SelfType.{SelfType}
use Rattle.hir_types.specs.declared.self_types.SelfType.TheVariants as receiver
use Rattle.hir_validation.specs.ImpliedBounds.{method_bound_errors, param_bound_errors, param_source, return_source, returned_bound_errors}
use Rattle.hir_validation.specs.LoweredMethodBreaks.{HasReceiver, LoweredMethodBreaks}
use Rattle.hir_validation.specs.Returned.{comes_back, element_error, element_lifetime_errors, method_returned_errors, numbered_element_errors, param_lifetimes, returned_input_errors, returned_lifetime_errors, returned_param_errors, returned_receiver_errors, returned_reference_errors, returned_self_errors, returned_whole_errors, unknown_element_errors}
use Rattle.hir_validation.specs.Lifetimes.{is_numbered, is_returned, where_number}
use Rattle.hir_validation.specs.Signatures.{receiver_errors}
use Rattle.hir_validation.specs.Told.{method_rule_errors}
use Rattle.hir_validation.specs.WholeTypes.{Whole, Primitive, Enum, Opaque, Struct, Slice, Callback, Other, param_whole, returned_whole}
use Rattle.hir_validation.specs.rules.StructRefReturned.{StructRefReturned}
use Rattle.hir_validation.proofs.BoundLemmas.{BoundOf, implied_exactly}
use Rattle.hir_validation.proofs.ExactlyLemmas.{any_exactly, number_exactly}
use Rattle.hir_validation.proofs.ReceiverLemmas.{HeldReceiver, held_exactly_at}
use Rattle.hir_validation.proofs.SetLemmas.{numbered_is, of_returned, returned_of}
use Rattle.hir_validation.proofs.VisitedLemmas.{OfHeld, mutable_of, of_mutable}

-- ---- lifetimes that are returned

module _ (env : Environment) (returned : List (MaybeStatic ℕ)) where
  abbrev IsBack : ℕ → Type 0
  IsBack l = Contains returned (NonStatic l) × (l < env.count)

  back_of : (l : ℕ) → comes_back env returned l ≡ true → IsBack l
  back_of l h =
      let parts = and_parts (is_returned returned l) (nat_lt l env.count) h in
      (returned_of returned l parts.0, ltb-true l env.count parts.1)

  of_back : (l : ℕ) → IsBack l → comes_back env returned l ≡ true
  of_back l b = parts_and (is_returned returned l) (nat_lt l env.count) (of_returned returned l b.0) (lt-ltb l env.count b.1)

  -- that of a reference to a struct
  abbrev Referred : MaybeOwn → LoweringError → Type 0
  Referred held e = (l : ℕ) × (StructRefReturned env returned held l × (e ≡ about rule.StructRefReturned (printed_name env l)))

  lifetime_exactly : (x : MaybeStatic ℕ) → TellsExactly (where_number (returned_lifetime_errors env returned) x)
      (λ e. (l : ℕ) × ((x ≡ NonStatic l) × ((comes_back env returned l ≡ true) × (e ≡ about rule.StructRefReturned (printed_name env l)))))
  lifetime_exactly x =
      number_exactly (returned_lifetime_errors env returned) (λ l e. (comes_back env returned l ≡ true) × (e ≡ about rule.StructRefReturned (printed_name env l)))
      (λ l. exactly_if (comes_back env returned l) (about rule.StructRefReturned (printed_name env l))) x

  same_borrow : (b c : Borrow) → owner.Borrow b ≡ owner.Borrow c → b ≡ c
  same_borrow b c h = cc

  never_borrowed : (b : Borrow) → ¬ (owner.Own ≡ owner.Borrow b)
  never_borrowed b h = cc

  reference_exactly : (held : MaybeOwn) → TellsExactly (returned_reference_errors env returned held) (Referred held)
  reference_exactly owner.Own = λ e. (λ h. absurd (in_none e h), λ h. absurd (never_borrowed h.1.0.borrow h.1.0.is_borrowed))
  reference_exactly (owner.Borrow b) = λ e. (
    λ h.
        let w = (lifetime_exactly b.lifetime e).0 h in
        let back = back_of w.0 w.1.1.0 in
        (w.0, (record { borrow = b; is_borrowed = refl; of_reference = w.1.0; is_returned = back.0; within = back.1 }, w.1.1.1)),
    λ h.
        let r = h.1.0 in
        (lifetime_exactly b.lifetime e).1
        (h.0, (ap (λ (c : Borrow). c.lifetime) (same_borrow b r.borrow r.is_borrowed) ∙ r.of_reference, (of_back h.0 (r.is_returned, r.within), h.1.1))),
  )

  -- of a receiver
  abbrev OfSelf : SelfType → LoweringError → Type 0
  OfSelf ty e = (path : StructPath) × ((ty ≡ receiver.Struct path) × Referred path.owner e)

  same_path : (p q : StructPath) → receiver.Struct p ≡ receiver.Struct q → p ≡ q
  same_path p q h = cc

  self_exactly : (ty : SelfType) → TellsExactly (returned_self_errors env returned ty) (OfSelf ty)
  self_exactly (receiver.Struct path) = λ e. (
    λ h. (path, (refl, (reference_exactly path.owner e).0 h)),
    λ h. (reference_exactly path.owner e).1 (subst (λ (p : StructPath). Referred p.owner e) (sym (same_path path h.0 h.1.0)) h.1.1),
  )
  self_exactly (receiver.Opaque path) = λ e. (λ h. absurd (in_none e h), λ h. absurd (never h.0 h.1.0)) where
    never : (p : StructPath) → ¬ (receiver.Opaque path ≡ receiver.Struct p)
    never p h = cc
  self_exactly (receiver.Enum path) = λ e. (λ h. absurd (in_none e h), λ h. absurd (never h.0 h.1.0)) where
    never : (p : StructPath) → ¬ (receiver.Enum path ≡ receiver.Struct p)
    never p h = cc

  abbrev OfReceiver : Option ParamSelf → LoweringError → Type 0
  OfReceiver self e = (it : ParamSelf) × ((self ≡ Some it) × OfSelf it.ty e)

  receiver_exactly : (self : Option ParamSelf) → TellsExactly (returned_receiver_errors env returned self) (OfReceiver self)
  receiver_exactly self = any_exactly (λ it. returned_self_errors env returned it.ty) (λ it. OfSelf it.ty) (λ it. self_exactly it.ty) self

  -- of a slice of opaques
  abbrev Unknown : (ℕ → Bool) → List ℕ → List (MaybeStatic ℕ) → LoweringError → Type 0
  Unknown known name lifetimes e =
      (l : ℕ) × (Contains lifetimes (NonStatic l) × ((known l ≡ false) × ((comes_back env returned l ≡ true) × (e ≡ element_error env returned name l))))

  abbrev OneUnknown : (ℕ → Bool) → List ℕ → ℕ → LoweringError → Type 0
  OneUnknown known name l e = (known l ≡ false) × ((comes_back env returned l ≡ true) × (e ≡ element_error env returned name l))

  unless_known : (b : Bool) (name : List ℕ) (l : ℕ) → TellsExactly (cond b [] (numbered_element_errors env returned name l))
      (λ e. (b ≡ false) × ((comes_back env returned l ≡ true) × (e ≡ element_error env returned name l)))
  unless_known true name l e = (λ h. absurd (in_none e h), λ h. absurd (never h.0)) where
    never : ¬ (true ≡ false)
    never h = cc
  unless_known false name l e =
      let told = exactly_if (comes_back env returned l) (element_error env returned name l) e in
      (λ h. (refl, told.0 h), λ h. told.1 h.1)

  first_exactly : (known : ℕ → Bool) (name : List ℕ) (x : MaybeStatic ℕ) → TellsExactly (where_number (unknown_element_errors env returned known name) x)
      (λ e. (l : ℕ) × ((x ≡ NonStatic l) × OneUnknown known name l e))
  first_exactly known name x =
      number_exactly (unknown_element_errors env returned known name) (OneUnknown known name) (λ l. unless_known (known l) name l) x

  still_unknown : (a b : Bool) → a || b ≡ false → (a ≡ false) × (b ≡ false)
  still_unknown true b h = cc
  still_unknown false b h = (refl, h)

  both_unknown : (a b : Bool) → a ≡ false → b ≡ false → a || b ≡ false
  both_unknown true b h i = cc
  both_unknown false b h i = i

  elements_exactly : (known : ℕ → Bool) (name : List ℕ) (lifetimes : List (MaybeStatic ℕ))
      → TellsExactly (element_lifetime_errors env returned known name lifetimes) (Unknown known name lifetimes)
  elements_exactly known name [] e = (λ h. absurd (in_none e h), λ h. absurd (in_none (NonStatic h.0) h.1.0))
  elements_exactly known name (x ∷ xs) e = (
    λ h. elim (Contains-append_cases (where_number (unknown_element_errors env returned known name) x) (element_lifetime_errors env returned known_next name xs) e h) [
      | inl c ↦ let w = (first_exactly known name x e).0 c in (w.0, (subst (λ y. Contains (x ∷ xs) y) w.1.0 (in_first x xs), w.1.1))
      | inr c ↦ let w = (elements_exactly known_next name xs e).0 c in (w.0, (in_rest x xs (NonStatic w.0) w.1.0, ((still_unknown (known w.0) (is_numbered w.0 x) w.1.1.0).0, w.1.1.1)))
    ],
    λ u. by_first (λ l later one. (elements_exactly known_next name xs e).1 (l, (later, one))) u.0 u.1.0 u.1.1 (is_numbered u.0 x) refl,
  )
    where
      known_next : ℕ → Bool
      known_next l = known l || is_numbered l x

      told : List LoweringError
      told = where_number (unknown_element_errors env returned known name) x

      here : (l : ℕ) → x ≡ NonStatic l → OneUnknown known name l e → Contains (told ++ element_lifetime_errors env returned known_next name xs) e
      here l is one = Contains-append_left told (element_lifetime_errors env returned known_next name xs) e ((first_exactly known name x e).1 (l, (is, one)))

      by_first : ((l : ℕ) → Contains xs (NonStatic l) → OneUnknown known_next name l e → Contains (element_lifetime_errors env returned known_next name xs) e) → (l : ℕ)
          → Contains (x ∷ xs) (NonStatic l) → OneUnknown known name l e → (b : Bool) → is_numbered l x ≡ b
          → Contains (told ++ element_lifetime_errors env returned known_next name xs) e
      by_first further l c one true is = here l (numbered_is l x is) one
      by_first further l c one false is = elim (in_cases x xs (NonStatic l) c) [
        | inl same ↦ here l (sym same) one
        | inr later ↦
            Contains-append_right told (element_lifetime_errors env returned known_next name xs) e
            (further l later (both_unknown (known l) (is_numbered l x) one.0 is, one.1))
      ]

  abbrev OfElement : List ℕ → List (MaybeStatic ℕ) → LoweringError → Type 0
  OfElement name lifetimes e = Unknown (λ l. false) name lifetimes e

  -- ---- of a parameter

  abbrev OfWhole : List ℕ → List (MaybeStatic ℕ) → Whole → LoweringError → Type 0
  OfWhole name lifetimes ty e =
      ((id : TypeId) × ((held : MaybeOwn) × ((given : List (MaybeStatic ℕ)) × ((ty ≡ Struct id held given) × Referred held e))))
      ⊎ ((number : ℕ) × ((ty ≡ Slice (Some (type.Opaque number))) × OfElement name lifetimes e))

  -- which types bear it
  abbrev Bears : Whole → Type 0
  Bears (Struct id held given) = ⊤
  Bears (Slice (Some (type.Opaque number))) = ⊤
  Bears _ = ⊥

  bears : (name : List ℕ) (lifetimes : List (MaybeStatic ℕ)) (ty : Whole) (e : LoweringError) → OfWhole name lifetimes ty e → Bears ty
  bears name lifetimes ty e h = elim h [
    | inl s ↦ subst Bears (sym s.1.1.1.0) tt
    | inr o ↦ subst Bears (sym o.1.0) tt
  ]

  nothing : (name : List ℕ) (lifetimes : List (MaybeStatic ℕ)) (ty : Whole) → ¬ (Bears ty) → TellsExactly [] (OfWhole name lifetimes ty)
  nothing name lifetimes ty none e = (λ h. absurd (in_none e h), λ h. absurd (none (bears name lifetimes ty e h)))

  abbrev held_of : Whole → MaybeOwn → MaybeOwn
  held_of (Struct id held given) other = held
  held_of _ other = other

  whole_exactly : (name : List ℕ) (lifetimes : List (MaybeStatic ℕ)) (ty : Whole) → TellsExactly (returned_whole_errors env returned name lifetimes ty) (OfWhole name lifetimes ty)
  whole_exactly name lifetimes (Struct id held given) = λ e. (
    λ h. inl (id, (held, (given, (refl, (reference_exactly held e).0 h)))),
    λ h. elim h [
      | inl s ↦ (reference_exactly held e).1 (subst (λ (m : MaybeOwn). Referred m e) (sym (ap (λ (w : Whole). held_of w held) s.1.1.1.0)) s.1.1.1.1)
      | inr o ↦ absurd (never o.0 o.1.0)
    ],
  )
    where
      never : (number : ℕ) → ¬ (Struct id held given ≡ Slice (Some (type.Opaque number)))
      never number h = cc
  whole_exactly name lifetimes (Slice (Some (type.Opaque number))) = λ e. (
    λ h. inr (number, (refl, (elements_exactly (λ l. false) name lifetimes e).0 h)),
    λ h. elim h [
      | inl s ↦ absurd (never s.0 s.1.0 s.1.1.0 s.1.1.1.0)
      | inr o ↦ (elements_exactly (λ l. false) name lifetimes e).1 o.1.1
    ],
  )
    where
      never : (id : TypeId) (held : MaybeOwn) (given : List (MaybeStatic ℕ)) → ¬ (Slice (Some (type.Opaque number)) ≡ Struct id held given)
      never id held given h = cc
  whole_exactly name lifetimes (Slice (Some (type.Struct number))) = nothing name lifetimes (Slice (Some (type.Struct number))) (λ b. b)
  whole_exactly name lifetimes (Slice (Some (type.OutStruct number))) = nothing name lifetimes (Slice (Some (type.OutStruct number))) (λ b. b)
  whole_exactly name lifetimes (Slice (Some (type.Enum number))) = nothing name lifetimes (Slice (Some (type.Enum number))) (λ b. b)
  whole_exactly name lifetimes (Slice None) = nothing name lifetimes (Slice None) (λ b. b)
  whole_exactly name lifetimes Primitive = nothing name lifetimes Primitive (λ b. b)
  whole_exactly name lifetimes (Enum number) = nothing name lifetimes (Enum number) (λ b. b)
  whole_exactly name lifetimes (Opaque number borrow given) = nothing name lifetimes (Opaque number borrow given) (λ b. b)
  whole_exactly name lifetimes (Callback output) = nothing name lifetimes (Callback output) (λ b. b)
  whole_exactly name lifetimes Other = nothing name lifetimes Other (λ b. b)

  abbrev OfParam : Param → LoweringError → Type 0
  OfParam param e = OfWhole param.name (param_lifetimes param.ty) (param_whole param.ty) e

  param_exactly : (param : Param) → TellsExactly (returned_param_errors env returned param) (OfParam param)
  param_exactly param = whole_exactly param.name (param_lifetimes param.ty) (param_whole param.ty)

  abbrev OfInputs : Option ParamSelf → List Param → LoweringError → Type 0
  OfInputs self params e = OfReceiver self e ⊎ ((param : Param) × (Contains params param × OfParam param e))

  inputs_exactly : (self : Option ParamSelf) (params : List Param) → TellsExactly (returned_input_errors env returned self params) (OfInputs self params)
  inputs_exactly self params =
      exactly_both (returned_receiver_errors env returned self) (flat_map (returned_param_errors env returned) params) (OfReceiver self)
      (λ e. (param : Param) × (Contains params param × OfParam param e)) (receiver_exactly self) (exactly_each (returned_param_errors env returned) OfParam param_exactly params)

-- ---- of a method

module _ (defs : Definitions) (method : Method) where
  abbrev env : Environment
  env = method.lifetime_env

  abbrev returned : List (MaybeStatic ℕ)
  returned = lifetimes_named method.output

  abbrev ParamBound : LoweringError → Type 0
  ParamBound e = (param : Param) × (Contains method.params param × BoundOf defs env (param_source param.name) (param_whole param.ty) e)

  abbrev ReturnBound : LoweringError → Type 0
  ReturnBound e = (ty : ReturnedType) × (Contains (contained method.output) ty × BoundOf defs env return_source (returned_whole ty) e)

  bounds_exactly : TellsExactly (method_bound_errors defs method) (λ e. ParamBound e ⊎ ReturnBound e)
  unfolding method_bound_errors
  bounds_exactly =
      exactly_both (flat_map (param_bound_errors defs env) method.params) (flat_map (returned_bound_errors defs env) (contained method.output)) ParamBound ReturnBound
      (exactly_each (param_bound_errors defs env) (λ param. BoundOf defs env (param_source param.name) (param_whole param.ty))
      (λ param. implied_exactly defs env (param_source param.name) (param_whole param.ty)) method.params)
      (exactly_each (returned_bound_errors defs env) (λ ty. BoundOf defs env return_source (returned_whole ty)) (λ ty. implied_exactly defs env return_source (returned_whole ty))
      (contained method.output))

  returned_exactly : TellsExactly (method_returned_errors method) (OfInputs env returned method.param_self method.params)
  unfolding method_returned_errors
  returned_exactly = inputs_exactly env returned method.param_self method.params

  abbrev OfLifetimes : LoweringError → Type 0
  OfLifetimes e = (ParamBound e ⊎ ReturnBound e) ⊎ OfInputs env returned method.param_self method.params e

  abbrev Told : LoweringError → Type 0
  Told e = HeldReceiver defs method.param_self e ⊎ OfLifetimes e

  as_break : {d : LoweringError} (e : LoweringError) → e ≡ d → LoweredMethodBreaks defs method d → LoweredMethodBreaks defs method e
  as_break e is b = subst (LoweredMethodBreaks defs method) (sym is) b

  input_breaks : (e : LoweringError) → OfInputs env returned method.param_self method.params e → LoweredMethodBreaks defs method e
  input_breaks e h = elim h [
    | inl s ↦ as_break e s.1.1.1.1.1.1 (LoweredMethodBreaks.receiver_returned s.0 s.1.1.0 s.1.1.1.1.0 s.1.0 s.1.1.1.0 s.1.1.1.1.1.0)
    | inr p ↦ elim p.1.1 [
      | inl s ↦ as_break e s.1.1.1.1.1.1 (LoweredMethodBreaks.param_returned p.0 s.0 s.1.0 s.1.1.0 s.1.1.1.1.0 p.1.0 s.1.1.1.0 s.1.1.1.1.1.0)
      | inr o ↦ element_breaks e p.0 p.1.0 o.0 o.1.0 o.1.1
    ]
  ]
    where
      element_breaks : (e : LoweringError) (param : Param) → Contains method.params param → (number : ℕ) → param_whole param.ty ≡ Slice (Some (type.Opaque number))
          → OfElement env returned param.name (param_lifetimes param.ty) e → LoweredMethodBreaks defs method e
      element_breaks e param has number is o =
          let back = back_of env returned o.0 o.1.1.1.0 in
          as_break e o.1.1.1.1 (LoweredMethodBreaks.opaque_slice_borrowed param o.0 has (record {
            number = number;
            of_opaques = is;
            has = o.1.0;
            is_returned = back.0;
            within = back.1;
          }))

  lifetimes_break : (e : LoweringError) → OfLifetimes e → LoweredMethodBreaks defs method e
  lifetimes_break e h = elim h [
    | inl b ↦ elim b [
      | inl p ↦ as_break e p.1.1.1.1.1.1 (LoweredMethodBreaks.param_bound p.0 p.1.1.0 p.1.1.1.0 p.1.1.1.1.0 p.1.0 p.1.1.1.1.1.0)
      | inr r ↦ as_break e r.1.1.1.1.1.1 (LoweredMethodBreaks.return_bound r.0 r.1.1.0 r.1.1.1.0 r.1.1.1.1.0 r.1.0 r.1.1.1.1.1.0)
    ]
    | inr i ↦ input_breaks e i
  ]

  receiver_breaks : (e : LoweringError) → HeldReceiver defs method.param_self e → LoweredMethodBreaks defs method e
  receiver_breaks e h =
      let self = h.0 in
      let path = h.1.1.0 in
      let def = h.1.1.1.1.0 in
      let has : HasReceiver defs method path.owner def =
      record { self = self; is = h.1.0; path = path; of_struct = h.1.1.1.0; is_held = refl; found = h.1.1.1.1.1.0 } in
      elim h.1.1.1.1.1.1 [
        | inl m ↦ as_break e m.1 (LoweredMethodBreaks.receiver_mutable path.owner def has (mutable_of def path.owner m.0))
        | inr t ↦ as_break e t.1 (LoweredMethodBreaks.receiver_tuple path.owner def has (record { marked = t.0 }))
      ]

  breaks_of : (e : LoweringError) → Told e → LoweredMethodBreaks defs method e
  breaks_of e h = elim h [ inl r ↦ receiver_breaks e r | inr l ↦ lifetimes_break e l ]

  held_receiver : (held : MaybeOwn) (def : InputStruct) (e : LoweringError) (r : HasReceiver defs method held def) → OfHeld held (defined.Struct def) e
      → HeldReceiver defs method.param_self e
  held_receiver held def e r h =
      (r.self, (r.is, (r.path, (r.of_struct, (def, (r.found, subst (λ (m : MaybeOwn). OfHeld m (defined.Struct def) e) r.is_held h))))))

  told_of : (e : LoweringError) → LoweredMethodBreaks defs method e → Told e
  told_of _ (LoweredMethodBreaks.receiver_mutable held def r b) =
      inl (held_receiver held def (about rule.MutStructRef def.name.0) r (inl (of_mutable def held b, refl)))
  told_of _ (LoweredMethodBreaks.receiver_tuple held def r b) =
      inl (held_receiver held def (plain_error rule.TupleReference) r (inr (b.marked, refl)))
  told_of _ (LoweredMethodBreaks.param_bound param longer shorter names has b) =
      inr (inl (inl (param, (has, (longer, (shorter, (names, (b, refl))))))))
  told_of _ (LoweredMethodBreaks.return_bound ty longer shorter names has b) =
      inr (inl (inr (ty, (has, (longer, (shorter, (names, (b, refl))))))))
  told_of _ (LoweredMethodBreaks.receiver_returned self path l is of_struct b) =
      inr (inr (inl (self, (is, (path, (of_struct, (l, (b, refl))))))))
  told_of _ (LoweredMethodBreaks.param_returned param id held given l has is b) =
      inr (inr (inr (param, (has, inl (id, (held, (given, (is, (l, (b, refl))))))))))
  told_of _ (LoweredMethodBreaks.opaque_slice_borrowed param l has b) =
      inr (inr (inr (param, (has, inr (b.number, (b.of_opaques, (l, (b.has, (refl, (of_back env returned l (b.is_returned, b.within), refl))))))))))

  pub method_exactly : TellsExactly (method_rule_errors defs method) (LoweredMethodBreaks defs method)
  unfolding method_rule_errors
  method_exactly =
      let bounds = method_bound_errors defs method in
      let back = method_returned_errors method in
      exactly_as (receiver_errors defs method.param_self ++ (bounds ++ back)) Told (LoweredMethodBreaks defs method) (λ e. (λ h. breaks_of e h, λ b. told_of e b))
      (exactly_both (receiver_errors defs method.param_self) (bounds ++ back) (HeldReceiver defs method.param_self) OfLifetimes (held_exactly_at defs method.param_self)
      (exactly_both bounds back (λ e. ParamBound e ⊎ ReturnBound e) (OfInputs env returned method.param_self method.params) bounds_exactly returned_exactly))
