-- What there is where there is a callable of an id: its method, and the type or the function.
use Rattle.std.proofs.Common.{◌≡◌, ℕ, List, Bool, true, false, Option, Some, None, cond, refl, sym, ap, subst, ◌∙◌, option_map, slice_get}
use Rattle.std.specs.Prelude.{IsSome, is_some, option_and_then}
use Rattle.hir_context.specs.Lookups.{DefinedType, defined_at, module_path_at, name_at, type_methods}
use Rattle.hir_context.specs.declared.parts.Definitions.{Definitions}
use Rattle.hir_context.proofs.Places.{made_of}
use Rattle.hir_definitions.specs.declared.methods.Method.{Method}
use Rattle.hir_ids.specs.declared.ids.SymbolId.TheVariants as symbol
use Rattle.hir_ids.specs.declared.ids.TypeId.{TypeId}
use Rattle.hir_mentions.specs.Mentions.{where_any}
use Rattle.bridge_report.specs.Callables.{Callable}
use Rattle.bridge_report.specs.InContext.{callable_at, callable_of, function_callable, method_at, type_callable}
use Rattle.bridge_report.specs.declared.report.CallableId.{CallableId}
use Rattle.bridge_report.specs.declared.report.CallableId.TheVariants as callable

some_there : {A : Type 0} (o : Option A) → IsSome o → (x : A) × (o ≡ Some x)
some_there None there = absurd cc
some_there (Some x) there = (x, refl)

-- what follows on something is there only where that is
followed : {A B : Type 0} (f : A → Option B) (o : Option A) (y : B) → option_and_then f o ≡ Some y → (x : A) × (o ≡ Some x) × (f x ≡ Some y)
followed f None y there = absurd cc
followed f (Some x) y there = (x, refl, there)

-- what isn't left out is enabled
enabled : {A : Type 0} (disabled : Bool) (x y : A) → cond disabled None (Some x) ≡ Some y → (disabled ≡ false) × (x ≡ y)
enabled true x y is = absurd cc
enabled false x y is = (refl, cc)

same : {A : Type 0} (x y : A) → Some x ≡ Some y → x ≡ y
same x y is = cc

module _ (defs : Definitions) where
  -- the callable of a method, and of a function
  abbrev pub method_callable : TypeId → ℕ → Method → Callable
  method_callable id number m =
      type_callable defs id (where_any (λ path. path) (module_path_at defs (symbol.TypeId id)))
      (where_any (λ name. name) (name_at defs (symbol.TypeId id))) (number, m)

  abbrev pub if_enabled : ℕ → Method → Option Callable
  if_enabled number m = cond m.attrs.disable None (Some (function_callable defs (number, m)))

  -- the type and the method, where there is a callable
  pub method_there : (id : TypeId) (number : ℕ) → IsSome (callable_at defs (callable.Method id number))
      → (def : DefinedType) × (m : Method) × (defined_at defs id ≡ Some def) × (slice_get (type_methods def) number ≡ Some m)
  method_there id number there =
      let c = some_there (callable_at defs (callable.Method id number)) there in
      let m = made_of (method_callable id number) (method_at defs (callable.Method id number)) c.0 c.1 in
      let def = followed (λ def. slice_get (type_methods def) number) (defined_at defs id) m.0 m.1 in
      (def.0, m.0, def.1, def.2)

  -- the function, which is enabled
  pub function_there : (number : ℕ) → IsSome (callable_at defs (callable.Function number))
      → (m : Method) × (slice_get defs.functions.defs number ≡ Some m) × (m.attrs.disable ≡ false)
  function_there number there =
      let c = some_there (callable_at defs (callable.Function number)) there in
      let m = followed (if_enabled number) (slice_get defs.functions.defs number) c.0 c.1 in
      (m.0, m.1, (enabled m.0.attrs.disable (function_callable defs (number, m.0)) c.0 m.2).0)

  -- ---- callables by their methods

  -- where there is a callable there is its method
  pub has_method : (id : CallableId) → IsSome (callable_at defs id) → (m : Method) × (method_at defs id ≡ Some m)
  has_method (callable.Method id number) there =
      let w = method_there id number there in
      (w.1, ap (option_and_then (λ def. slice_get (type_methods def) number)) w.2 ∙ w.3)
  has_method (callable.Function number) there = let w = function_there number there in (w.0, w.1)

  -- a callable is that of its method, at its place
  pub callable_is : (id : CallableId) (c : Callable) (m : Method) → callable_at defs id ≡ Some c → method_at defs id ≡ Some m
      → c ≡ callable_of defs id c.place m
  callable_is (callable.Method id number) c m is at =
      let made = same (method_callable id number m) c (sym (ap (option_map (method_callable id number)) at) ∙ is) in
      subst (λ c. c ≡ callable_of defs (callable.Method id number) c.place m) made refl
  callable_is (callable.Function number) c m is at =
      let made = (enabled m.attrs.disable (function_callable defs (number, m)) c (sym (ap (option_and_then (if_enabled number)) at) ∙ is)).1 in
      subst (λ c. c ≡ callable_of defs (callable.Function number) c.place m) made refl

  -- so it is that of some method of the context
  pub callable_made : (id : CallableId) (c : Callable) → callable_at defs id ≡ Some c
      → (m : Method) × (method_at defs id ≡ Some m) × (c ≡ callable_of defs id c.place m)
  callable_made id c is =
      let w = has_method id (ap is_some is) in
      (w.0, w.1, callable_is id c w.0 is w.1)

  -- ---- callables of what is there

  -- the callable of a method of a type, by the path and the name of the type
  pub method_gives : (id : TypeId) (number : ℕ) (def : DefinedType) (m : Method) (path : List (List ℕ)) (name : List ℕ)
      → defined_at defs id ≡ Some def → slice_get (type_methods def) number ≡ Some m
      → where_any (λ path. path) (module_path_at defs (symbol.TypeId id)) ≡ path → where_any (λ name. name) (name_at defs (symbol.TypeId id)) ≡ name
      → callable_at defs (callable.Method id number) ≡ Some (type_callable defs id path name (number, m))
  method_gives id number def m path name is at of_path named =
      ap (λ d. option_map (method_callable id number) (option_and_then (λ def. slice_get (type_methods def) number) d)) is
      ∙ ap (option_map (method_callable id number)) at
      ∙ ap (λ p. Some (type_callable defs id p (where_any (λ name. name) (name_at defs (symbol.TypeId id))) (number, m))) of_path
      ∙ ap (λ n. Some (type_callable defs id path n (number, m))) named

  -- that of a function
  pub function_gives : (number : ℕ) (m : Method) → slice_get defs.functions.defs number ≡ Some m → m.attrs.disable ≡ false
      → callable_at defs (callable.Function number) ≡ Some (function_callable defs (number, m))
  function_gives number m at on =
      ap (option_and_then (if_enabled number)) at ∙ ap (λ b. cond b None (Some (function_callable defs (number, m)))) on
