-- Where nothing is wrong with the paths and lifetimes of a signature by themselves, what it is refused for is elision.
use Rattle.std.proofs.Common.{◌≡◌, ℕ, List, [], ◌∷◌, ◌++◌, length, true, false, Bool, Option, Some, None, Ok, Err, Result, refl, subst}
use Rattle.std.specs.Prelude.{nat_lt, if◌then◌else◌, is_some, IfErr}
use Rattle.std.specs.List.{flat_map}
use Rattle.bridge_decl.specs.declared.functions.Function.{Function}
use Rattle.bridge_decl.specs.declared.lifetimes.Lifetime.{Lifetime}
use Rattle.bridge_decl.specs.declared.lifetimes.Lifetime.TheVariants as written
use Rattle.bridge_decl.specs.declared.lifetimes.LifetimeEnv.{LifetimeEnv}
use Rattle.bridge_decl.specs.declared.methods.Method.{Method}
use Rattle.bridge_decl.specs.declared.paths.PathType.{PathType}
use Rattle.bridge_decl.specs.declared.structs.Struct.{Struct}
use Rattle.bridge_decl.specs.declared.traits.TraitMethod.{TraitMethod}
use Rattle.bridge_decl.specs.Lifetimes.{lifetime_names}
use Rattle.bridge_text.specs.NameIndex.{number_of}
use Rattle.bridge_ast.specs.declared.place.ItemPlace.{ItemPlace}
use Rattle.hir_elide.specs.declared.fault.ElideFault.TheVariants as elide
use Rattle.hir_elide.specs.Numbering.{most}
use Rattle.hir_elide.specs.Occurrences.{Borrow, Counting}
use Rattle.hir_elide.specs.Phases.{Using}
use Rattle.hir_number.specs.declared.fault.NumberFault.{NumberFault}
use Rattle.hir_number.specs.declared.fault.NumberFault.TheVariants as fault
use Rattle.hir_number.specs.Breaches.{Anything, At, Broken, Demand, Equal, LifetimeArity, LifetimeUnknown, Nothing, TooManyLifetimes, arity_breaches, breaches_of, field_breaches, function_breaches, method_breaches, self_breaches, trait_method_breaches, unknown, use_breaches, uses_of, within_limit}
use Rattle.hir_number.specs.Faults.{IsOfElision, FaultTold}
use Rattle.hir_number.specs.Naming.{Naming}
use Rattle.hir_number.specs.Numbers.{all_answers, answers, signature_numbers}
use Rattle.hir_number.specs.Signatures.{Section, Placed, TraitReturn, Usual, field_uses, function_uses, method_uses, output_uses, param_uses, placed, trait_borrow, trait_method_uses, trait_receiver_uses}
use Rattle.hir_number.specs.Uses.{Use, One, Path, borrow_uses, type_use}
use Rattle.hir_elide.proofs.BelowLemmas.{Each}
use Rattle.hir_number.proofs.FaultLemmas.{FineBy, IsKnown, OfElision, PlacedFine, UseFine, answers_fine, each_both}

elision : OfElision IsOfElision
elision = record { anonymous = tt; no_source = tt; ambiguous = tt; too_many = tt }

pub none_of : {A : Type 0} (xs ys : List A) → xs ++ ys ≡ [] → (xs ≡ []) × (ys ≡ [])
none_of [] ys h = (refl, h)
none_of (x ∷ xs) ys h = absurd cc

module _ (names : List (List ℕ)) where
  abbrev Known : Lifetime → Type 0
  Known l = IsKnown IsOfElision elision names l

  name_known : (o : Option ℕ) (name : List ℕ) → (if is_some o then [] else LifetimeUnknown name ∷ []) ≡ [] → ¬ (o ≡ None)
  name_known None name h k = absurd cc
  name_known (Some place) name h k = cc

  lifetime_known : (l : Lifetime) → unknown names l ≡ [] → Known l
  lifetime_known written.Static h = tt
  lifetime_known (written.Named name) h = λ k. absurd (name_known (number_of names name) name h k)
  lifetime_known written.Anonymous h = tt

  each_known : (ls : List Lifetime) → flat_map (unknown names) ls ≡ [] → Each Known ls
  each_known [] h = tt
  each_known (l ∷ ls) h =
      let parts = none_of (unknown names l) (flat_map (unknown names) ls) h in
      (lifetime_known l parts.0, each_known ls parts.1)

  pub few : (b : Bool) (path : PathType) → (if b then LifetimeArity path ∷ [] else []) ≡ [] → ¬ (b ≡ true)
  few true path h k = absurd cc
  few false path h k = cc

  module _ (demand : Demand) where
    use_fine : (u : Use) → use_breaches names demand u ≡ [] → UseFine IsOfElision elision names u
    use_fine (One l) h = lifetime_known l h
    use_fine (Path is_self path None) h =
        let parts = none_of (arity_breaches None path ++ self_breaches is_self demand path None) (flat_map (unknown names) path.lifetimes) h in
        absurd (some_wrong (self_breaches is_self demand path None) path parts.0)
      where
        some_wrong : (xs : List Broken) (p : PathType) → ¬ (arity_breaches None p ++ xs ≡ [])
        some_wrong xs p k = absurd cc
    use_fine (Path is_self path (Some found)) h =
        let parts = none_of (arity_breaches (Some found) path ++ self_breaches is_self demand path (Some found)) (flat_map (unknown names) path.lifetimes) h in
        let first = none_of (arity_breaches (Some found) path) (self_breaches is_self demand path (Some found)) parts.0 in
        (λ many. absurd (few (nat_lt found.count (length path.lifetimes)) path first.0 many), each_known path.lifetimes parts.1)

    uses_fine : (us : List Use) → breaches_of names demand us ≡ [] → Each (UseFine IsOfElision elision names) us
    uses_fine [] h = tt
    uses_fine (u ∷ us) h =
        let parts = none_of (use_breaches names demand u) (breaches_of names demand us) h in
        (use_fine u parts.0, uses_fine us parts.1)

  placed_fine : (ps : List Placed) → Each (UseFine IsOfElision elision names) (uses_of ps) → Each (PlacedFine IsOfElision elision names) ps
  placed_fine [] h = tt
  placed_fine (p ∷ ps) h = (h.0, placed_fine ps h.1)

  part_fine : (part : Section) (us : List Use) → Each (UseFine IsOfElision elision names) us → Each (PlacedFine IsOfElision elision names) (placed part us)
  part_fine part [] h = tt
  part_fine part (u ∷ us) h = (h.0, part_fine part us h.1)

  each_parts : {A : Type 0} (P : A → Type 0) (xs ys : List A) → Each P (xs ++ ys) → Each P xs × Each P ys
  each_parts P [] ys h = (tt, h)
  each_parts P (x ∷ xs) ys h = let rest = each_parts P xs ys h.1 in ((h.0, rest.0), rest.1)

-- what the whole is refused for
whole_elided : (declared : LifetimeEnv) (us : List Placed) → Each (PlacedFine IsOfElision elision (lifetime_names declared)) us → FineBy IsOfElision (signature_numbers declared us)
whole_elided declared us h =
    elim (nat_lt most (length declared.nodes)) as (λ b. FineBy IsOfElision (if b then Err (fault.Elide elide.TooManyLifetimes) else all_answers (answers declared us)))
    [ true ↦ tt | false ↦ answers_fine IsOfElision elision declared us h ]

told_elided : {A : Type 0} (declared : LifetimeEnv) (e : NumberFault) (q : Result A NumberFault) → FineBy IsOfElision q → FaultTold declared e q → IsOfElision e
told_elided declared fault.NoMemory q fine h = tt
told_elided declared fault.UnresolvedPath q fine h = subst (FineBy IsOfElision) h fine
told_elided declared fault.LifetimeArity q fine h = subst (FineBy IsOfElision) h fine
told_elided declared (fault.Elide elide.LifetimeUnknown) q fine h = subst (FineBy IsOfElision) h fine
told_elided declared (fault.Elide elide.AnonymousInDefinition) q fine h = tt
told_elided declared (fault.Elide elide.ElisionNoSource) q fine h = tt
told_elided declared (fault.Elide elide.ElisionAmbiguous) q fine h = tt
told_elided declared (fault.Elide elide.TooManyLifetimes) q fine h = tt
told_elided declared (fault.Elide elide.BadIdent) q fine h = tt
told_elided declared (fault.Elide elide.NoMemory) q fine h = h

-- a fault that is told of uses of which nothing is wrong
fault_elided : {A : Type 0} (declared : LifetimeEnv) (us : List Placed) (result : Result A NumberFault) → Each (PlacedFine IsOfElision elision (lifetime_names declared)) us
    → IfErr result (λ e. FaultTold declared e (signature_numbers declared us)) → IfErr result IsOfElision
fault_elided declared us (Ok x) fine h = tt
fault_elided declared us (Err e) fine h = told_elided declared e (signature_numbers declared us) (whole_elided declared us fine) h

limit_of : (b : Bool) (others : List Broken) → (if b then TooManyLifetimes ∷ [] else others) ≡ [] → others ≡ []
limit_of true others h = absurd cc
limit_of false others h = h

-- nothing is wrong, so nothing else is
pub limit_kept : (declared : LifetimeEnv) (others : List Broken) → within_limit declared others ≡ [] → others ≡ []
limit_kept declared others = limit_of (nat_lt most (length declared.nodes)) others

-- ---- each kind

pub method_elided : {A : Type 0} (names : Naming) (owner : ItemPlace) (method : Method) (result : Result A NumberFault) → method_breaches names owner method ≡ []
    → IfErr result (λ e. FaultTold method.lifetime_env e (signature_numbers method.lifetime_env (method_uses names method))) → IfErr result IsOfElision
method_elided names owner method result none =
    let parts = none_of (breaches_of (lifetime_names method.lifetime_env) (At owner) (type_use names true method.self_type ∷ []))
    (breaches_of (lifetime_names method.lifetime_env) (Equal method.self_type) (uses_of (method_uses names method))) (limit_kept method.lifetime_env _ none) in
    fault_elided method.lifetime_env (method_uses names method) result
    (placed_fine (lifetime_names method.lifetime_env) (method_uses names method) (uses_fine (lifetime_names method.lifetime_env) (Equal method.self_type) (uses_of (method_uses names method)) parts.1))

pub function_elided : {A : Type 0} (names : Naming) (function : Function) (result : Result A NumberFault) → function_breaches names function ≡ []
    → IfErr result (λ e. FaultTold function.lifetimes e (signature_numbers function.lifetimes (function_uses names function))) → IfErr result IsOfElision
function_elided names function result none =
    fault_elided function.lifetimes (function_uses names function) result
    (placed_fine (lifetime_names function.lifetimes) (function_uses names function) (uses_fine (lifetime_names function.lifetimes) Nothing (uses_of (function_uses names function)) (limit_kept function.lifetimes _ none)))

pub fields_elided : {A : Type 0} (names : Naming) (item : Struct) (result : Result A NumberFault) → field_breaches names item ≡ []
    → IfErr result (λ e. FaultTold item.lifetimes e (signature_numbers item.lifetimes (field_uses names item.fields))) → IfErr result IsOfElision
fields_elided names item result none =
    fault_elided item.lifetimes (field_uses names item.fields) result
    (placed_fine (lifetime_names item.lifetimes) (field_uses names item.fields) (uses_fine (lifetime_names item.lifetimes) Anything (uses_of (field_uses names item.fields)) (limit_kept item.lifetimes _ none)))

trait_fine : (all : List (List ℕ)) (owner : ItemPlace) (bs rs ps os : List Use) → breaches_of all (At owner) (bs ++ rs) ++ breaches_of all Nothing (ps ++ os) ≡ []
    → Each (PlacedFine IsOfElision elision all) ((placed (Usual (Using Borrow)) bs ++ placed (Usual (Using Counting)) (rs ++ ps)) ++ placed TraitReturn os)
trait_fine all owner bs rs ps os none =
    let P : Use → Type 0 = UseFine IsOfElision elision all in
    let Q : Placed → Type 0 = PlacedFine IsOfElision elision all in
    let parts = none_of (breaches_of all (At owner) (bs ++ rs)) (breaches_of all Nothing (ps ++ os)) none in
    let first = each_parts all P bs rs (uses_fine all (At owner) (bs ++ rs) parts.0) in
    let last = each_parts all P ps os (uses_fine all Nothing (ps ++ os) parts.1) in
    each_both Q (placed (Usual (Using Borrow)) bs ++ placed (Usual (Using Counting)) (rs ++ ps)) (placed TraitReturn os)
    (each_both Q (placed (Usual (Using Borrow)) bs) (placed (Usual (Using Counting)) (rs ++ ps)) (part_fine all (Usual (Using Borrow)) bs first.0)
    (part_fine all (Usual (Using Counting)) (rs ++ ps) (each_both P rs ps first.1 last.0)))
    (part_fine all TraitReturn os last.1)

pub trait_method_elided : {A : Type 0} (names : Naming) (owner : ItemPlace) (method : TraitMethod) (result : Result A NumberFault) → trait_method_breaches names owner method ≡ []
    → IfErr result (λ e. FaultTold method.lifetimes e (signature_numbers method.lifetimes (trait_method_uses names method))) → IfErr result IsOfElision
trait_method_elided names owner method result none =
    fault_elided method.lifetimes (trait_method_uses names method) result
    (trait_fine (lifetime_names method.lifetimes) owner (borrow_uses (trait_borrow method.self_param)) (trait_receiver_uses names method.self_param) (param_uses names method.params) (output_uses names method.output_type) (limit_kept method.lifetimes _ none))
