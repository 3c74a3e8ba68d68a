-- What a signature is answered, told of its uses.
use Rattle.std.proofs.Common.{◌≡◌, List, ◌++◌, length, map, true, false, Bool, Option, None, Ok, Err, Result, refl, sym, ap, subst, ◌∙◌, inl, inr}
use Rattle.std.proofs.lemmas.Bool.{lt-ltb, ltb-true}
use Rattle.hir_life.specs.Declarations.{HasIdents}
use Rattle.std.specs.Prelude.{IsErrOf, ◌<◌, ⊤, IfOk, IfErr, nat_lt, if◌then◌else◌}
use Rattle.bridge_decl.specs.declared.functions.Function.{Function}
use Rattle.bridge_decl.specs.declared.lifetimes.LifetimeEnv.{LifetimeEnv}
use Rattle.bridge_decl.specs.declared.methods.Method.{Method}
use Rattle.bridge_decl.specs.declared.methods.Param.{Param}
use Rattle.bridge_decl.specs.declared.methods.SelfParam.{SelfParam}
use Rattle.bridge_decl.specs.declared.structs.Struct.{Struct}
use Rattle.bridge_decl.specs.declared.traits.TraitMethod.{TraitMethod}
use Rattle.bridge_decl.specs.declared.types.TypeName.{TypeName}
use Rattle.hir_elide.specs.declared.fault.ElideFault.{ElideFault}
use Rattle.hir_elide.specs.declared.fault.ElideFault.TheVariants as elide
use Rattle.hir_elide.specs.Numbering.{most}
use Rattle.hir_elide.specs.Occurrences.{Signature}
use Rattle.hir_elide.specs.Phases.{Defining, Returning}
use Rattle.hir_elide.specs.Signature.{IsOfNames, begun}
use Rattle.hir_number.specs.declared.fault.NumberFault.{NumberFault}
use Rattle.hir_number.specs.declared.fault.NumberFault.TheVariants as fault
use Rattle.hir_number.specs.declared.numbered.NumberedType.{NumberedType}
use Rattle.hir_number.specs.declared.signature.NumberedSignature.{NumberedSignature}
use Rattle.hir_number.specs.declared.trait_methods.NumberedTraitMethod.{NumberedTraitMethod}
use Rattle.hir_number.specs.Faults.{FaultTold, of_elide}
use Rattle.hir_number.specs.Naming.{Naming}
use Rattle.hir_number.specs.Numbered.{AreNumberedFields, IsNumbered, IsNumberedFunction, IsNumberedMethod, IsNumberedTraitMethod, numbers_of, numbers_of_each, trait_numbers_of}
use Rattle.hir_number.specs.Numbers.{all_answers, answers, signature_numbers}
use Rattle.hir_number.specs.Occurrences.{signature_with}
use Rattle.hir_number.specs.Shapes.{NumberLists, bare, shape}
use Rattle.hir_number.specs.Uses.{type_uses}
use Rattle.bridge_decl.specs.declared.structs.Field.{Field}
use Rattle.std.specs.List.{flat_map}
use Rattle.hir_number.specs.Signatures.{Placed, Usual, field_uses, function_uses, method_uses, output_uses, param_uses, receiver_borrow, receiver_uses, signature_uses, trait_method_uses, without_writer}
use Rattle.hir_number.specs.inside.Runs.{fields_run, signature_run, trait_method_run, run_value, whole_run, Starts, StartTells}
use Rattle.hir_number.specs.inside.Threads.{RunTells, Meets, Run, given, standing, run_next}
use Rattle.hir_number.proofs.FaultLemmas.{FineBy, IsLowered, answers_lowered}
use Rattle.hir_number.proofs.FlatLemmas.{flat_all, placed_run}
use Rattle.hir_number.proofs.SignatureLemmas.{EndIs, IsShaped, IsTraitShaped, end_bears, end_of, fields_bear, flat_fields, flat_placed, flat_signature, flat_trait_method, signature_end, trait_method_end}
use Rattle.hir_number.proofs.UsesLemmas.{FlatBy}

-- what comes of a run and what its uses are answered
abbrev Agrees : {A : Type 0} → (A → NumberLists) → Signature → Result NumberLists NumberFault → Result (A × Signature) NumberFault → Type 0
Agrees of t (Ok ns) (Ok both) = (ns ≡ of both.0) × (both.1 ≡ t)
Agrees of t (Ok ns) (Err e) = ⊥
Agrees of t (Err d) (Ok both) = ⊥
Agrees of t (Err d) (Err e) = d ≡ e

abbrev first_or : {A B : Type 0} → A → Result (A × B) NumberFault → A
first_or d (Ok both) = both.0
first_or d (Err e) = d

abbrev second_or : {A B : Type 0} → B → Result (A × B) NumberFault → B
second_or d (Ok both) = both.1
second_or d (Err e) = d

agree : {A : Type 0} (of : A → NumberLists) (t : Signature) (q : Result NumberLists NumberFault) (r : Result (A × Signature) NumberFault) → standing t q ≡ run_next r (λ x. given (of x)) → Agrees of t q r
agree of t (Ok ns) (Ok both) h = (ap (first_or ns) h, sym (ap (second_or t) h))
agree of t (Ok ns) (Err e) h = absurd cc
agree of t (Err d) (Ok both) h = absurd cc
agree of t (Err d) (Err e) h = cc

-- of a signature, from its beginning on
agrees : {A : Type 0} (declared : LifetimeEnv) (of : A → NumberLists) (run : Run A) (us : List Placed) → FlatBy placed_run of run us
    → Agrees of (signature_with declared us) (all_answers (answers declared us)) (run (begun declared))
agrees declared of run us flat = agree of (signature_with declared us) (all_answers (answers declared us)) (run (begun declared)) (sym (flat_all declared us) ∙ flat (begun declared))

-- an answer of the whole is one of its uses, which then stand
abbrev pub Comes_of : {A : Type 0} → LifetimeEnv → List Placed → (A → NumberLists) → (A → Signature → Type 0) → A → Type 0
Comes_of declared us of P n = (signature_numbers declared us ≡ Ok (of n)) × P n (signature_with declared us)

ok_of : {A : Type 0} (t : Signature) (of : A → NumberLists) (P : A → Signature → Type 0) (n : A) (b : Bool) (q : Result NumberLists NumberFault) (r : Result (A × Signature) NumberFault)
    → Agrees of t q r → EndIs P r → (if b then Err (fault.Elide elide.TooManyLifetimes) else run_value r) ≡ Ok n
    → ((if b then Err (fault.Elide elide.TooManyLifetimes) else q) ≡ Ok (of n)) × P n t
ok_of t of P n true q r same ends h = absurd cc
ok_of t of P n false (Ok ns) (Ok both) same ends h =
    let is : both.0 ≡ n = cc in
    (ap (λ x. Ok x) same.0 ∙ ap (λ x. Ok (of x)) is, subst (λ x. P x t) is (subst (P both.0) same.1 (end_of P both ends)))
ok_of t of P n false (Ok ns) (Err e) same ends h = absurd same
ok_of t of P n false (Err d) (Ok both) same ends h = absurd same
ok_of t of P n false (Err d) (Err e) same ends h = absurd cc

err_of : {A : Type 0} (t : Signature) (of : A → NumberLists) (e : NumberFault) (b : Bool) (q : Result NumberLists NumberFault) (r : Result (A × Signature) NumberFault)
    → Agrees of t q r → (if b then Err (fault.Elide elide.TooManyLifetimes) else run_value r) ≡ Err e → (if b then Err (fault.Elide elide.TooManyLifetimes) else q) ≡ Err e
err_of t of e true q r same h = cc
err_of t of e false (Ok ns) (Ok both) same h = absurd cc
err_of t of e false (Ok ns) (Err d) same h = absurd same
err_of t of e false (Err d) (Ok both) same h = absurd same
err_of t of e false (Err d) (Err f) same h = ap (λ x. Err x) same ∙ cc

-- a fault of a run is told of the uses: none of these is ever a bad name or want of memory
told_of : {A B : Type 0} (declared : LifetimeEnv) (e : NumberFault) (r : Result A NumberFault) (q : Result B NumberFault) → ((d : NumberFault) → r ≡ Err d → q ≡ Err d) → FineBy IsLowered q
    → StartTells declared e r → FaultTold declared e q
told_of declared fault.NoMemory r q k fine h = tt
told_of declared fault.UnresolvedPath r q k fine h = k fault.UnresolvedPath h
told_of declared fault.LifetimeArity r q k fine h = k fault.LifetimeArity h
told_of declared (fault.Elide elide.LifetimeUnknown) r q k fine h = k (fault.Elide elide.LifetimeUnknown) h
told_of declared (fault.Elide elide.AnonymousInDefinition) r q k fine h = k (fault.Elide elide.AnonymousInDefinition) h
told_of declared (fault.Elide elide.ElisionNoSource) r q k fine h = k (fault.Elide elide.ElisionNoSource) h
told_of declared (fault.Elide elide.ElisionAmbiguous) r q k fine h = k (fault.Elide elide.ElisionAmbiguous) h
told_of declared (fault.Elide elide.TooManyLifetimes) r q k fine h = k (fault.Elide elide.TooManyLifetimes) h
told_of declared (fault.Elide elide.BadIdent) r q k fine (inl h) = absurd (subst (FineBy IsLowered) (k (fault.Elide elide.BadIdent) h) fine)
told_of declared (fault.Elide elide.BadIdent) r q k fine (inr h) = h
told_of declared (fault.Elide elide.NoMemory) r q k fine h = subst (FineBy IsLowered) (k (fault.Elide elide.NoMemory) h) fine

whole_fine : (declared : LifetimeEnv) (us : List Placed) → FineBy IsLowered (signature_numbers declared us)
whole_fine declared us =
    elim (nat_lt most (length declared.nodes)) as (λ b. FineBy IsLowered (if b then Err (fault.Elide elide.TooManyLifetimes) else all_answers (answers declared us)))
    [ true ↦ tt | false ↦ answers_lowered declared us ]

-- what is given of the whole is given of the uses
pub numbers_given : {A : Type 0} (declared : LifetimeEnv) (of : A → NumberLists) (P : A → Signature → Type 0) (run : Run A) (us : List Placed) → FlatBy placed_run of run us → ((s : Signature) → EndIs P (run s))
    → (result : Result A NumberFault) → Starts declared result (whole_run declared run)
    → IfOk result (Comes_of declared us of P) × IfErr result (λ e. FaultTold declared e (signature_numbers declared us))
numbers_given declared of P run us flat ends (Ok n) h =
    (ok_of (signature_with declared us) of P n (nat_lt most (length declared.nodes)) (all_answers (answers declared us)) (run (begun declared)) (agrees declared of run us flat) (ends (begun declared)) h, tt)
numbers_given declared of P run us flat ends (Err e) h = (
  tt,
  told_of declared e (whole_run declared run) (signature_numbers declared us)
      (λ d is. err_of (signature_with declared us) of d (nat_lt most (length declared.nodes)) (all_answers (answers declared us)) (run (begun declared)) (agrees declared of run us flat) is) (whole_fine declared us) h,
)

if_ok : {A : Type 0} (P Q : A → Type 0) (result : Result A NumberFault) → ((x : A) → P x → Q x) → IfOk result P → IfOk result Q
if_ok P Q (Ok x) k h = k x h
if_ok P Q (Err e) k h = tt

-- ---- signatures

pub signature_given : (names : Naming) (declared : LifetimeEnv) (receiver : Option SelfParam) (params : List Param) (output : Option TypeName) (result : Result NumberedSignature NumberFault)
    → Starts declared result (whole_run declared (signature_run names receiver params output))
    → IfOk result (IsNumbered names declared receiver params output (signature_uses (receiver_borrow receiver) (receiver_uses names receiver ++ param_uses names params) (Usual Returning) (output_uses names output)))
    × IfErr result (λ e. FaultTold declared e (signature_numbers declared (signature_uses (receiver_borrow receiver) (receiver_uses names receiver ++ param_uses names params) (Usual Returning) (output_uses names output))))
signature_given names declared receiver params output result h =
    let us : List Placed = signature_uses (receiver_borrow receiver) (receiver_uses names receiver ++ param_uses names params) (Usual Returning) (output_uses names output) in
    let both = numbers_given declared numbers_of (IsShaped names receiver params output) (signature_run names receiver params output) us (flat_signature names receiver params output) (signature_end names receiver params output) result h in (
      if_ok (Comes_of declared us numbers_of (IsShaped names receiver params output)) _ result (λ n has.
          record { numbers = has.0; borrow = has.1.borrow; own = has.1.own; params = has.1.params; output = has.1.output; lifetimes = has.1.lifetimes }) both.0,
      both.1,
    )

pub trait_method_given : (names : Naming) (method : TraitMethod) (result : Result NumberedTraitMethod NumberFault)
    → Starts method.lifetimes result (whole_run method.lifetimes (trait_method_run names method))
    → IfOk result (IsNumberedTraitMethod names method) × IfErr result (λ e. FaultTold method.lifetimes e (signature_numbers method.lifetimes (trait_method_uses names method)))
trait_method_given names method result h =
    let both = numbers_given method.lifetimes trait_numbers_of (IsTraitShaped names method) (trait_method_run names method) (trait_method_uses names method) (flat_trait_method names method) (trait_method_end names method) result h in (
      if_ok (Comes_of method.lifetimes (trait_method_uses names method) trait_numbers_of (IsTraitShaped names method)) _ result (λ n has.
          record { numbers = has.0; borrow = has.1.borrow; own = has.1.own; params = has.1.params; output = has.1.output; lifetimes = has.1.lifetimes }) both.0,
      both.1,
    )

-- ---- definitions

pub fields_given : (names : Naming) (item : Struct) (result : Result (List NumberedType) NumberFault) → Starts item.lifetimes result (whole_run item.lifetimes (fields_run Defining names item.fields))
    → IfOk result (AreNumberedFields names item) × IfErr result (λ e. FaultTold item.lifetimes e (signature_numbers item.lifetimes (field_uses names item.fields)))
fields_given names item result h =
    let Q : List NumberedType → Type 0 = λ types. map bare types ≡ map (λ (field : Field). shape names field.ty) item.fields in
    let run : Run (List NumberedType) = fields_run Defining names item.fields in
    let both = numbers_given item.lifetimes numbers_of_each (λ types t. Q types) run (field_uses names item.fields)
    (flat_placed (Usual Defining) numbers_of_each run (flat_map (λ (field : Field). type_uses names field.ty) item.fields) (flat_fields names Defining item.fields))
    (λ s. end_bears Q run (fields_bear names Defining item.fields) s) result h in
    (if_ok (Comes_of item.lifetimes (field_uses names item.fields) numbers_of_each (λ types t. Q types)) _ result (λ types has. record { numbers = has.0; shapes = has.1 }) both.0, both.1)

-- ---- beginnings

not_more : (b : Bool) {A : Type 0} (r : Result A NumberFault) → b ≡ false → (if b then Err (fault.Elide elide.TooManyLifetimes) else r) ≡ r
not_more true r h = absurd cc
not_more false r h = refl

start_tells : {A : Type 0} (declared : LifetimeEnv) (e : NumberFault) (r : Result (A × Signature) NumberFault) → RunTells e r → StartTells declared e (run_value r)
start_tells declared fault.NoMemory r h = tt
start_tells declared fault.UnresolvedPath r h = ap run_value h
start_tells declared fault.LifetimeArity r h = ap run_value h
start_tells declared (fault.Elide elide.LifetimeUnknown) r h = ap run_value h
start_tells declared (fault.Elide elide.AnonymousInDefinition) r h = ap run_value h
start_tells declared (fault.Elide elide.ElisionNoSource) r h = ap run_value h
start_tells declared (fault.Elide elide.ElisionAmbiguous) r h = ap run_value h
start_tells declared (fault.Elide elide.TooManyLifetimes) r h = ap run_value h
start_tells declared (fault.Elide elide.BadIdent) r h = inl (ap run_value h)
start_tells declared (fault.Elide elide.NoMemory) r h = ap run_value h

starts_met : {A : Type 0} (declared : LifetimeEnv) (result : Result A NumberFault) (r : Result (A × Signature) NumberFault) → Meets (λ _. ⊤) result r → Starts declared result (run_value r)
starts_met declared (Ok x) (Ok both) h = ap (λ y. Ok y) (sym h.0)
starts_met declared (Ok x) (Err e) h = absurd h
starts_met declared (Err e) r h = start_tells declared e r h

is_false : (b : Bool) → ¬ (b ≡ true) → b ≡ false
is_false true h = absurd (h refl)
is_false false h = refl

-- where there aren't too many, what comes of the run is what comes of the whole
pub starts_so : {A : Type 0} (declared : LifetimeEnv) (run : Run A) (result : Result A NumberFault) → ¬ (most < length declared.nodes) → Meets (λ _. ⊤) result (run (begun declared))
    → Starts declared result (whole_run declared run)
starts_so declared run result few h =
    subst (Starts declared result) (sym (not_more (nat_lt most (length declared.nodes)) (run_value (run (begun declared))) (is_false (nat_lt most (length declared.nodes)) (λ e. few (ltb-true most (length declared.nodes) e)))))
    (starts_met declared result (run (begun declared)) h)

more : (b : Bool) {A : Type 0} (r : Result A NumberFault) → b ≡ true → (if b then Err (fault.Elide elide.TooManyLifetimes) else r) ≡ Err (fault.Elide elide.TooManyLifetimes)
more true r h = refl
more false r h = absurd cc

-- where there are, that is told
pub too_many_told : {A : Type 0} (declared : LifetimeEnv) (run : Run A) → most < length declared.nodes → whole_run declared run ≡ Err (fault.Elide elide.TooManyLifetimes)
too_many_told declared run many = more (nat_lt most (length declared.nodes)) (run_value (run (begun declared))) (lt-ltb most (length declared.nodes) many)

-- a fault of the beginning
pub starts_refused : {A : Type 0} (declared : LifetimeEnv) (run : Run A) (e : ElideFault) → IsOfNames e → (e ≡ elide.TooManyLifetimes → most < length declared.nodes) → (e ≡ elide.BadIdent → ¬ HasIdents declared)
    → Starts {A = A} declared (Err (of_elide e)) (whole_run declared run)
starts_refused declared run elide.TooManyLifetimes h many bad = too_many_told declared run (many refl)
starts_refused declared run elide.BadIdent h many bad = inr (bad refl)
starts_refused declared run elide.NoMemory h many bad = tt
starts_refused declared run elide.LifetimeUnknown h many bad = absurd h
starts_refused declared run elide.AnonymousInDefinition h many bad = absurd h
starts_refused declared run elide.ElisionNoSource h many bad = absurd h
starts_refused declared run elide.ElisionAmbiguous h many bad = absurd h

-- a value is no error
abbrev pub value : {A : Type 0} → A → Result A ElideFault
value x = Ok x

pub no_err : {A : Type 0} (x : A) (e : ElideFault) → ¬ IsErrOf (value x) e
no_err x e h = absurd cc

-- ---- methods and functions, whose parameters stand before the trailing writer

pub method_given : (names : Naming) (method : Method) (params : List Param) (result : Result NumberedSignature NumberFault) → params ≡ without_writer method.params
    → Starts method.lifetime_env result (whole_run method.lifetime_env (signature_run names method.self_param params method.return_type))
    → IfOk result (IsNumberedMethod names method) × IfErr result (λ e. FaultTold method.lifetime_env e (signature_numbers method.lifetime_env (method_uses names method)))
method_given names method params result is h =
    signature_given names method.lifetime_env method.self_param (without_writer method.params) method.return_type result
    (subst (λ ps. Starts method.lifetime_env result (whole_run method.lifetime_env (signature_run names method.self_param ps method.return_type))) is h)

pub function_given : (names : Naming) (function : Function) (params : List Param) (result : Result NumberedSignature NumberFault) → params ≡ without_writer function.params
    → Starts function.lifetimes result (whole_run function.lifetimes (signature_run names None params function.output_type))
    → IfOk result (IsNumberedFunction names function) × IfErr result (λ e. FaultTold function.lifetimes e (signature_numbers function.lifetimes (function_uses names function)))
function_given names function params result is h =
    signature_given names function.lifetimes None (without_writer function.params) function.output_type result
    (subst (λ ps. Starts function.lifetimes result (whole_run function.lifetimes (signature_run names None ps function.output_type))) is h)
