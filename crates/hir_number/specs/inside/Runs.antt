-- Signatures and definitions on their way: each part is numbered after those before it.
use Rattle.std.specs.Prelude.{◌≡◌, ◌⊎◌, ⊤, List, length, map, true, Option, Some, None, Result, Ok, Err, nat_lt, if◌then◌else◌}
use Rattle.bridge_decl.specs.declared.methods.Param.{Param}
use Rattle.bridge_decl.specs.declared.methods.SelfParam.{SelfParam}
use Rattle.bridge_decl.specs.declared.structs.Field.{Field}
use Rattle.bridge_decl.specs.declared.traits.TraitMethod.{TraitMethod}
use Rattle.bridge_decl.specs.declared.traits.TraitSelfParam.{TraitSelfParam}
use Rattle.bridge_decl.specs.declared.types.TypeName.{TypeName}
use Rattle.hir_elide.specs.Occurrences.{Borrow, Counting, Signature}
use Rattle.hir_elide.specs.Phases.{Phase, Using, Returning}
use Rattle.hir_elide.specs.Signature.{begun, environment_of}
use Rattle.hir_elide.specs.Numbering.{most}
use Rattle.hir_elide.specs.declared.fault.ElideFault.TheVariants as elide
use Rattle.bridge_decl.specs.declared.lifetimes.LifetimeEnv.{LifetimeEnv}
use Rattle.hir_number.specs.declared.fault.NumberFault.TheVariants as fault
use Rattle.hir_life.specs.Declarations.{HasIdents}
use Rattle.hir_life.specs.Environment.{Environment}
use Rattle.hir_number.specs.declared.fault.NumberFault.{NumberFault}
use Rattle.hir_number.specs.declared.numbered.NumberedType.{NumberedType}
use Rattle.hir_number.specs.declared.numbered.Target.{Target}
use Rattle.hir_number.specs.declared.numbered.TraitTarget.{TraitTarget}
use Rattle.hir_number.specs.declared.signature.NumberedSignature.{NumberedSignature}
use Rattle.hir_number.specs.declared.trait_methods.NumberedTraitMethod.{NumberedTraitMethod}
use Rattle.hir_number.specs.Naming.{Naming}
use Rattle.hir_number.specs.Signatures.{receiver_borrow, trait_borrow}
use Rattle.hir_number.specs.inside.Threads.{RunTells, Run, ◌>>◌, given, in_order, borrow_run, path_run, trait_run, type_run, Comes}

-- the receiver's type
abbrev pub receiver_run : Phase → Naming → Option SelfParam → Run (Option Target)
receiver_run phase names None = given None
receiver_run phase names (Some receiver) = path_run phase names true receiver.path_type >> (λ t. given (Some t))

-- that of a trait
abbrev pub trait_receiver_run : Phase → Naming → Option TraitSelfParam → Run (Option TraitTarget)
trait_receiver_run phase names None = given None
trait_receiver_run phase names (Some receiver) = trait_run phase names true receiver.path_trait >> (λ t. given (Some t))

-- the parameters
abbrev pub params_run : Phase → Naming → List Param → Run (List NumberedType)
params_run phase names params = in_order (map (λ param. type_run phase names param.ty) params)

-- what is returned
abbrev pub output_run : Phase → Naming → Option TypeName → Run (Option NumberedType)
output_run phase names None = given None
output_run phase names (Some ty) = type_run phase names ty >> (λ n. given (Some n))

-- the fields of a struct
abbrev pub fields_run : Phase → Naming → List Field → Run (List NumberedType)
fields_run phase names fields = in_order (map (λ field. type_run phase names field.ty) fields)

-- the environment of all lifetimes
abbrev pub finished : Run Environment
finished s = Ok (environment_of s, s)

-- the receiver's type and the parameters
abbrev pub inputs_run : Phase → Naming → Option SelfParam → List Param → Run (Option Target × List NumberedType)
inputs_run phase names receiver params = receiver_run phase names receiver >> (λ own. params_run phase names params >> (λ types. given (own, types)))

-- those of a trait's method
abbrev pub trait_inputs_run : Phase → Naming → TraitMethod → Run (Option TraitTarget × List NumberedType)
trait_inputs_run phase names method =
    trait_receiver_run phase names method.self_param >> (λ own. params_run phase names method.params >> (λ types. given (own, types)))

-- the return, and the environment
abbrev pub returned_run : Phase → Naming → Option TypeName → Run (Option NumberedType × Environment)
returned_run phase names output = output_run phase names output >> (λ ty. finished >> (λ lifetimes. given (ty, lifetimes)))

-- a whole signature
abbrev pub signature_run : Naming → Option SelfParam → List Param → Option TypeName → Run NumberedSignature
signature_run names receiver params output =
    borrow_run (Using Borrow) (receiver_borrow receiver) >> (λ borrow. inputs_run (Using Counting) names receiver params
    >> (λ inputs. returned_run Returning names output
    >> (λ returned. given (record { borrow = borrow; own = inputs.0; params = inputs.1; output = returned.0; lifetimes = returned.1 }))))

-- that of a trait's method
abbrev pub trait_method_run : Naming → TraitMethod → Run NumberedTraitMethod
trait_method_run names method =
    borrow_run (Using Borrow) (trait_borrow method.self_param) >> (λ borrow. trait_inputs_run (Using Counting) names method
    >> (λ inputs. returned_run (Using Counting) names method.output_type
    >> (λ returned. given (record { borrow = borrow; own = inputs.0; params = inputs.1; output = returned.0; lifetimes = returned.1 }))))

-- a part of what is made is that value, and what then stands
abbrev pub IsTold : {A X : Type 0} → (X → A) → (X → Signature → Type 0) → Result X NumberFault → Result (A × Signature) NumberFault → Type 0
IsTold part stands (Ok x) r = Comes (stands x) (part x) r
IsTold part stands (Err e) r = RunTells e r

-- what comes, without what then stands
abbrev pub run_value : {A : Type 0} → Result (A × Signature) NumberFault → Result A NumberFault
run_value (Ok both) = Ok both.0
run_value (Err e) = Err e

-- of a signature that declares these lifetimes, from its beginning on
abbrev pub whole_run : {A : Type 0} → LifetimeEnv → Run A → Result A NumberFault
whole_run declared run = if nat_lt most (length declared.nodes) then Err (fault.Elide elide.TooManyLifetimes) else run_value (run (begun declared))

-- a fault that a call tells which goes through a signature from its beginning on: want of memory, a declared name that is no
-- identifier, or the fault of the run
abbrev pub StartTells : {A : Type 0} → LifetimeEnv → NumberFault → Result A NumberFault → Type 0
StartTells declared fault.NoMemory r = ⊤
StartTells declared fault.UnresolvedPath r = r ≡ Err fault.UnresolvedPath
StartTells declared fault.LifetimeArity r = r ≡ Err fault.LifetimeArity
StartTells declared (fault.Elide elide.LifetimeUnknown) r = r ≡ Err (fault.Elide elide.LifetimeUnknown)
StartTells declared (fault.Elide elide.AnonymousInDefinition) r = r ≡ Err (fault.Elide elide.AnonymousInDefinition)
StartTells declared (fault.Elide elide.ElisionNoSource) r = r ≡ Err (fault.Elide elide.ElisionNoSource)
StartTells declared (fault.Elide elide.ElisionAmbiguous) r = r ≡ Err (fault.Elide elide.ElisionAmbiguous)
StartTells declared (fault.Elide elide.TooManyLifetimes) r = r ≡ Err (fault.Elide elide.TooManyLifetimes)
StartTells declared (fault.Elide elide.BadIdent) r = (r ≡ Err (fault.Elide elide.BadIdent)) ⊎ (¬ HasIdents declared)
StartTells declared (fault.Elide elide.NoMemory) r = r ≡ Err (fault.Elide elide.NoMemory)

abbrev pub Starts : {A : Type 0} → LifetimeEnv → Result A NumberFault → Result A NumberFault → Type 0
Starts declared (Ok x) r = r ≡ Ok x
Starts declared (Err e) r = StartTells declared e r
