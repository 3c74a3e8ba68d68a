-- Why a signature or a definition has no numbers.
use Rattle.std.specs.Prelude.{◌≡◌, ⊤, Result, Ok, Err}
use Rattle.bridge_decl.specs.declared.lifetimes.LifetimeEnv.{LifetimeEnv}
use Rattle.hir_elide.specs.declared.fault.ElideFault.{ElideFault}
use Rattle.hir_elide.specs.declared.fault.ElideFault.TheVariants as elide
use Rattle.hir_life.specs.Declarations.{HasIdents}
use Rattle.hir_number.specs.declared.fault.NumberFault.{NumberFault}
use Rattle.hir_number.specs.declared.fault.NumberFault.TheVariants as fault

-- the fault of a lifetime
abbrev pub of_elide : ElideFault → NumberFault
of_elide elide.LifetimeUnknown = fault.Elide elide.LifetimeUnknown
of_elide elide.AnonymousInDefinition = fault.Elide elide.AnonymousInDefinition
of_elide elide.ElisionNoSource = fault.Elide elide.ElisionNoSource
of_elide elide.ElisionAmbiguous = fault.Elide elide.ElisionAmbiguous
of_elide elide.TooManyLifetimes = fault.Elide elide.TooManyLifetimes
of_elide elide.BadIdent = fault.Elide elide.BadIdent
of_elide elide.NoMemory = fault.NoMemory

-- what a lifetime is lowered to, with the fault of one
abbrev pub of_elided : {A : Type 0} → Result A ElideFault → Result A NumberFault
of_elided (Ok x) = Ok x
of_elided (Err e) = Err (of_elide e)

-- a fault is that of the answer, unless it is want of memory, or one of a declared name that is no identifier
abbrev pub FaultTold : {A : Type 0} → LifetimeEnv → NumberFault → Result A NumberFault → Type 0
FaultTold declared fault.NoMemory answer = ⊤
FaultTold declared fault.UnresolvedPath answer = answer ≡ Err fault.UnresolvedPath
FaultTold declared fault.LifetimeArity answer = answer ≡ Err fault.LifetimeArity
FaultTold declared (fault.Elide elide.LifetimeUnknown) answer = answer ≡ Err (fault.Elide elide.LifetimeUnknown)
FaultTold declared (fault.Elide elide.AnonymousInDefinition) answer = answer ≡ Err (fault.Elide elide.AnonymousInDefinition)
FaultTold declared (fault.Elide elide.ElisionNoSource) answer = answer ≡ Err (fault.Elide elide.ElisionNoSource)
FaultTold declared (fault.Elide elide.ElisionAmbiguous) answer = answer ≡ Err (fault.Elide elide.ElisionAmbiguous)
FaultTold declared (fault.Elide elide.TooManyLifetimes) answer = answer ≡ Err (fault.Elide elide.TooManyLifetimes)
FaultTold declared (fault.Elide elide.BadIdent) answer = ¬ (HasIdents declared)
FaultTold declared (fault.Elide elide.NoMemory) answer = ⊥

-- it is none of a path or of a name: a lifetime is left out where it can't be, or there are too many, or a declared name is
-- no identifier, or there was no memory
abbrev pub IsOfElision : NumberFault → Type 0
IsOfElision fault.UnresolvedPath = ⊥
IsOfElision fault.LifetimeArity = ⊥
IsOfElision (fault.Elide elide.LifetimeUnknown) = ⊥
IsOfElision (fault.Elide elide.AnonymousInDefinition) = ⊤
IsOfElision (fault.Elide elide.ElisionNoSource) = ⊤
IsOfElision (fault.Elide elide.ElisionAmbiguous) = ⊤
IsOfElision (fault.Elide elide.TooManyLifetimes) = ⊤
IsOfElision (fault.Elide elide.BadIdent) = ⊤
IsOfElision (fault.Elide elide.NoMemory) = ⊥
IsOfElision fault.NoMemory = ⊤
