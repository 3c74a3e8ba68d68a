-- A signature before anything in it is used, and the environment of all its lifetimes.
use Rattle.std.specs.Prelude.{⊤, [], map, false}
use Rattle.bridge_decl.specs.declared.lifetimes.LifetimeEnv.{LifetimeEnv}
use Rattle.hir_life.specs.Declarations.{bounded}
use Rattle.hir_life.specs.Environment.{Environment}
use Rattle.hir_elide.specs.declared.fault.ElideFault.{ElideFault}
use Rattle.hir_elide.specs.declared.fault.ElideFault.TheVariants as fault
use Rattle.hir_elide.specs.Occurrences.{Signature, count_of}

-- a signature in which nothing was used so far
abbrev pub begun : LifetimeEnv → Signature
begun env = record { declared = env; occurrences = []; has_self = false }

-- the declared lifetimes, and the count of all with the anonymous ones
abbrev pub environment_of : Signature → Environment
environment_of s = record { bounds = map bounded s.declared.nodes; count = count_of s }

-- the fault is one of the declared names: there are too many, one is no identifier, or there was no memory for them
abbrev pub IsOfNames : ElideFault → Type 0
IsOfNames fault.TooManyLifetimes = ⊤
IsOfNames fault.BadIdent = ⊤
IsOfNames fault.NoMemory = ⊤
IsOfNames fault.LifetimeUnknown = ⊥
IsOfNames fault.AnonymousInDefinition = ⊥
IsOfNames fault.ElisionNoSource = ⊥
IsOfNames fault.ElisionAmbiguous = ⊥
