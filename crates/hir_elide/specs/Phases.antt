-- How lifetimes are lowered where they are used: in the parameters, among the generics of `Self`, in the return, and in a
-- definition.
use Rattle.std.specs.Prelude.{List, ◌++◌, map, Ok, Err}
use Rattle.bridge_decl.specs.declared.lifetimes.Lifetime.{Lifetime}
use Rattle.bridge_decl.specs.declared.lifetimes.Lifetime.TheVariants as written
use Rattle.bridge_decl.specs.Lifetimes.{lifetime_names}
use Rattle.hir_elide.specs.declared.fault.ElideFault.TheVariants as fault
use Rattle.hir_elide.specs.Elision.{elided}
use Rattle.hir_elide.specs.Numbering.{Number, lifetime_number, lifetime_numbers, name_number}
use Rattle.bridge_text.specs.NameIndex.{number_of}
use Rattle.hir_elide.specs.Occurrences.{Role, Occurrence, Signature, count_of}
use Rattle.hir_life.specs.declared.maybe_static.MaybeStatic.TheVariants.{Static}

-- where lifetimes are lowered
pub data Phase : Type 0 where
  -- in the receiver and the parameters, with the role that they have there
  Using : Role → Phase
  -- in the return
  Returning : Phase
  -- in the fields of a definition
  Defining : Phase

-- in a return an anonymous lifetime is elided
abbrev pub returned : Signature → Lifetime → Number
returned s written.Static = Ok Static
returned s (written.Named name) = name_number (number_of (lifetime_names s.declared) name)
returned s written.Anonymous = elided s

-- in a definition there is none
abbrev pub defined : Signature → Lifetime → Number
defined s written.Static = Ok Static
defined s (written.Named name) = name_number (number_of (lifetime_names s.declared) name)
defined s written.Anonymous = Err fault.AnonymousInDefinition

-- what a lifetime is lowered to that is used next
abbrev pub lowered : Phase → Signature → Lifetime → Number
lowered (Using role) s l = lifetime_number (lifetime_names s.declared) (count_of s) l
lowered Returning s l = returned s l
lowered Defining s l = defined s l

-- what each of these is that are used next, one after another
abbrev pub lowered_each : Phase → Signature → List Lifetime → List Number
lowered_each (Using role) s ls = lifetime_numbers (lifetime_names s.declared) (count_of s) ls
lowered_each Returning s ls = map (returned s) ls
lowered_each Defining s ls = map (defined s) ls

-- these are used with that role
abbrev pub occurring : Role → List Lifetime → List Occurrence
occurring role ls = map (λ l. record { lifetime = l; role = role }) ls

-- the signature after these were used: what a return uses belongs to no parameter, and nor does what a definition uses
abbrev pub with_uses : Phase → Signature → List Lifetime → Signature
with_uses (Using role) s ls = record { declared = s.declared; occurrences = s.occurrences ++ occurring role ls; has_self = s.has_self }
with_uses Returning s ls = s
with_uses Defining s ls = s
