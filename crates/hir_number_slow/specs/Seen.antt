-- Uses and occurrences as data, and what the definitions have for them.
use Rattle.std.specs.Prelude.{Bool, List, map, option_map}
use Rattle.bridge_decl.specs.declared.lifetimes.Lifetime.{Lifetime}
use Rattle.bridge_decl.specs.declared.lifetimes.LifetimeEnv.{LifetimeEnv}
use Rattle.bridge_decl.specs.declared.lifetimes.Lifetime.TheVariants as written
use Rattle.hir_elide.specs.Occurrences.{Borrow, Counting, Own, Signature}
use Rattle.hir_elide.specs.Phases.{Using, Returning, Defining}
use Rattle.hir_number.specs.Naming.{Definition}
use Rattle.hir_number.specs.Occurrences.{Appearance, AppearanceRole, Elides, Neither, elide_occurrence}
use Rattle.hir_number.specs.Signatures.{Placed, Section, Usual, TraitReturn}
use Rattle.hir_number.specs.Uses.{Use, One, Path}
use Rattle.hir_number_slow.specs.declared.occurrences.Occurrence.{Occurrence as Occurring}
use Rattle.hir_number_slow.specs.declared.occurrences.Role.{Role}
use Rattle.hir_number_slow.specs.declared.occurrences.Role.TheVariants as role
use Rattle.hir_number_slow.specs.declared.occurrences.Written.{Written}
use Rattle.hir_number_slow.specs.declared.occurrences.Written.TheVariants as lifetime
use Rattle.hir_number_slow.specs.declared.uses.Found.{Found}
use Rattle.hir_number_slow.specs.declared.uses.Part.{Part}
use Rattle.hir_number_slow.specs.declared.uses.Part.TheVariants as part
use Rattle.hir_number_slow.specs.declared.uses.PlacedUse.{PlacedUse}
use Rattle.hir_number_slow.specs.declared.uses.Use.{Use as Lent}
use Rattle.hir_number_slow.specs.declared.uses.Use.TheVariants as lent

-- the definition that a path names
abbrev pub found_seen : Found → Definition
found_seen found = record { place = found.place; count = found.count }

-- a use
abbrev pub use_seen : Lent → Use
use_seen (lent.One l) = One l.now
use_seen (lent.Path is_self path found) = Path is_self path.now (option_map found_seen found)

-- the part of a signature in which it stands
abbrev pub part_seen : Part → Section
part_seen part.Borrow = Usual (Using Borrow)
part_seen part.Input = Usual (Using Counting)
part_seen part.Output = Usual Returning
part_seen part.TraitOutput = TraitReturn
part_seen part.Field = Usual Defining

-- both
abbrev pub placed_seen : PlacedUse → Placed
placed_seen p = (part_seen p.part, use_seen p.used)

-- ---- occurrences

-- a lifetime
abbrev pub written_seen : Written → Lifetime
written_seen lifetime.Static = written.Static
written_seen (lifetime.Named name) = written.Named name.now
written_seen lifetime.Anonymous = written.Anonymous

-- the role in which it occurs
abbrev pub role_seen : Role → AppearanceRole
role_seen role.Borrow = Elides Borrow
role_seen role.Own = Elides Own
role_seen role.Counting = Elides Counting
role_seen role.Neither = Neither

-- both
abbrev pub appearance_seen : Occurring → Appearance
appearance_seen o = record { lifetime = written_seen o.lifetime; role = role_seen o.role }

-- a signature with these occurrences, in which `Self` was met or wasn't
abbrev pub signature_seen : LifetimeEnv → List Occurring → Bool → Signature
signature_seen declared os met = record { declared = declared; occurrences = map elide_occurrence (map appearance_seen os); has_self = met }
