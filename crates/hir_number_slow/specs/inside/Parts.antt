-- What the steps of the slow functions give.
use Rattle.std.specs.Prelude.{Bool, false, List, [], Option, Some, None, option_map}
use Rattle.bridge_decl.specs.declared.modules.Item.{Item}
use Rattle.bridge_decl.specs.declared.lifetimes.Lifetime.{Lifetime}
use Rattle.bridge_ast.specs.declared.place.ItemPlace.{ItemPlace}
use Rattle.hir_number.specs.Naming.{Definition, type_found}
use Rattle.hir_elide.specs.Occurrences.{Role as Eliding, Signature, is_borrow, is_counting, is_own}
use Rattle.hir_elide.specs.Phases.{Phase, Using, Returning, Defining}
use Rattle.hir_number.specs.Occurrences.{Appearance, AppearanceRole, appearing, elide_role}
use Rattle.hir_number_slow.specs.declared.before.Before.{Before}
use Rattle.hir_number_slow.specs.declared.numbers.Mode.{Mode}
use Rattle.hir_number_slow.specs.declared.numbers.Mode.TheVariants as mode
use Rattle.hir_number_slow.specs.declared.occurrences.Role.{Role}
use Rattle.hir_number_slow.specs.declared.occurrences.Role.TheVariants as role
use Rattle.hir_number_slow.specs.Seen.{role_seen, signature_seen}

-- the definition of a type, without its kind
abbrev pub definition_found : Option (Item × ItemPlace) → Option Definition
definition_found named = option_map (λ found. found.0) (type_found named)

-- lifetimes that occur in that role, or don't
abbrev pub appearing_as : Option AppearanceRole → List Lifetime → List Appearance
appearing_as None ls = []
appearing_as (Some role) ls = appearing role ls

-- whether a role is the wanted one
abbrev pub role_test : Role → Eliding → Bool
role_test role.Borrow = is_borrow
role_test role.Own = is_own
role_test role.Counting = is_counting
role_test role.Neither = λ _. false

-- how lifetimes are lowered
abbrev pub mode_seen : Mode → Phase
mode_seen (mode.Uses role) = Using (elide_role (role_seen role))
mode_seen mode.Returns = Returning
mode_seen mode.Defines = Defining

-- what stands before a use
abbrev pub before_seen : Before → Signature
before_seen before = signature_seen before.declared.now before.occurrences.items before.met
