-- What the code keeps of a definition that a path names.
use Rattle.std.specs.Prelude.{ℕ, List, length, Bool, Option, Some, None, Err, nat_lt, if◌then◌else◌}
use Rattle.std.specs.Option.{option_copied}
use Rattle.bridge_decl.specs.declared.lifetimes.LifetimeEnv.{LifetimeEnv}
use Rattle.bridge_decl.specs.declared.lifetimes.Lifetime.{Lifetime}
use Rattle.hir_elide.specs.Generics.{all_or_fault, filled, lowered_generics, with_generics}
use Rattle.hir_elide.specs.Phases.{Phase}
use Rattle.hir_life.specs.declared.maybe_static.MaybeStatic.{MaybeStatic}
use Rattle.hir_number.specs.declared.fault.NumberFault.TheVariants as fault
use Rattle.hir_number.specs.Faults.{of_elided}
use Rattle.hir_number.specs.inside.Threads.{Run, standing}
use Rattle.hir_number.specs.declared.names.Definition.{Definition as Found}
use Rattle.hir_number.specs.declared.numbered.Kind.{Kind}
use Rattle.hir_number.specs.Naming.{Definition}

-- how many lifetimes it declares
abbrev pub generic_count : Option LifetimeEnv → ℕ
generic_count None = 0
generic_count (Some env) = length env.nodes

-- the definition
abbrev pub definition_seen : Found → Definition
definition_seen found = record { place = found.place; count = generic_count (option_copied found.generics) }

abbrev pub named_seen : Found × Kind → Definition × Kind
named_seen both = (definition_seen both.0, both.1)

-- the generics that a path writes, where its definition declares so many
abbrev pub list_run : Phase → Bool → List Lifetime → ℕ → Run (List (MaybeStatic ℕ))
list_run phase is_self written count s =
    standing (with_generics phase is_self s (filled written count))
    (if nat_lt count (length written) then Err fault.LifetimeArity
    else of_elided (all_or_fault (lowered_generics phase is_self s (filled written count))))
