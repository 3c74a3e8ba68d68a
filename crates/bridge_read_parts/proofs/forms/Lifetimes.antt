-- The laws of the forms of specs/forms/Lifetimes.
use Rattle.std.specs.Prelude.{[], false}
use Rattle.bridge_decl.specs.declared.lifetimes.Lifetime.{Lifetime}
use Rattle.bridge_decl.specs.declared.lifetimes.LifetimeNode.{LifetimeNode}
use Rattle.bridge_decl.specs.declared.paths.PathType.{PathType}
use Rattle.bridge_decl.specs.declared.types.Mutability.{Mutability}
use Rattle.bridge_form.specs.declared.keys.Key.TheVariants as key
use Rattle.bridge_read_parts.specs.forms.Lifetimes.{lifetime_called, lifetime, node_of, node, reference_of, reference, path_of, path}
use Rattle.bridge_form.proofs.FormLaws.{Lawful}
use Rattle.bridge_form.proofs.Proved.{Proved, List_of, Object, Made, Needs, May_be, ◌&&&◌, Text, Number, Flag, Mapped, Some_list}

pub lifetime_lawful : Lawful lifetime
unfolding lifetime
lifetime_lawful = (Mapped lifetime_called Text).lawful

abbrev pub P_lifetime : Proved Lifetime
P_lifetime = record { form = lifetime; lawful = lifetime_lawful }

pub node_lawful : Lawful node
unfolding node
node_lawful = (Object (Made node_of &&& Needs key.Name Text &&& May_be key.Longer (List_of Number) [] &&& May_be key.Shorter (List_of Number) [])).lawful

abbrev pub P_node : Proved LifetimeNode
P_node = record { form = node; lawful = node_lawful }

pub reference_lawful : Lawful reference
unfolding reference
reference_lawful = (Object (Made reference_of &&& Needs key.Lifetime P_lifetime &&& May_be key.Mutable Flag false)).lawful

abbrev pub P_reference : Proved (Lifetime × Mutability)
P_reference = record { form = reference; lawful = reference_lawful }

pub path_lawful : Lawful path
unfolding path
path_lawful = (Object (Made path_of &&& Needs key.Segments (Some_list Text) &&& May_be key.Lifetimes (List_of P_lifetime) [])).lawful

abbrev pub P_path : Proved PathType
P_path = record { form = path; lawful = path_lawful }
