-- The laws of the form of a whole input.
use Rattle.std.specs.Prelude.{List}
use Rattle.bridge_decl.specs.declared.modules.Module.{Module}
use Rattle.bridge_form.specs.declared.keys.Key.TheVariants as key
use Rattle.bridge_read.specs.forms.Inputs.{declared_of, no_backend, whole}
use Rattle.bridge_read.specs.forms.Modules.{root}
use Rattle.bridge_read.specs.forms.Settings.{no_config, no_urls}
use Rattle.bridge_form.proofs.FormLaws.{Lawful}
use Rattle.bridge_form.proofs.Proved.{Proved, Object, Made, Needs, May_be, ◌&&&◌}
use Rattle.bridge_read.proofs.forms.Modules.{root_lawful}
use Rattle.bridge_read.proofs.forms.Settings.{P_backend, P_config, P_urls}

abbrev P_root : Proved (List Module)
P_root = record { form = root; lawful = root_lawful }

pub whole_lawful : Lawful whole
unfolding whole
whole_lawful = (Object (Made declared_of &&& Needs key.Root P_root &&& May_be key.Backend P_backend no_backend &&& May_be key.Config P_config no_config &&& May_be key.Docs P_urls no_urls)).lawful
