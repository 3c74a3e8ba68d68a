use Rattle.bridge_generate.proofs.PathLemmas.{names_opaque, names_struct}
use Rattle.bridge_generate.proofs.laws.generated_paths_name_types.Goals as goal

pub returns : goal.returns
returns c = record { opaque = λ count. names_opaque count; structs = λ count number within. names_struct count number within }
