-- What lowered signatures name, as `hir_mentions` has it of methods.
use Rattle.std.specs.Prelude.{List, ◌++◌}
use Rattle.std.specs.List.{flat_map}
use Rattle.hir_form.specs.declared.signatures.LoweredSignature.{LoweredSignature}
use Rattle.hir_mentions.specs.Callbacks.{input_mentions, output_mentions}
use Rattle.hir_mentions.specs.Mentions.{Mentioned, where_any}
use Rattle.hir_mentions.specs.Types.{receiver_mentions, return_mentions}

-- the receiver where there is one, the parameters, and what is returned
abbrev pub signature_mentions : LoweredSignature → List Mentioned
signature_mentions s =
    where_any receiver_mentions s.param_self ++ flat_map input_mentions s.params ++ return_mentions output_mentions s.output
