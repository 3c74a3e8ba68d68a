-- How far what passed the tests comes, by what came of numbering it.
use Rattle.std.specs.Prelude.{Result, Ok, Err}
use Rattle.hir_number.specs.declared.fault.NumberFault.{NumberFault}
use Rattle.hir_number.specs.declared.signature.NumberedSignature.{NumberedSignature}
use Rattle.hir_signatures.specs.Stages.{Stage, Judged, Unnumbered}

-- so far
abbrev pub stage_of : Result NumberedSignature NumberFault → Stage
stage_of (Ok n) = Judged n
stage_of (Err fault) = Unnumbered fault
