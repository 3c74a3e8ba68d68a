-- The words for the kinds of faults.
use Rattle.std.specs.Prelude.{ℕ, List, codes}
use Rattle.bridge_form.specs.declared.fault.InputKind.{InputKind}
use Rattle.bridge_form.specs.declared.fault.InputKind.TheVariants as input

-- the words for a kind of fault
unfoldable pub kind_text : InputKind → List ℕ
kind_text input.NotJson = codes "not JSON"
kind_text input.UnknownKey = codes "unknown key"
kind_text input.MissingKey = codes "missing key"
kind_text input.WrongForm = codes "wrong form"
kind_text input.DuplicateModule = codes "duplicate module"
kind_text input.DuplicateItem = codes "duplicate item"
kind_text input.DuplicateLifetime = codes "duplicate lifetime"
kind_text input.BoundOutOfRange = codes "bound out of range"
kind_text input.BoundOneSided = codes "bound one-sided"
