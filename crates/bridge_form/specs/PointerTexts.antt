-- The text of a JSON pointer (RFC 6901).
use Rattle.std.specs.Prelude.{ℕ, List, ◌++◌, codes, decimal, nat_eq, if◌then◌else◌}
use Rattle.std.specs.Char.{encode_utf8}
use Rattle.std.specs.List.{flat_map}
use Rattle.std.specs.Str.{chars}
use Rattle.bridge_form.specs.declared.pointer.Step.{Step}
use Rattle.bridge_form.specs.declared.pointer.Step.TheVariants.{Member, Index}

-- a character as a pointer writes it: `~` as `~0`, `/` as `~1`, any other as it is
abbrev pub escaped : ℕ → List ℕ
escaped c = if nat_eq c 126 then codes "~0" else (if nat_eq c 47 then codes "~1" else encode_utf8 c)

abbrev pub escaped_text : List ℕ → List ℕ
escaped_text text = flat_map escaped (chars text)

abbrev pub step_text : Step → List ℕ
step_text (Member name) = codes "/" ++ escaped_text name
step_text (Index n) = codes "/" ++ decimal n

abbrev pub pointer_text : List Step → List ℕ
pointer_text steps = flat_map step_text steps
