-- When two forms say the same of a value, and that forms which say how deep a type, a condition or a module may nest cut nothing off.
use Rattle.std.specs.Prelude.{◌≡◌, ℕ, ◌+◌, ◌≤◌, List}
use Rattle.serde_json.specs.Data.{Data, depth}
use Rattle.serde_json.specs.Read.{max_depth}
use Rattle.bridge_form.specs.Form.{Form}
use Rattle.bridge_read_parts.specs.forms.Attrs.{condition_within}
use Rattle.bridge_read.specs.forms.Modules.{nested_in}
use Rattle.bridge_read_parts.specs.forms.Types.{type_within}

-- the forms say the same of the value: what it spells, which faults it has, and what is read of it
pub record SaySame {A : Type 0} (f g : Form A) (d : Data) : Type 0 where
  pub read : f.read d ≡ g.read d
  pub faults : f.faults d ≡ g.faults d
  pub there : (x : A) → f.Spells d x → g.Spells d x
  pub back : (x : A) → g.Spells d x → f.Spells d x

-- n levels more change nothing in what the value spells
pub record SameWithMore (n : ℕ) (d : Data) : Type 0 where
  pub types : SaySame (type_within 128) (type_within (128 + n)) d
  pub conditions : SaySame (condition_within 128) (condition_within (128 + n)) d
  pub modules : (path : List (List ℕ)) → SaySame (nested_in 64 path) (nested_in (64 + n) path) d

-- levels more than those of the forms change nothing in a value that nests no deeper than a JSON text may
abbrev pub CutsNothing : Type 0
CutsNothing = (n : ℕ) (d : Data) → depth d ≤ max_depth → SameWithMore n d
