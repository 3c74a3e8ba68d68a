-- Under which URLs the documentation of crates lies. A text is the list of its bytes.
use Rattle.std.specs.Prelude.{ℕ, List, Option}
use Rattle.std.specs.Map.{lookup}
use Rattle.std.specs.BTreeMap.{is_at}
use Rattle.std.specs.Cmp.Lexicographic.{slice_cmp}
use Rattle.std.specs.Ordering.{nat_cmp}

-- the URL for crates that have none of their own, if there is one; and the crates that have one, each with its URL, in the order
-- of their names
pub record BaseUrls : Type 0 where
  pub default : Option (List ℕ)
  pub bases : List (List ℕ × List ℕ)

-- the crate's own URL, if it has one
abbrev pub base_of : BaseUrls → List ℕ → Option (List ℕ)
base_of urls crate_name = lookup (is_at (slice_cmp nat_cmp crate_name)) urls.bases
