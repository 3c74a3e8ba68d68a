-- Looking for the pointer of a module by its number.
use Rattle.std.specs.Prelude.{◌≡◌, ℕ, ◌+◌, List, length, slice_get, Some}
use Rattle.bridge_pointers.specs.declared.places.Search.{Search}
use Rattle.bridge_pointers.specs.declared.places.Search.TheVariants.{Found, Left}
use Rattle.bridge_form.specs.declared.pointer.Step.{Step}

-- the search among these pointers for the one of a number: found, or so many are left to count after all of them
abbrev pub Searches : List (List Step) → ℕ → Search → Type 0
Searches pointers number (Found pointer) = slice_get pointers number ≡ Some pointer
Searches pointers number (Left left) = number ≡ length pointers + left
