-- Lifetimes, references and paths.
use Rattle.std.specs.Prelude.{ℕ, List, [], codes, Bool, true, false, if◌then◌else◌}
use Rattle.std.specs.Str.{bytes_eq}
use Rattle.bridge_decl.specs.declared.lifetimes.Lifetime.{Lifetime}
use Rattle.bridge_decl.specs.declared.lifetimes.Lifetime.TheVariants.{Static, Named, Anonymous}
use Rattle.bridge_decl.specs.declared.lifetimes.LifetimeNode.{LifetimeNode}
use Rattle.bridge_decl.specs.declared.paths.PathType.{PathType}
use Rattle.bridge_decl.specs.declared.types.Mutability.{Mutability}
use Rattle.bridge_decl.specs.declared.types.Mutability.TheVariants.{Mutable, Immutable}
use Rattle.bridge_form.specs.declared.keys.Key.TheVariants as key
use Rattle.bridge_form.specs.Form.{Form, object_with, made, ◌&◌, needs, may_be, list, some_list, text, number_form, flag, mapped}

-- `static`, `_` for an anonymous one, or a name
unfoldable pub lifetime_called : List ℕ → Lifetime
lifetime_called name = if bytes_eq name (codes "static") then Static else (if bytes_eq name (codes "_") then Anonymous else Named name)

unfoldable pub lifetime : Form Lifetime
lifetime = mapped lifetime_called text

abbrev pub node_of : List ℕ → List ℕ → List ℕ → LifetimeNode
node_of name longer shorter = record { name = name; longer = longer; shorter = shorter }

-- {"name": text, "longer": [numbers], "shorter": [numbers]}
unfoldable pub node : Form LifetimeNode
node = object_with (made node_of & needs key.Name text & may_be key.Longer (list number_form) [] & may_be key.Shorter (list number_form) [])

abbrev pub mutability : Bool → Mutability
mutability true = Mutable
mutability false = Immutable

abbrev pub reference_of : Lifetime → Bool → Lifetime × Mutability
reference_of of mutable = (of, mutability mutable)

-- {"lifetime": lifetime, "mutable": bool}
unfoldable pub reference : Form (Lifetime × Mutability)
reference = object_with (made reference_of & needs key.Lifetime lifetime & may_be key.Mutable flag false)

abbrev pub path_of : List (List ℕ) → List Lifetime → PathType
path_of segments lifetimes = record { segments = segments; lifetimes = lifetimes }

-- {"segments": [texts, at least one], "lifetimes": [lifetimes]}
unfoldable pub path : Form PathType
path = object_with (made path_of & needs key.Segments (some_list text) & may_be key.Lifetimes (list lifetime) [])
