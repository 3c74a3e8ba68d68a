-- What lifetimes are called.
use Rattle.std.specs.Prelude.{◌≡◌, ℕ, List, ◌+◌, ◌-◌, ◌++◌, length, map, slice_get, codes, Option, Some, None}
use Rattle.std.specs.Fmt.{decimal}
use Rattle.hir_life.specs.Environment.{Environment}
use Rattle.hir_life.specs.declared.naming.LifetimeName.{LifetimeName}
use Rattle.hir_life.specs.declared.naming.LifetimeName.TheVariants.{Named, Anonymous}

-- the text that is printed: `a` for a lifetime of that name, and `anon_0` for the first anonymous one
abbrev pub printed : LifetimeName → List ℕ
printed (Named name) = name.now
printed (Anonymous number) = codes "anon_" ++ decimal number

-- the name that stands, or `anon_` and the number
abbrev pub name_or_number : Option (List ℕ) → ℕ → List ℕ
name_or_number (Some name) number = name
name_or_number None number = codes "anon_" ++ decimal number

-- the name of the lifetime l, or `anon_` and its number past the names: `fn f<'a>(x: &u8)` has `a` and `anon_0`
abbrev pub printed_name : Environment → ℕ → List ℕ
printed_name e l = name_or_number (slice_get (map (λ b. b.ident) e.bounds) l) (l - length e.bounds)

-- l has this name, or it is anonymous with this many anonymous lifetimes before it
abbrev pub IsNameOf : Environment → ℕ → LifetimeName → Type 0
IsNameOf e l (Named name) = slice_get (map (λ b. b.ident) e.bounds) l ≡ Some name.now
IsNameOf e l (Anonymous number) = l ≡ length e.bounds + number
