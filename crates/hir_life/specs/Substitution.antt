-- The lifetimes of a definition in terms of those where it is used. The example throughout is
-- `struct Foo<'a, 'b> { bar: Bar<'b> }` used as `Foo<'static, 'x>`, whose arguments are `'static` and x.
use Rattle.std.specs.Prelude.{⊤, ℕ, List, ◌<◌, map, slice_index_or}
use Rattle.std.specs.List.{All, range_with_len}
use Rattle.hir_life.specs.declared.maybe_static.MaybeStatic.{MaybeStatic}
use Rattle.hir_life.specs.declared.maybe_static.MaybeStatic.TheVariants.{Static, NonStatic}

-- what the lifetime becomes under these arguments: `'static` stays, and a number becomes the argument at its place, as b
-- becomes x. A number past the arguments stands for nothing; conditions rule it out
abbrev pub subst : MaybeStatic ℕ → List (MaybeStatic ℕ) → MaybeStatic ℕ
subst Static args = Static
subst (NonStatic l) args = slice_index_or args l Static

-- the same for a list, entry by entry: the arguments of `bar`, which are b alone, become x alone
abbrev pub subst_each : List (MaybeStatic ℕ) → List (MaybeStatic ℕ) → List (MaybeStatic ℕ)
subst_each ls args = map (λ l. subst l args) ls

-- the lifetime is `'static`, or its number is below n: it is one of a definition with n lifetimes
abbrev pub IsBelow : ℕ → MaybeStatic ℕ → Type 0
IsBelow n Static = ⊤
IsBelow n (NonStatic l) = l < n

-- the same of each lifetime of the list
abbrev pub AreBelow : ℕ → List (MaybeStatic ℕ) → Type 0
AreBelow n ls = All (IsBelow n) ls

-- the lifetimes themselves, up to n: the arguments under which nothing changes
abbrev pub identity : ℕ → List (MaybeStatic ℕ)
identity n = map (λ l. NonStatic l) (range_with_len 0 n)
