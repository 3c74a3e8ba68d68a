-- The number of a lifetime: a name's place in the environment, and past the names the anonymous ones in the order in which
-- they are used. In `impl<'a> Foo<'a> { fn f(&self, x: &'a O, y: &O) -> &O }` the name a is 0, and the borrows of the receiver
-- and of y are 1 and 2.
use Rattle.std.specs.Prelude.{ℕ, suc, List, [], ◌∷◌, Option, Some, None, Result, Ok, Err, nat_lt, if◌then◌else◌}
use Rattle.bridge_decl.specs.declared.lifetimes.Lifetime.{Lifetime}
use Rattle.bridge_decl.specs.declared.lifetimes.Lifetime.TheVariants as written
use Rattle.hir_elide.specs.declared.fault.ElideFault.{ElideFault}
use Rattle.hir_elide.specs.declared.fault.ElideFault.TheVariants as fault
use Rattle.bridge_text.specs.NameIndex.{number_of}
use Rattle.hir_life.specs.declared.maybe_static.MaybeStatic.{MaybeStatic}
use Rattle.hir_life.specs.declared.maybe_static.MaybeStatic.TheVariants.{Static, NonStatic}

-- what a lifetime is lowered to: `'static` or a number, or the rule that it breaks
abbrev pub Number : Type 0
Number = Result (MaybeStatic ℕ) ElideFault

-- the most lifetimes that a signature or a definition may have
abbrev pub most : ℕ
most = 4095

-- the number, where that is one of those that a lifetime may have
abbrev pub within_most : ℕ → Number
within_most n = if nat_lt n most then Ok (NonStatic n) else Err fault.TooManyLifetimes

-- a name's number is its place
abbrev pub name_number : Option ℕ → Number
name_number None = Err fault.LifetimeUnknown
name_number (Some place) = within_most place

-- the number of a lifetime where so many have one before it: an anonymous lifetime is a new one
abbrev pub lifetime_number : List (List ℕ) → ℕ → Lifetime → Number
lifetime_number names count written.Static = Ok Static
lifetime_number names count (written.Named name) = name_number (number_of names name)
lifetime_number names count written.Anonymous = within_most count

-- one more has a number where the lifetime is anonymous
abbrev pub one_if_anonymous : Lifetime → ℕ → ℕ
one_if_anonymous written.Static n = n
one_if_anonymous (written.Named name) n = n
one_if_anonymous written.Anonymous n = suc n

-- how many have one after these, where so many had one before them: after a, the borrow of the receiver and that of y three
abbrev pub count_after : ℕ → List Lifetime → ℕ
count_after count [] = count
count_after count (l ∷ ls) = count_after (one_if_anonymous l count) ls

-- the numbers of lifetimes that are used one after another: of the receiver's borrow, `'a`, `'a` and the borrow of y, where one
-- name is declared, they are 1, 0, 0, 2
abbrev pub lifetime_numbers : List (List ℕ) → ℕ → List Lifetime → List Number
lifetime_numbers names count [] = []
lifetime_numbers names count (l ∷ ls) = lifetime_number names count l ∷ lifetime_numbers names (one_if_anonymous l count) ls
