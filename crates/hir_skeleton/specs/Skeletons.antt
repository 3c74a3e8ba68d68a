-- What of a type decides from where something may be borrowed through it. The example throughout is
--     #[diplomat::opaque] pub struct Page<'a>(..);
--     pub struct Mark<'x, 'y> { page: &'x Page<'y>, line: u32 }
--     fn open<'a, 'b: 'a>(mark: DiplomatOption<Mark<'a, 'b>>) -> &'a Page<'b>
use Rattle.std.specs.Prelude.{⊤, ℕ, List}
use Rattle.hir_life.specs.Substitution.{AreBelow}
use Rattle.hir_life.specs.declared.maybe_static.MaybeStatic.{MaybeStatic}

-- over what structs are known by
pub data Skeleton (K : Type 0) : Type 0 where
  -- nothing can be borrowed through it: the u32, an enum, a boxed opaque, a list of strings
  Nothing : Skeleton K
  -- a borrowed opaque or a slice, with all its lifetimes in order: `page` has 'x, and 'y
  Carrier : List (MaybeStatic ℕ) → Skeleton K
  -- a struct by value or by reference, with the lifetimes that it is given: `mark` is a Mark with 'a and 'b, and the
  -- option doesn't count
  Struct : K → List (MaybeStatic ℕ) → Skeleton K

-- all its lifetimes are among the first n: those of a method or of a definition with n lifetimes
abbrev pub HasLifetimesBelow : {K : Type 0} → ℕ → Skeleton K → Type 0
HasLifetimesBelow n Nothing = ⊤
HasLifetimesBelow n (Carrier lifetimes) = AreBelow n lifetimes
HasLifetimesBelow n (Struct key args) = AreBelow n args
