-- What a lowerer keeps of the lifetimes that a return may borrow for.
use Rattle.std.specs.Prelude.{◌≡◌, ℕ, List, [], ◌∷◌, Ok, Err}
use Rattle.hir_elide.specs.declared.fault.ElideFault.TheVariants as fault
use Rattle.hir_elide.specs.declared.source.ElisionSource.{ElisionSource}
use Rattle.hir_elide.specs.declared.source.ElisionSource.TheVariants as source
use Rattle.hir_elide.specs.Numbering.{Number}
use Rattle.hir_life.specs.declared.maybe_static.MaybeStatic.{MaybeStatic}

-- the source is that of these borrows of the receiver, and of these lifetimes that count
abbrev pub IsSource : ElisionSource → List Number → List Number → Type 0
IsSource source.NoBorrows borrows counting = (borrows ≡ []) × (counting ≡ [])
IsSource (source.SelfParam borrow) borrows counting = (more : List Number) × (borrows ≡ Ok borrow ∷ more)
IsSource (source.OneParam one) borrows counting = (borrows ≡ []) × (counting ≡ Ok one ∷ [])
IsSource source.MultipleBorrows borrows counting = (borrows ≡ []) × (one : Number) × (another : Number) × (more : List Number) × (counting ≡ one ∷ another ∷ more)

-- the source with one more lifetime that counts
abbrev pub with_counting : ElisionSource → MaybeStatic ℕ → ElisionSource
with_counting source.NoBorrows number = source.OneParam number
with_counting (source.SelfParam borrow) number = source.SelfParam borrow
with_counting (source.OneParam one) number = source.MultipleBorrows
with_counting source.MultipleBorrows number = source.MultipleBorrows

-- what it makes of a lifetime that is left out
abbrev pub elided_from : ElisionSource → Number
elided_from (source.SelfParam borrow) = Ok borrow
elided_from (source.OneParam one) = Ok one
elided_from source.NoBorrows = Err fault.ElisionNoSource
elided_from source.MultipleBorrows = Err fault.ElisionAmbiguous
