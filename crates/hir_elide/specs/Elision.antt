-- What a lifetime stands for that a return leaves out: the receiver's borrow; where there is none, the only lifetime that is
-- used in the parameters, `Self`'s generics not counted. In `impl<'a> Foo<'a> { fn f(&self, x: &'a O, y: &O) -> &O }` the return
-- borrows for the borrow of the receiver; without it, for none, since two are used.
use Rattle.std.specs.Prelude.{List, [], ◌∷◌, Err}
use Rattle.hir_elide.specs.declared.fault.ElideFault.TheVariants as fault
use Rattle.hir_elide.specs.Numbering.{Number}
use Rattle.hir_elide.specs.Occurrences.{Signature, is_borrow, is_counting, used_as}

-- by the borrows of the receiver, of which there is one at most, and by the lifetimes that count
abbrev pub elided_by : List Number → List Number → Number
elided_by (borrow ∷ more) counting = borrow
elided_by [] [] = Err fault.ElisionNoSource
elided_by [] (one ∷ []) = one
elided_by [] (one ∷ another ∷ more) = Err fault.ElisionAmbiguous

-- by what is used in the signature
abbrev pub elided : Signature → Number
elided s = elided_by (used_as is_borrow s) (used_as is_counting s)
