-- The leaves that fields stand for, and calls at these.
use Rattle.std.specs.Prelude.{◌≡◌, ℕ}
use Rattle.std.specs.Fn.{Mut, Called}
use Rattle.hir_life.specs.declared.maybe_static.MaybeStatic.{MaybeStatic}
use Rattle.hir_skeleton.specs.NamedLeaves.{NamedLeaf}
use Rattle.hir_borrowing_fields.specs.NamedLeaves.{leaf_at}
use Rattle.hir_borrowing_fields.specs.declared.fields.BorrowingField.{BorrowingField}

-- the leaf that a field stands for: that of its number among those of its visitor
abbrev pub visited_leaf : BorrowingField → NamedLeaf
visited_leaf field = leaf_at field.visitor.now field.leaf

-- a call at a lifetime and a field that stands for a leaf, which answers r and leaves f' of f: at 'a and `mark.page`
pub record CalledAtLeaf {F R : Type 0} (g : Mut F (MaybeStatic ℕ × (BorrowingField × Unit {0})) R) (f : F) (x : MaybeStatic ℕ × NamedLeaf) (r : R) (f' : F) : Type 0 where
  pub shown : BorrowingField
  pub shows : visited_leaf shown ≡ x.1
  pub called : Called g f (x.0, (shown, tt)) r f'
