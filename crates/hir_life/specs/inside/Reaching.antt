-- The lifetimes that a walk has reached: those that it gave, and those that are still to be given. The example throughout is a
-- walk to the longer from a in `fn f<'a, 'b: 'a, 'c: 'b, 'd>`, which has given a: it has reached a and b.
use Rattle.std.specs.Prelude.{◌≡◌, ℕ, List, Bool, false, true, ◌<◌, ◌++◌, length, slice_index, slice_index_or, count_by}
use Rattle.std.specs.List.{Contains}
use Rattle.hir_life.specs.inside.Firsts.{AreFirstNotIn}

-- the flags that are set are those of the lifetimes in the list, in which each stands once: for the list a, b the flags are
-- true, true, false, false
pub record Marks (order : List ℕ) (reached : List Bool) : Type 0 where
  pub marked : (k : ℕ) → Contains order k → slice_index_or reached k false ≡ true
  pub kept : (k : ℕ) → slice_index_or reached k false ≡ true → Contains order k
  pub apart : (i j : ℕ) → i < j → j < length order → slice_index order i ≡ slice_index order j → ⊥
  pub counted : length order ≡ count_by (λ flag. flag) reached

-- the list has grown by some of these lifetimes, in their order, and has all of them now: from a to a, b by the bound b of a
pub record Reaches (old new lifetimes : List ℕ) : Type 0 where
  pub more : List ℕ
  pub grown : new ≡ old ++ more
  pub among : (k : ℕ) → Contains more k → Contains lifetimes k
  pub ordered : AreFirstNotIn old lifetimes more
  pub all : (k : ℕ) → Contains lifetimes k → Contains new k
