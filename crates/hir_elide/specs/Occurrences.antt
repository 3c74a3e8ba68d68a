-- The lifetimes of a signature where they are used, in order. The example throughout is
-- `impl<'a> Foo<'a> { fn f(&self, x: &'a O, y: &O) -> &O }`: the borrow of the receiver, the `'a` of `Foo<'a>`, the `'a` of x,
-- and the borrow of y.
use Rattle.std.specs.Prelude.{ℕ, Bool, true, false, List, [], ◌∷◌, ◌++◌, length, map, if◌then◌else◌}
use Rattle.bridge_decl.specs.declared.lifetimes.Lifetime.{Lifetime}
use Rattle.bridge_decl.specs.declared.lifetimes.LifetimeEnv.{LifetimeEnv}
use Rattle.bridge_decl.specs.Lifetimes.{lifetime_names}
use Rattle.hir_elide.specs.Numbering.{Number, count_after, lifetime_number, one_if_anonymous}

-- where a lifetime is used: it is the receiver's borrow, or one of the generics of `Self`, or stands elsewhere in a parameter
-- and counts for elision
pub data Role : Type 0 where
  Borrow : Role
  Own : Role
  Counting : Role

-- it is the receiver's borrow
abbrev pub is_borrow : Role → Bool
is_borrow Borrow = true
is_borrow Own = false
is_borrow Counting = false

-- it is one of the generics of `Self`
abbrev pub is_own : Role → Bool
is_own Borrow = false
is_own Own = true
is_own Counting = false

-- it counts for elision
abbrev pub is_counting : Role → Bool
is_counting Borrow = false
is_counting Own = false
is_counting Counting = true

-- a lifetime as it is written where it is used
pub record Occurrence : Type 0 where
  pub lifetime : Lifetime
  pub role : Role

-- a signature as far as it was gone through: its declared lifetimes; those that are used in its receiver, in its parameters and
-- as the generics of `Self`, in order; and whether `Self` was met
pub record Signature : Type 0 where
  pub declared : LifetimeEnv
  pub occurrences : List Occurrence
  pub has_self : Bool

-- how many lifetimes have a number: the names, and the anonymous ones that were used
abbrev pub count_of : Signature → ℕ
count_of s = count_after (length s.declared.nodes) (map (λ o. o.lifetime) s.occurrences)

-- the numbers of those that have such a role, where so many lifetimes have one before them
abbrev pub numbers_with : (Role → Bool) → List (List ℕ) → ℕ → List Occurrence → List Number
numbers_with has_role names count [] = []
numbers_with has_role names count (o ∷ os) =
    (if has_role o.role then lifetime_number names count o.lifetime ∷ [] else []) ++ numbers_with has_role names (one_if_anonymous o.lifetime count) os

-- the numbers of a signature's lifetimes that have such a role: those that count are 0 and 2, of the `'a` of x and the borrow of y
abbrev pub used_as : (Role → Bool) → Signature → List Number
used_as has_role s = numbers_with has_role (lifetime_names s.declared) (length s.declared.nodes) s.occurrences
