-- What a definition names. The example throughout is the parameter `page: &'p Page<'a>`.
use Rattle.std.specs.Prelude.{ℕ, List, [], ◌∷◌, Option, Some, None}
use Rattle.hir_life.specs.declared.maybe_static.MaybeStatic.{MaybeStatic}
use Rattle.hir_ids.specs.Owners.{lent}
use Rattle.hir_ids.specs.declared.ids.SymbolId.{SymbolId}
use Rattle.hir_ids.specs.declared.ids.SymbolId.TheVariants as symbol
use Rattle.hir_ids.specs.declared.ids.TypeId.TheVariants as type
use Rattle.hir_ids.specs.declared.owners.Borrow.{Borrow as Loan}
use Rattle.hir_ids.specs.declared.owners.MaybeOwn.{MaybeOwn}

-- something that is named
pub data Mentioned : Type 0 where
  -- an opaque, a struct or a trait by a path, with the lifetimes that the path gives it: `Page` with 'a
  Path : SymbolId → List (MaybeStatic ℕ) → Mentioned
  -- an enum, which has no lifetimes, or an opaque without a path
  Plain : SymbolId → Mentioned
  -- the lifetime of a reference or of a slice: 'p
  Borrow : MaybeStatic ℕ → Mentioned

-- those of what there is, and none where there is nothing
abbrev pub where_any : {A B : Type 0} → (A → List B) → Option A → List B
where_any f None = []
where_any f (Some x) = f x

-- the lifetime of a borrow
abbrev pub borrow_mentions : Loan → List Mentioned
borrow_mentions b = Borrow b.lifetime ∷ []

-- the lifetime of what is borrowed, and none of what is owned
abbrev pub owner_mentions : MaybeOwn → List Mentioned
owner_mentions o = where_any borrow_mentions (lent o)

-- an opaque with these lifetimes
abbrev pub opaque_mention : ℕ → List (MaybeStatic ℕ) → Mentioned
opaque_mention id lifetimes = Path (symbol.TypeId (type.Opaque id)) lifetimes

-- an enum
abbrev pub enum_mention : ℕ → Mentioned
enum_mention id = Plain (symbol.TypeId (type.Enum id))

-- the definition that is named, where it is no lifetime
abbrev pub named_by : Mentioned → Option SymbolId
named_by (Path id lifetimes) = Some id
named_by (Plain id) = Some id
named_by (Borrow lifetime) = None

-- the lifetimes that a path gives it, where there is one
abbrev pub given_by : Mentioned → Option (List (MaybeStatic ℕ))
given_by (Path id lifetimes) = Some lifetimes
given_by (Plain id) = None
given_by (Borrow lifetime) = None

-- the lifetime of a reference or of a slice
abbrev pub borrowed_by : Mentioned → Option (MaybeStatic ℕ)
borrowed_by (Path id lifetimes) = None
borrowed_by (Plain id) = None
borrowed_by (Borrow lifetime) = Some lifetime
