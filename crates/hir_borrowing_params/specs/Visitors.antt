-- What a visitor stands for.
use Rattle.std.specs.Prelude.{ℕ, Option}
use Rattle.hir_context.specs.declared.parts.Definitions.{Definitions}
use Rattle.hir_borrowing_params.specs.Edges.{HeldFor, held_under}
use Rattle.hir_borrowing_params.specs.declared.visitor.BorrowingParamVisitor.{BorrowingParamVisitor}

-- what it keeps of a lifetime; nothing of one that isn't returned
abbrev pub kept_under : BorrowingParamVisitor → ℕ → Option HeldFor
kept_under v t = held_under v.map t

-- the definitions of its context
abbrev pub visited_definitions : BorrowingParamVisitor → Definitions
visited_definitions v = v.tcx.now.definitions
