-- What of a callable decides from which inputs its result may borrow, and how this is told. It can be read off a context and off
-- declarations, and it is the same: structs count without which they are. The example throughout is
--     #[diplomat::opaque] pub struct Page<'a>(..);
--     pub struct Mark<'x, 'y> { page: &'x Page<'y>, line: u32 }
--     impl Page<'_> { pub fn open<'a, 'b: 'a>(mark: DiplomatOption<Mark<'a, 'b>>) -> &'a Page<'b>; }
use Rattle.std.specs.Prelude.{ℕ, List, Bool}
use Rattle.hir_life.specs.Environment.{Environment}
use Rattle.hir_life.specs.declared.maybe_static.MaybeStatic.{MaybeStatic}
use Rattle.hir_reports.specs.declared.places.ErrorContext.{ErrorContext}
use Rattle.hir_skeleton.specs.NamedLeaves.{NamedLeaf}
use Rattle.hir_skeleton.specs.Skeletons.{Skeleton}
use Rattle.bridge_report.specs.declared.report.CallableId.{CallableId}

-- an input, as its edges tell of it
pub record CallableInput : Type 0 where
  -- `mark`; a receiver is `this`
  pub name : List ℕ
  -- what may be borrowed through it: a struct with 'a and 'b
  pub skeleton : Skeleton (Unit {0})
  -- whether it stands in an option
  pub optional : Bool
  -- whether it is a slice
  pub slice : Bool

-- an enabled method of a type, or an enabled function
pub record Callable : Type 0 where
  -- the type and the number of the method among those of the type
  pub id : CallableId
  -- where it is declared: `Page::open`
  pub place : ErrorContext
  -- whether the first input is a receiver
  pub receiver : Bool
  -- its lifetimes with their bounds: 'a and 'b
  pub environment : Environment
  -- the lifetimes that its return names, in order: 'b, and then 'a
  pub named : List (MaybeStatic ℕ)
  -- its inputs, in order
  pub inputs : List CallableInput
  -- all leaves of its inputs, at any depth: `mark.page`, which carries 'a and 'b
  pub leaves : List NamedLeaf
