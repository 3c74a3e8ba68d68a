-- What printing a page leaves.
use Rattle.std.specs.Prelude.{List, ℕ, Result}
use Rattle.bridge_outside.specs.Outside.{SinkState}
use Rattle.bridge_outside.specs.Printing.{Delivers}
use Rattle.bridge_outside.specs.declared.sink.SinkFault.{SinkFault}
use Rattle.bridge_report.specs.Callables.{Callable}
use Rattle.bridge_report.specs.Page.{IsPage}

-- the page of these callables was written, whole or up to a fault
pub record DeliversPage (callables : List Callable) (old new : SinkState) (result : Result (Unit {0}) SinkFault) : Type 0 where
  pub text : List ℕ
  pub page : IsPage callables text
  pub delivered : Delivers old new text result
