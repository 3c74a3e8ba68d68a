-- The summary of callables: how many they are, and how many leaves are listed in all: of each callable, under each lifetime that its return
-- names, those that carry the lifetime or one that outlives it. For the callable of `Callables`, under whose two lifetimes `mark.page` is
-- listed, it is
--     callables 1
--     listed 2
--     ok
use Rattle.std.specs.Prelude.{◌≡◌, ℕ, Bool, ◌^◌, ◌-◌, List, ◌++◌, Result, codes, decimal, length, min}
use Rattle.std.specs.List.{AllZip, sum}
use Rattle.hir_life.specs.Environment.{longer_of}
use Rattle.hir_skeleton.specs.Leaves.{TellsLonger}
use Rattle.bridge_outside.specs.Outside.{SinkState}
use Rattle.bridge_outside.specs.Printing.{Delivers}
use Rattle.bridge_outside.specs.declared.sink.SinkFault.{SinkFault}
use Rattle.bridge_report.specs.Borrowings.{AreReturnedNumbers, listed_leaves}
use Rattle.bridge_report.specs.Callables.{Callable}

-- so many leaves are listed under t
pub record AreListedUnder (c : Callable) (t count : ℕ) : Type 0 where
  -- which lifetimes outlive t
  pub test : ℕ → Bool
  pub tells : TellsLonger (longer_of c.environment) t test
  pub is : count ≡ length (listed_leaves c test)

-- so many under all lifetimes that the return names
pub record AreListedOf (c : Callable) (count : ℕ) : Type 0 where
  pub numbers : List ℕ
  pub are : AreReturnedNumbers c numbers
  pub counts : List ℕ
  pub each : AllZip (AreListedUnder c) numbers counts
  pub is : count ≡ sum counts

-- so many of all callables
pub record AreListed (callables : List Callable) (count : ℕ) : Type 0 where
  pub counts : List ℕ
  pub each : AllZip AreListedOf callables counts
  pub is : count ≡ sum counts

-- no more are told
abbrev pub most_listed : ℕ
most_listed = 2 ^ 64 - 1

abbrev pub summary_text : ℕ → ℕ → List ℕ
summary_text callables listed = codes "callables " ++ decimal callables ++ codes "\nlisted " ++ decimal listed ++ codes "\nok\n"

-- the summary of these callables was written, whole or up to a fault
pub record DeliversSummary (callables : List Callable) (old new : SinkState) (result : Result (Unit {0}) SinkFault) : Type 0 where
  pub count : ℕ
  pub listed : AreListed callables count
  pub delivered : Delivers old new (summary_text (length callables) (min most_listed count)) result
