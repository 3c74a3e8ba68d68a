-- Lifetimes as one flag for each.
use Rattle.std.specs.Prelude.{◌≡◌, ℕ, List, Bool, false, ◌<◌, ◌↔◌, length, slice_index_or, IsTrue}
use Rattle.hir_life.specs.Outlives.{Outlives}
use Rattle.hir_life.specs.Environment.{Environment, longer_of}

-- there is a flag for each lifetime, which is set exactly where it outlives s: for `fn f<'a, 'b: 'a>(x: &u8)` and a the
-- flags are true, true, false
pub record FlagsOutliving (e : Environment) (s : ℕ) (flags : List Bool) : Type 0 where
  pub each : length flags ≡ e.count
  pub outlives : (k : ℕ) → k < e.count → (IsTrue (slice_index_or flags k false) ↔ Outlives (longer_of e) k s)
