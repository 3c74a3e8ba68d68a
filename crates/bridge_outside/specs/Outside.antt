-- What a source has left, what a sink has taken, and how often each has failed.
use Rattle.std.specs.Prelude.{◌≡◌, ◌<◌, ◌≤◌, ◌+◌, ◌^◌, ◌↔◌, ℕ, List, [], ◌++◌, length, take, drop, Option, Some, None, Result, IfOk, OnOk, OnErr, IfSome, IsErrOf}
use Rattle.bridge_outside.specs.declared.sink.SinkFault.{SinkFault}
use Rattle.bridge_outside.specs.declared.sink.SinkFault.TheVariants.{Failed, NoMemory}

-- What a source shows: the bytes that it has left, where it tells them, how often a read of it failed, and how often it was read.
pub record SourceState : Type 0 where
  pub left : Option (List ℕ)
  pub faults : ℕ
  pub calls : ℕ

-- What a sink shows: the bytes that it has taken, where it tells them, and how often a write to it failed.
pub record SinkState : Type 0 where
  pub taken : Option (List ℕ)
  pub faults : ℕ

-- a count of faults rose, or stands at the last value of its type
abbrev pub Rose : ℕ → ℕ → Type 0
Rose old new = old + 1 < 2 ^ 64 → old < new

-- the bytes left once the first n are gone, where they are told
abbrev pub left_after : ℕ → Option (List ℕ) → Option (List ℕ)
left_after n None = None
left_after n (Some bytes) = Some (drop n bytes)

-- the bytes taken once some more are taken, where they are told
abbrev pub taken_with : Option (List ℕ) → List ℕ → Option (List ℕ)
taken_with None more = None
taken_with (Some bytes) more = Some (bytes ++ more)

-- What one read does to a source and to the buffer, by its answer.
pub record Reads {E : Type 0} (old new : SourceState) (buf buf' : List ℕ) (result : Result ℕ E) : Type 0 where
  -- also where nothing is told
  pub bound : IfOk result (λ n. n ≤ length buf)
  -- the bytes read are gone from those left
  pub gone : IfOk result (λ n. new.left ≡ left_after n old.left)
  pub enough : IfOk result (λ n. IfSome old.left (λ bytes. n ≤ length bytes))
  -- the first bytes left stand at the front of the buffer, and the rest of the buffer is as it was
  pub given : IfOk result (λ n. IfSome old.left (λ bytes. buf' ≡ take n bytes ++ drop n buf))
  -- nothing is read into a buffer with room exactly where nothing is left
  pub at_end : IfOk result (λ n. 0 < length buf → IfSome old.left (λ bytes. (n ≡ 0) ↔ (bytes ≡ [])))
  pub steady : OnOk result (new.faults ≡ old.faults)
  pub failed : OnErr result (Rose old.faults new.faults)
  pub kept : OnErr result (new.left ≡ old.left)
  pub never_falls : old.faults ≤ new.faults
  pub one_call : new.calls ≤ old.calls + 1

-- What one write of a piece does to a sink, by its answer.
pub record Writes (old new : SinkState) (piece : List ℕ) (result : Result ℕ SinkFault) : Type 0 where
  -- also where nothing is told
  pub bound : IfOk result (λ n. n ≤ length piece)
  pub some : IfOk result (λ n. 0 < length piece → 0 < n)
  pub took : IfOk result (λ n. new.taken ≡ taken_with old.taken (take n piece))
  pub steady : OnOk result (new.faults ≡ old.faults)
  pub failed : IsErrOf result Failed → Rose old.faults new.faults
  pub no_memory : IsErrOf result NoMemory → new.faults ≡ old.faults
  pub kept : OnErr result (new.taken ≡ old.taken)
  pub never_falls : old.faults ≤ new.faults
