-- What the three sinks show.
use Rattle.std.specs.Prelude.{ℕ, List, Some, None}
use Rattle.bridge_outside.specs.Outside.{SinkState}
use Rattle.bridge_outside.specs.declared.sink.MemSink.{MemSink}
use Rattle.bridge_outside.specs.declared.sink.PlainSink.{PlainSink}
use Rattle.bridge_outside.specs.declared.sink.StdSink.{StdSink}

-- the bytes taken
abbrev pub bytes_taken : MemSink → List ℕ
bytes_taken it = it.bytes.items

-- how many bytes a write takes at most
abbrev pub write_piece : MemSink → ℕ
write_piece it = it.piece

-- the numbers of the writes that fail
abbrev pub failing_writes : MemSink → List ℕ
failing_writes it = it.fail.items

-- the number of the next write
abbrev pub next_write : MemSink → ℕ
next_write it = it.call

-- how often a write failed
abbrev pub write_failures : MemSink → ℕ
write_failures it = it.faults

-- what it shows
abbrev pub mem_sink : MemSink → SinkState
mem_sink it = record { taken = Some (bytes_taken it); faults = write_failures it }

-- the bytes that a sink which never fails has taken
abbrev pub plain_taken : PlainSink → List ℕ
plain_taken it = it.bytes.items

-- what it shows
abbrev pub plain_sink : PlainSink → SinkState
plain_sink it = record { taken = Some (plain_taken it); faults = 0 }

-- what is written to through one of std's writers
abbrev pub std_writer : {W : Type 0} → StdSink W → W
std_writer it = it.writer

-- how often it failed
abbrev pub std_write_failures : {W : Type 0} → StdSink W → ℕ
std_write_failures it = it.failures

-- what it shows: it tells no bytes
abbrev pub std_sink : {W : Type 0} → StdSink W → SinkState
std_sink it = record { taken = None; faults = std_write_failures it }
