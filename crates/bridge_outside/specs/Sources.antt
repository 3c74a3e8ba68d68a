-- What the three sources show.
use Rattle.std.specs.Prelude.{ℕ, List, Some, None, drop}
use Rattle.bridge_outside.specs.Outside.{SourceState}
use Rattle.bridge_outside.specs.declared.source.MemSource.{MemSource}
use Rattle.bridge_outside.specs.declared.source.PlainSource.{PlainSource}
use Rattle.bridge_outside.specs.declared.source.StdSource.{StdSource}

-- the bytes left
abbrev pub bytes_left : MemSource → List ℕ
bytes_left it = drop it.at it.bytes.items

-- how many bytes a read gives at most
abbrev pub read_piece : MemSource → ℕ
read_piece it = it.piece

-- the numbers of the reads that fail
abbrev pub failing_reads : MemSource → List ℕ
failing_reads it = it.fail.items

-- the number of the next read
abbrev pub next_read : MemSource → ℕ
next_read it = it.call

-- how often a read failed
abbrev pub read_failures : MemSource → ℕ
read_failures it = it.faults

-- what it shows
abbrev pub mem_source : MemSource → SourceState
mem_source it = record { left = Some (bytes_left it); faults = read_failures it; calls = next_read it }

-- the bytes left in a source that never fails
abbrev pub plain_left : PlainSource → List ℕ
plain_left it = it.rest.now

-- how often it was read
abbrev pub plain_reads : PlainSource → ℕ
plain_reads it = it.calls

-- what it shows
abbrev pub plain_source : PlainSource → SourceState
plain_source it = record { left = Some (plain_left it); faults = 0; calls = plain_reads it }

-- what one of std's readers is read through
abbrev pub std_reader : {R : Type 0} → StdSource R → R
std_reader it = it.reader

-- how often it failed
abbrev pub std_read_failures : {R : Type 0} → StdSource R → ℕ
std_read_failures it = it.failures

-- how often it was read
abbrev pub std_reads : {R : Type 0} → StdSource R → ℕ
std_reads it = it.calls

-- what it shows: it tells no bytes
abbrev pub std_source : {R : Type 0} → StdSource R → SourceState
std_source it = record { left = None; faults = std_read_failures it; calls = std_reads it }
