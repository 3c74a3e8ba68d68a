-- What a whole reading of a source answers.
use Rattle.std.specs.Prelude.{◌≡◌, ◌≤◌, ◌<◌, ◌^◌, ⊤, ℕ, List, length, IfSome, Result, Ok, Err}
use Rattle.bridge_outside.specs.Outside.{Rose, SourceState}
use Rattle.bridge_outside.specs.declared.bytes.ReadFault.{ReadFault}
use Rattle.bridge_outside.specs.declared.bytes.ReadFault.TheVariants.{Failed, TooLong, NoMemory}

-- what a fault says of the source before and after
abbrev pub HasReadCause : ReadFault → SourceState → SourceState → Type 0
HasReadCause Failed old new = Rose old.faults new.faults
HasReadCause TooLong old new = (new.faults ≡ old.faults) × IfSome old.left (λ bytes. 2 ^ 26 < length bytes)
HasReadCause NoMemory old new = new.faults ≡ old.faults

-- the answer where the source told what it had left, all of this, and no read failed
abbrev pub IsReadAnswer : {T : Type 0} → List ℕ → Result T ReadFault → Type 0
IsReadAnswer all (Ok bytes) = length all ≤ 2 ^ 26
IsReadAnswer all (Err TooLong) = 2 ^ 26 < length all
IsReadAnswer all (Err NoMemory) = ⊤
IsReadAnswer all (Err Failed) = ⊥
