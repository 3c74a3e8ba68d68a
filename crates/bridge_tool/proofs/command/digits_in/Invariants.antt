use Rattle.std.proofs.Common.{◌≡◌, ◌<◌, ◌^◌, drop}
use Rattle.bridge_tool.specs.Commands.{digits_after}
use Rattle.bridge_tool.proofs.command.digits_in.Given as goal

abbrev pub invariant-loop-byte : goal.invariant-loop-byte
invariant-loop-byte l = (l.number < 2 ^ 32) × (digits_after l.number (drop l.byte-index l.word) ≡ digits_after 0 l.word)
