use Rattle.std.proofs.Common.{◌+◌, ◌*◌, drop, ◌∙◌, arith}
use Rattle.bridge_tool.proofs.DigitLemmas.{at_least, digit_more}
use Rattle.bridge_tool.proofs.command.digits_in.Goals as goal

pub returns-then-number : goal.returns-then-number
returns-then-number c =
    let word = c.args.word.now in
    let n = c.loop-byte.number in
    let least = at_least (n * 10 + c.from.result) (drop (c.loop-byte.byte-index + 1) word) in
    let all = digit_more n word c.loop-byte.byte-index c.from.result c.loop-byte-test.true (c.from.ensures ∙ c.saturating_sub.ensures) ∙ c.loop-byte.invariant.1 in
    omega (arith, c.if-number.true, least, all)
