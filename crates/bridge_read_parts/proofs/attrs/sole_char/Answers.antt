use Rattle.std.proofs.Common.{sym, ◌∙◌}
use Rattle.bridge_read_parts.proofs.CharLemmas.{one_char, two_chars}
use Rattle.bridge_read_parts.proofs.attrs.sole_char.Goals as goal

pub returns-in-Some : goal.returns-in-Some
returns-in-Some c = sym (two_chars c.args.written.now _ _ c.in_ok-first.first c.in-Some.field-0 c.utf8.written (sym c.chars-chars.ensures.rest ∙ c.in_ok-first.ensures.steps.0) c.in-Some.ensures.steps.0)

pub returns-in-None : goal.returns-in-None
returns-in-None c = sym (one_char c.args.written.now _ c.in_ok-first.first c.utf8.written (sym c.chars-chars.ensures.rest ∙ c.in_ok-first.ensures.steps.0) c.in-None.ensures.steps.0.0)
