use Rattle.std.proofs.Common.{◌≡◌, take, None}
use Rattle.bridge_form.specs.Form.{find_word}
use Rattle.bridge_words.specs.Tables.{all_written}
use Rattle.bridge_words.proofs.words.find_word.Given as goal

abbrev pub invariant-loop-word : goal.invariant-loop-word
invariant-loop-word g l = find_word (all_written (take l.word-index l.word-items)) l.name ≡ None
