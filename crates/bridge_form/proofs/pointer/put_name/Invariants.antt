use Rattle.std.proofs.Common.{◌≡◌, ◌++◌, IsUtf8}
use Rattle.std.specs.Prelude.{string_bytes}
use Rattle.std.specs.Str.Iter.{chars_rest}
use Rattle.bridge_form.specs.PointerTexts.{escaped_text}
use Rattle.bridge_form.proofs.pointer.put_name.Given as goal

abbrev pub invariant-loop-c : goal.invariant-loop-c
invariant-loop-c l =
    IsUtf8 (chars_rest l.c-iterator)
    × (string_bytes l.text ++ escaped_text (chars_rest l.c-iterator) ≡ string_bytes l.fn.text ++ escaped_text l.fn.name)
