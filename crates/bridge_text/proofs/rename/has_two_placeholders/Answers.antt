use Rattle.std.proofs.Common.{None, arith}
use Rattle.std.proofs.lemmas.Str.Pattern.{split_text_parts}
use Rattle.bridge_text.specs.Rename.{placeholder}
use Rattle.bridge_text.proofs.RenameLemmas.{count-none, cut_count}
use Rattle.bridge_text.proofs.rename.has_two_placeholders.Goals as goal

pub returns-in-Some : goal.returns-in-Some
returns-in-Some c =
    let count = cut_count c.args.pattern.now c.in-Some.field-0-0.now c.in-Some.rest.now c.in-Some.ensures.cases in
    let later = c.has_placeholder.ensures in
    (λ t. let some = later.0 t in omega arith, λ n. later.1 (omega arith))

pub returns-in-None : goal.returns-in-None
returns-in-None c =
    let none = count-none c.args.pattern.now (split_text_parts placeholder c.args.pattern.now None c.in-None.ensures.cases) in
    (λ t. absurd cc, λ n. absurd (omega arith))
