use Rattle.std.proofs.lemmas.Str.Pattern.{contains_text}
use Rattle.bridge_text.specs.Rename.{placeholder}
use Rattle.bridge_text.proofs.RenameLemmas.{count-positive}
use Rattle.bridge_text.proofs.rename.has_placeholder.Goals as goal

pub returns : goal.returns
returns c =
    let found = contains_text c.contains.result placeholder c.args.pattern.now c.contains.ensures.cases in
    let some = count-positive c.args.pattern.now in
    (λ t. some.1 (found.0 t), λ n. found.1 (some.0 n))
