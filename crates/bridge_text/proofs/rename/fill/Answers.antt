use Rattle.std.proofs.Common.{None, sym, subst}
use Rattle.std.proofs.lemmas.Result.{IfOk-weaker}
use Rattle.std.proofs.lemmas.Str.Pattern.{split_text_parts}
use Rattle.bridge_text.specs.Rename.{placeholder, IsFilled}
use Rattle.bridge_text.proofs.RenameLemmas.{cut_whole, filled, unfilled}
use Rattle.bridge_text.proofs.rename.fill.Goals as goal

pub returns-in-Some : goal.returns-in-Some
returns-in-Some c =
    let pattern = c.args.pattern.now in
    let name = c.args.name.now in
    let whole = cut_whole pattern c.in-Some.front.now c.in-Some.back.now c.in-Some.ensures.cases in
    let right = filled pattern name c.in-Some.front.now c.in-Some.back.now whole c.requires in
    IfOk-weaker c.joined.result _ (IsFilled pattern name) (λ text e. subst (IsFilled pattern name) (sym e) right) c.joined.ensures

pub returns-in-None : goal.returns-in-None
returns-in-None c =
    let pattern = c.args.pattern.now in
    let name = c.args.name.now in
    let right = unfilled pattern name (split_text_parts placeholder pattern None c.in-None.ensures.cases) in
    IfOk-weaker c.new.result _ (IsFilled pattern name) (λ text e. subst (IsFilled pattern name) (sym e) right) c.new.ensures
