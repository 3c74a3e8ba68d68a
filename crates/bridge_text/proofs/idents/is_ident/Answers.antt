use Rattle.std.proofs.Common.{◌++◌, codes, ap, sym, ◌∙◌}
use Rattle.bridge_text.proofs.IdentLemmas.{stripped}
use Rattle.bridge_text.proofs.idents.is_ident.Goals as goal

pub returns-in-Some : goal.returns-in-Some
returns-in-Some c =
    let cut = c.in-Some.ensures.cases in
    let whole = cut.1.1 ∙ ap (λ rest. codes "r#" ++ rest) (sym cut.2) in
    stripped c.args.s.now c.in-Some.name.now c.may_be_raw.result whole c.may_be_raw.ensures
