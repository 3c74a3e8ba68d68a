use Rattle.std.proofs.Common.{Err, ap}
use Rattle.hir_heads.proofs.NameLemmas.{all_idents}
use Rattle.hir_heads.proofs.lifetimes.lower_lifetimes.Goals as goal

pub returns-in-Err-Bad-clause-made : goal.returns-in-Err-Bad-clause-made
returns-in-Err-Bad-clause-made c = λ none. absurd (c.in-Err-Bad.ensures.bad (ap Err c.in-Err-Bad.field-0-is) (all_idents c.args.env.now.nodes none))
