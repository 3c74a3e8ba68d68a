use Rattle.hir_number.proofs.NamingLemmas.{naming}
use Rattle.hir_number.proofs.names.paths_have_a_meaning.Goals as goal

pub returns : goal.returns
returns c =
    naming c.args.env.now c.args.number (λ path one other. c.names_as_in_the_reference.ensures.once c.args.number path one other)
    (λ path. c.names_as_in_the_reference.ensures.decided c.args.number path c.requires)
