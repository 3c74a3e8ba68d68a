use Rattle.std.proofs.Common.{arith}
use Rattle.hir_links.proofs.Pairing.{get-pairs_from, length-pairs_from}
use Rattle.hir_links.proofs.laws.links_agree_with_pairs.Goals as goal

pub returns-clause-arity : goal.returns-clause-arity
returns-clause-arity c = λ link. length-pairs_from 0 link.uses

pub returns-clause-pair : goal.returns-clause-pair
returns-clause-pair c = λ link d l found. get-pairs_from 0 d d link.uses l (omega arith) found
