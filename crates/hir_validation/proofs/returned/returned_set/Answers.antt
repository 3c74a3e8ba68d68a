use Rattle.hir_validation.proofs.SetLemmas.{ok_so, set_tests}
use Rattle.hir_types.specs.Named.{lifetimes_named}
use Rattle.hir_validation.proofs.returned.returned_set.Goals as goal

pub returns : goal.returns
returns c = ok_so c.used_method_lifetimes.result (λ set lists. set_tests set (lifetimes_named c.args.output.now) lists) c.used_method_lifetimes.ensures
