use Rattle.bridge_text.proofs.TableLemmas.{found_in_table}
use Rattle.bridge_text.proofs.idents.has_word.Goals as goal

pub returns : goal.returns
returns c =
    let found = found_in_table c.args.table.now c.args.s.now c.binary_search.result c.requires c.binary_search.ensures.bound
    c.binary_search.ensures.position in
    rw c.is_ok.ensures.value found
