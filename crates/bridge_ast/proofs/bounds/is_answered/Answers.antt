use Rattle.bridge_ast.specs.Bounds.{answered}
use Rattle.bridge_ast.specs.declared.bounds.Side.TheVariants.{Longer, Shorter}
use Rattle.bridge_ast.proofs.AnsweredLemmas.{answered_on, both_of, neither_of}
use Rattle.bridge_ast.proofs.bounds.is_answered.Goals as goal

pub returns-then-are_answered : goal.returns-then-are_answered
returns-then-are_answered c = λ nodes bounds within.
    let lists = c.args.bounds.now in
    let node = c.args.node.now in
    both_of c.are_answered.result c.are_answered-then-are_answered.result (answered Longer nodes c.args.number node)
    (answered Shorter nodes c.args.number node)
    (answered_on Longer c.are_answered.result nodes lists.shorter c.list_at-shorter.result.now lists.count c.args.number
    c.as_slice.result.now node c.are_answered.ensures c.as_slice.ensures bounds.count within c.list_at-shorter.ensures
    bounds.shorter)
    (answered_on Shorter c.are_answered-then-are_answered.result nodes lists.longer c.list_at-longer.result.now lists.count
    c.args.number c.as_slice-then-are_answered.result.now node c.are_answered-then-are_answered.ensures
    c.as_slice-then-are_answered.ensures bounds.count within c.list_at-longer.ensures bounds.longer)
    c.if-are_answered.true

pub returns-else-are_answered : goal.returns-else-are_answered
returns-else-are_answered c = λ nodes bounds within.
    let lists = c.args.bounds.now in
    let node = c.args.node.now in
    neither_of c.are_answered.result (answered Longer nodes c.args.number node) (answered Shorter nodes c.args.number node)
    (answered_on Longer c.are_answered.result nodes lists.shorter c.list_at-shorter.result.now lists.count c.args.number
    c.as_slice.result.now node c.are_answered.ensures c.as_slice.ensures bounds.count within c.list_at-shorter.ensures
    bounds.shorter)
    c.if-are_answered.false
