use Rattle.std.proofs.Common.{◌≡◌, ◌∙◌, rules}
use Rattle.std.specs.Ordering.{nat_cmp}
use Rattle.std.specs.Cmp.Lexicographic.{slice_cmp}
use Rattle.std.proofs.lemmas.Fn.{always_returns_same}
use Rattle.hir_backends.specs.inside.Sorted.{texts_cmp}
use Rattle.hir_backends.proofs.KnownLemmas.{pair_found}
use Rattle.hir_backends.proofs.known.Pairs.has.Goals as goal

pub returns : goal.returns
returns c =
    let searched = c.binary_search_by.ensures in
    rw (← c.self.view_is)
    (c.is_ok.ensures.value
    ∙ pair_found c.args.name.now c.args.value.now c.self.inside.items c.self.inside.sorted.items c.binary_search_by.result c.self.invariant
    (rw (← c.deref.ensures.value) searched.bound)
    (rw (← c.deref.ensures.value) (searched.position (λ pair. texts_cmp pair (c.args.name.now, c.args.value.now)) (always_returns_same _ _ _ (λ a r f' k. (k.met.1, λ j. (k.met.0.0 j, k.met.0.1 j)))))))
