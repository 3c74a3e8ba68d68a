use Rattle.std.proofs.Common.{◌+◌, drop, map, subst}
use Rattle.hir_number.specs.inside.Threads.{each_run, type_run}
use Rattle.hir_number.proofs.RunLemmas.{SoFar, goes_on, next_of}
use Rattle.hir_number.proofs.TypeLemmas.{result_comes, slice_comes}
use Rattle.hir_number.proofs.types.+types.Goals as goal

pub number_each-loop-ty-preserved : goal.number_each-loop-ty-preserved
number_each-loop-ty-preserved g t c = λ names s is stands.
    let number = type_run g.L.LowerLifetime.phase names in
    let was = g.L.StandsFor.stands c.loop-ty.lowerer in
    let whole = each_run g.L.LowerLifetime.phase names c.args.types.now s in
    rw c.in_ok-push.ensures.ok
    (goes_on was (g.L.StandsFor.stands c.number_type.new.lowerer) whole c.loop-ty.numbered (number c.ty-item.result) (map number (drop (c.loop-ty.ty-index + 1) c.as_slice-ty-items.result.now)) c.in_ok-number_type.field-0
    (subst (SoFar was whole c.loop-ty.numbered) (next_of number c.as_slice-ty-items.result.now c.loop-ty.ty-index c.ty-item.result c.loop-ty-test.true c.ty-item.is) (c.loop-ty.invariant names s is stands))
    (λ t' at. c.in_ok-number_type.ensures names t' is at))

pub number_type-returns-in_ok-err-in-Result : goal.number_type-returns-in_ok-err-in-Result
number_type-returns-in_ok-err-in-Result g t c = λ names s is stands.
    result_comes g.L.LowerLifetime.phase names s (g.L.StandsFor.stands c.number_boxed-in-Result.new.lowerer) (g.L.StandsFor.stands c.number_boxed-in-Result-2.new.lowerer)
    c.args.ty.now c.in-Result.ok c.in-Result.err c.in-Result.spelling c.in_ok-ok-in-Result.ok c.in_ok-err-in-Result.err c.in-Result.is
    (c.in_ok-ok-in-Result.ensures names s is stands) (λ u at. c.in_ok-err-in-Result.ensures names u is at)

pub number_type-returns-in_ok-element-in-CustomTypeSlice : goal.number_type-returns-in_ok-element-in-CustomTypeSlice
number_type-returns-in_ok-element-in-CustomTypeSlice g t c = λ names s is stands.
    slice_comes g.L.LowerLifetime.phase names s (g.L.StandsFor.stands c.number_borrow-in-CustomTypeSlice.new.lowerer) (g.L.StandsFor.stands c.number_boxed-in-CustomTypeSlice.new.lowerer)
    c.args.ty.now c.in-CustomTypeSlice.element c.in-CustomTypeSlice.borrow c.in-CustomTypeSlice.spelling c.in_ok-borrow-in-CustomTypeSlice.borrow c.in_ok-element-in-CustomTypeSlice.element c.in-CustomTypeSlice.is
    (c.in_ok-borrow-in-CustomTypeSlice.ensures s stands) (λ u at. c.in_ok-element-in-CustomTypeSlice.ensures names u is at)
