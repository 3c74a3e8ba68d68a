use Rattle.std.proofs.Common.{◌∙◌, subst}
use Rattle.hir_borrowing_params.specs.Answering.{MapsRows, is_own_at}
use Rattle.hir_borrowing_params.proofs.Kinding.{no_row, some_row}
use Rattle.hir_borrowing_params.proofs.Linked.{linked_environment}
use Rattle.hir_borrowing_params.proofs.infos.StructBorrowInfo.compute_for_struct_field.Goals as goal

pub returns-then-is_empty : goal.returns-then-is_empty
returns-then-is_empty g c =
    let n = c.args.struc.now.lifetimes.count in
    let maps = subst (λ ls. MapsRows (is_own_at n) ls c.in_ok-sets.sets) (c.as_slice.ensures ∙ c.lifetimes-2.ensures) c.in_ok-sets.ensures in
    no_row n (g.P.StructPath.StructPathLike.lifetimes_of c.args.field.now) c.in_ok-sets.sets maps (c.is_empty.ensures.0 c.if-is_empty.true)

pub returns : goal.returns
returns g c =
    let n = c.args.struc.now.lifetimes.count in
    let maps = subst (λ ls. MapsRows (is_own_at n) ls c.in_ok-sets.sets) (c.as_slice.ensures ∙ c.lifetimes-2.ensures) c.in_ok-sets.ensures in (
      some_row n (g.P.StructPath.StructPathLike.lifetimes_of c.args.field.now) c.in_ok-sets.sets c.is_empty.result maps c.if-is_empty.false c.is_empty.ensures.1,
      c.link_lifetimes-link.result.environment,
      linked_environment c.args.tcx.now.definitions (g.P.StructPath.StructPathLike.id_of c.args.field.now) (g.P.StructPath.StructPathLike.lifetimes_of c.args.field.now) c.link_lifetimes-link.result c.link_lifetimes-link.ensures,
      record {
        environment = c.def_env.ensures;
        map = maps;
      },
    )
