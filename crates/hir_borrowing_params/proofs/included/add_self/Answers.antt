use Rattle.hir_ids.specs.declared.ids.TypeId.TheVariants as type
use Rattle.hir_skeleton.specs.Skeletons.{Struct}
use Rattle.hir_borrowing_params.proofs.SliceNesting.{context_nests}
use Rattle.hir_borrowing_params.proofs.included.add_self.Goals as goal

pub add_slices-requires-clause-nests : goal.add_slices-requires-clause-nests
add_slices-requires-clause-nests c = context_nests c.args.tcx.now (Struct (type.Struct c.in-Some.path.now.tcx_id) c.in-Some.path.now.lifetimes)
