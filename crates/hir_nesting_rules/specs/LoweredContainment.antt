-- Which structs contain which among lowered definitions.
use Rattle.std.specs.Prelude.{ℕ, List}
use Rattle.hir_ids.specs.declared.ids.TypeId.TheVariants as type
use Rattle.hir_nesting.specs.Structs.{containment, each_contained}
use Rattle.hir_types.specs.Paths.{returnable_id}
use Rattle.hir_usage_notes.specs.declared.definitions.LoweredDefinitions.{LoweredDefinitions}

-- the graph of all structs, out-structs before the others
abbrev pub lowered_containment : LoweredDefinitions → List (List ℕ)
lowered_containment d = containment (each_contained returnable_id d.out_structs.items) (each_contained (λ path. type.Struct path.tcx_id) d.structs.items)
