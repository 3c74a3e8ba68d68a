use Rattle.std.proofs.Common.{◌++◌, map}
use Rattle.bridge_grid.specs.Items.{trait_faults}
use Rattle.bridge_grid.specs.Telling.{fault_error}
use Rattle.hir_attrs.specs.Reading.{marks_of}
use Rattle.hir_heads.specs.Heads.{notes_errors}
use Rattle.hir_items.specs.Opaques.{limit_errors}
use Rattle.hir_mark_contexts.specs.declared.contexts.MarkContext.TheVariants as marked
use Rattle.hir_methods.specs.Untyped.{unless_disabled}
use Rattle.hir_number.proofs.ElisionLemmas.{none_of}
use Rattle.hir_traits.specs.Traits.{trait_name_errors}
use Rattle.hir_traits.proofs.own.lower_own.Goals as goal

pub returns-clause-made : goal.returns-clause-made
returns-clause-made g c = λ none.
    let backend = g.V.AttributeValidator.meaning c.args.lowering.now.validator.now in
    let item = c.args.item.now in
    let notes = notes_errors backend marked.Trait c.args.start item.docs item.attrs in
    let threads = map fault_error (trait_faults c.args.lowering.now.support.now item.is_send item.is_sync) in
    let limit = unless_disabled (marks_of backend item.attrs c.args.start) (limit_errors item.lifetimes) in
    let first = (none_of (notes ++ trait_name_errors item ++ threads) limit none).0 in
    c.in_ok-names.ensures.made (none_of notes (trait_name_errors item) (none_of (notes ++ trait_name_errors item) threads first).0).1
