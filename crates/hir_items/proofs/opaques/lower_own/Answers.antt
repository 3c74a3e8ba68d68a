use Rattle.std.proofs.Common.{ℕ, List, ◌++◌, Some, ◌∙◌}
use Rattle.hir_heads.specs.Heads.{lifetime_errors}
use Rattle.hir_heads.specs.Names.{name_errors}
use Rattle.hir_methods.proofs.MadeLemmas.{both_made}
use Rattle.hir_number.proofs.ElisionLemmas.{none_of}
use Rattle.hir_items.specs.Opaques.{limit_errors}
use Rattle.hir_items.specs.Placing.{where_enabled}
use Rattle.hir_items.specs.declared.heads.Title.{Title}
use Rattle.hir_items.specs.declared.opaques.OpaqueOwn.{OpaqueOwn}
use Rattle.hir_items.specs.inside.Titles.{title_form}
use Rattle.hir_items.proofs.opaques.lower_own.Goals as goal

pub returns-clause-made : goal.returns-clause-made
returns-clause-made c = λ none.
    let own : Title → List ℕ → OpaqueOwn = λ title dtor. record { title = title; dtor_abi_name = dtor } in
    let item = c.args.item.now in
    let title_errors = name_errors item.name ++ lifetime_errors item.lifetimes in
    let front = (none_of (title_errors ++ name_errors item.dtor_abi_name) (where_enabled c.args.marks.now (limit_errors item.lifetimes)) none).0 in
    c.opaque_own.ensures
    ∙ both_made own (title_form item.name item.lifetimes) (Some item.dtor_abi_name) c.in_ok-title.title c.in_ok-dtor_abi_name.dtor_abi_name title_errors (name_errors item.dtor_abi_name)
    c.in_ok-title.ensures.made c.in_ok-dtor_abi_name.ensures.made front
