use Rattle.std.proofs.Common.{ℕ, List, Some, subst, ◌∙◌}
use Rattle.bridge_decl.specs.declared.enums.Variant.{Variant}
use Rattle.hir_definitions.specs.declared.definitions.EnumVariant.{EnumVariant}
use Rattle.hir_fields.specs.Variants.{variants_errors, variants_form}
use Rattle.hir_heads.specs.Names.{name_errors}
use Rattle.hir_heads.specs.Told.{MadeUnlessTold}
use Rattle.hir_methods.proofs.MadeLemmas.{both_made}
use Rattle.hir_items.specs.declared.enums.EnumOwn.{EnumOwn}
use Rattle.hir_items.proofs.enums.lower_own.Goals as goal

pub returns-clause-made : goal.returns-clause-made
returns-clause-made g c = λ none.
    let own : List ℕ → List EnumVariant → EnumOwn = λ name variants. record { name = name; variants = variants } in
    let backend = g.V.AttributeValidator.meaning c.args.lent.now.validator.now in
    let item = c.args.item.now in
    let marks = c.args.marks.now in
    c.enum_own.ensures
    ∙ both_made own item.name (Some (variants_form backend marks item.variants)) c.in_ok-name.name c.in_ok-variants.variants (name_errors item.name) (variants_errors backend marks item.variants)
    c.in_ok-name.ensures.made
    (subst (λ (vs : List Variant). MadeUnlessTold (variants_errors backend marks vs) (variants_form backend marks vs) c.in_ok-variants.variants) c.as_slice-variants.ensures c.in_ok-variants.ensures.made)
    none
