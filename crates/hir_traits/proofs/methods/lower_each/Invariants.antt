use Rattle.bridge_decl.specs.declared.traits.TraitMethod.{TraitMethod}
use Rattle.hir_attrs.specs.Reading.{marks_of}
use Rattle.hir_modules.specs.Holding.{HoldsStill}
use Rattle.hir_number.specs.Naming.{IsNaming, Naming}
use Rattle.hir_reports.specs.Store.{Held}
use Rattle.hir_traits.proofs.WalkLemmas.{Walked}
use Rattle.hir_traits.specs.TraitMethods.{trait_method_errors, trait_method_form}
use Rattle.hir_traits.proofs.methods.lower_each.Given as goal

abbrev pub invariant-loop-method : goal.invariant-loop-method
invariant-loop-method g l =
    let backend = g.V.AttributeValidator.meaning l.lowering.validator.now in
    record {
      walked : (names : Naming) → IsNaming l.lowering.env.now l.place.«module» names
          → Walked (trait_method_errors backend l.lowering.support.now l.lowering.config l.lowering.catalog.now names l.place l.parent)
          (λ (m : TraitMethod). marks_of backend m.attrs l.parent) (trait_method_form backend l.lowering.catalog.now names l.place l.parent) l.methods l.method-index
          l.fn.errors l.errors l.made;
      kept : (earlier : Held) → HoldsStill earlier l.fn.errors → HoldsStill earlier l.errors;
    }
