use Rattle.std.proofs.Common.{◌≡◌, ℕ, ap, sym, ◌∙◌, subst, List}
use Rattle.bridge_order.specs.declared.catalog.Entry.{Entry}
use Rattle.bridge_places.specs.declared.numbering.ItemOrder.{ItemOrder}
use Rattle.bridge_places.specs.declared.places.KindPlaces.{KindPlaces}
use Rattle.bridge_decl.specs.declared.modules.Module.{Module}
use Rattle.bridge_places.specs.Entries.{IsCatalog}
use Rattle.bridge_order.specs.Order.{module_order}
use Rattle.bridge_places.specs.Places.{of_kind}
use Rattle.bridge_places.specs.inside.Numbering.{no_places, with_modules}
use Rattle.bridge_places.proofs.CatalogLemmas.{is_catalog}
use Rattle.bridge_places.proofs.NumberLemmas.{are_places, begun}
use Rattle.bridge_places.proofs.numbering.ItemOrder.of.Goals as goal

-- what is found is what comes of the modules in their order
found_is : (modules : List Module) (slots : List (List Entry)) (places : KindPlaces) (order : List ℕ) (found : ItemOrder)
    → found ≡ with_modules modules order (record { catalog = record { modules = slots }; places = places }) → order ≡ module_order modules
    → places ≡ no_places → found ≡ with_modules modules (module_order modules) (begun slots)
found_is modules slots places order found e ordered none =
    let start : KindPlaces → ItemOrder = λ p. record { catalog = record { modules = slots }; places = p } in
    e ∙ ap (λ o. with_modules modules o (start places)) ordered ∙ ap (λ p. with_modules modules (module_order modules) (start p)) none

pub returns-clause-catalog : goal.returns-clause-catalog
returns-clause-catalog c =
    let modules : List Module = c.args.modules.now in
    let slots : List (List Entry) = c.in_ok-unknown.field-0 in
    let is = found_is modules slots c.new.result c.deref.result.now c.add_modules.new.found c.in_ok-add_modules.ensures
    (c.deref.ensures.value ∙ c.in_ok-order.ensures) c.new.ensures in
    subst (λ found. IsCatalog modules found.catalog) (sym is) (is_catalog modules slots c.in_ok-unknown.ensures.length c.in_ok-unknown.ensures.empty)

pub returns-clause-places : goal.returns-clause-places
returns-clause-places c = λ k.
    let modules : List Module = c.args.modules.now in
    let slots : List (List Entry) = c.in_ok-unknown.field-0 in
    let is = found_is modules slots c.new.result c.deref.result.now c.add_modules.new.found c.in_ok-add_modules.ensures
    (c.deref.ensures.value ∙ c.in_ok-order.ensures) c.new.ensures in
    ap (λ found. of_kind k found.places) is ∙ are_places modules slots k
