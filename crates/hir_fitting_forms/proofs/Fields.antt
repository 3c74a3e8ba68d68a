-- What the fields of a struct stand for fits, in an environment of the struct's lifetimes.
use Rattle.std.proofs.Common.{◌≡◌, ℕ, List, [], ◌∷◌, length, Option, Result, Ok, Err, refl}
use Rattle.std.specs.Prelude.{IfSome, option_map}
use Rattle.std.specs.List.{All, flat_map}
use Rattle.bridge_decl.specs.declared.structs.Field.{Field}
use Rattle.bridge_decl.specs.declared.structs.Struct.{Struct}
use Rattle.bridge_order.specs.declared.catalog.Catalog.{Catalog}
use Rattle.hir_backends.specs.Backend.{Backend}
use Rattle.hir_elide.proofs.BelowLemmas.{Each}
use Rattle.hir_fields.specs.Fields.{fields_with}
use Rattle.hir_fields.specs.Types.{field_types_form, numbered_form}
use Rattle.hir_fitting.specs.declared.census.Census.{Census}
use Rattle.hir_mentions.specs.Definitions.{fields_mentions}
use Rattle.hir_mentions.specs.Mentions.{Mentioned}
use Rattle.hir_number.proofs.FaultLemmas.{each_both}
use Rattle.hir_number.specs.Naming.{Naming}
use Rattle.hir_number.specs.Numbers.{signature_numbers}
use Rattle.hir_number.specs.Shapes.{NumberLists}
use Rattle.hir_number.specs.Signatures.{field_uses}
use Rattle.hir_number.specs.declared.fault.NumberFault.{NumberFault}
use Rattle.hir_number.specs.declared.numbered.NumberedType.{NumberedType}
use Rattle.hir_stages.specs.Numbering.{filled_fields}
use Rattle.hir_types.specs.declared.types.HirType.{HirType}
use Rattle.hir_fitting_forms.specs.Names.{names_in_type, names_in_types}
use Rattle.hir_fitting_forms.specs.Naming.{NamesFit}
use Rattle.hir_fitting_forms.specs.NumberedFits.{NameFits, TypesFit}
use Rattle.hir_fitting_forms.proofs.Declaring.{fields_numbered}
use Rattle.hir_fitting_forms.proofs.Formed.{Fitting}
use Rattle.hir_fitting_forms.proofs.Lists.{all_made, each_back, each_from_all, each_front, if_made}
use Rattle.hir_fitting_forms.proofs.Settled.{settled}
use Rattle.hir_fitting_forms.proofs.Shaped.{AllKnown, Known}

module _ (census : Census) (catalog : Catalog) (names : Naming) (fit : NamesFit census catalog names) (P C O I S T : Type 0) (form : NumberedType → Option (HirType P C O I S T))
    (of_type : HirType P C O I S T → List Mentioned) (count : ℕ) (made : (ty : NumberedType) → AllKnown census count catalog ty → IfSome (form ty) (λ t. Each (Fitting census count) (of_type t)))
  where
    -- each field with its type, as far as there are both
    with_types : (backend : Backend) (fields : List Field) (types : List (HirType P C O I S T)) → Each (Fitting census count) (flat_map of_type types)
        → Each (Fitting census count) (fields_mentions of_type (fields_with backend fields types))
    with_types backend [] types h = tt
    with_types backend (f ∷ fields) [] h = tt
    with_types backend (f ∷ fields) (t ∷ types) h =
        each_both (Fitting census count) (of_type t) (fields_mentions of_type (fields_with backend fields types)) (each_front (Fitting census count) (of_type t) (flat_map of_type types) h)
        (with_types backend fields types (each_back (Fitting census count) (of_type t) (flat_map of_type types) h))

    numbered_made : (item : Struct) (r : Result NumberLists NumberFault) → ((nss : NumberLists) → r ≡ Ok nss → TypesFit census catalog count (filled_fields names item nss))
        → IfSome (numbered_form form names item r) (λ ts. Each (Fitting census count) (flat_map of_type ts))
    numbered_made item (Ok nss) h =
        all_made (Known census count catalog) (Fitting census count) names_in_type form of_type made (filled_fields names item nss)
        (each_from_all (NameFits census catalog count) (names_in_types (filled_fields names item nss)) (h nss refl))
    numbered_made item (Err fault) h = tt

    fields_made : (backend : Backend) (item : Struct) → ((nss : NumberLists) → signature_numbers item.lifetimes (field_uses names item.fields) ≡ Ok nss → TypesFit census catalog count (filled_fields names item nss))
        → IfSome (option_map (fields_with backend item.fields) (field_types_form form names item)) (λ fields. All (Fitting census count) (fields_mentions of_type fields))
    fields_made backend item h =
        settled census count (fields_mentions of_type) (option_map (fields_with backend item.fields) (field_types_form form names item))
        (if_made (λ ts. Each (Fitting census count) (flat_map of_type ts)) (λ fields. Each (Fitting census count) (fields_mentions of_type fields)) (fields_with backend item.fields) (with_types backend item.fields)
        (field_types_form form names item) (numbered_made item (signature_numbers item.lifetimes (field_uses names item.fields)) h))

pub fields_form_fits : (census : Census) (catalog : Catalog) (names : Naming) → NamesFit census catalog names → {P C O I S T : Type 0} (form : NumberedType → Option (HirType P C O I S T)) (of_type : HirType P C O I S T → List Mentioned)
    → ((count : ℕ) (ty : NumberedType) → AllKnown census count catalog ty → IfSome (form ty) (λ t. Each (Fitting census count) (of_type t))) → (backend : Backend) (item : Struct)
    → IfSome (option_map (fields_with backend item.fields) (field_types_form form names item)) (λ fields. All (Fitting census (length item.lifetimes.nodes)) (fields_mentions of_type fields))
fields_form_fits census catalog names fit form of_type made backend item =
    fields_made census catalog names fit _ _ _ _ _ _ form of_type (length item.lifetimes.nodes) (made (length item.lifetimes.nodes)) backend item
    (λ nss is. fields_numbered census catalog names fit item nss is)
