-- The numbered signatures of the made functions, and the numbered types of the fields of the made structs.
use Rattle.std.proofs.Common.{◌≡◌, ℕ, ◌<◌, [], ◌∷◌, Bool, Some, ap, ◌∙◌}
use Rattle.bridge_generate.specs.Generated.{function_numbered, one_lifetime, outlived, outliving, two_lifetimes}
use Rattle.hir_life.specs.Declarations.{bounded}
use Rattle.hir_elide.specs.Signature.{environment_of}
use Rattle.hir_life.specs.Environment.{Environment}
use Rattle.hir_life.specs.declared.maybe_static.MaybeStatic.TheVariants.{NonStatic}
use Rattle.hir_number.specs.Naming.{Naming}
use Rattle.hir_number.specs.Numbers.{signature_numbers}
use Rattle.hir_number.specs.Occurrences.{signature_with}
use Rattle.hir_number.specs.Signatures.{field_uses}
use Rattle.hir_number.specs.declared.numbered.NumberedType.{NumberedType}
use Rattle.hir_number.specs.declared.signature.NumberedSignature.{NumberedSignature}
use Rattle.hir_readings.specs.Declared.{function_signature, numbered_as}
use Rattle.hir_stages.specs.Numbering.{filled_fields, filled_function}
use Rattle.bridge_order.specs.declared.catalog.Catalog.{Catalog}
use Rattle.bridge_measure.specs.inside.Made.{AreAsMade}
use Rattle.bridge_measure.proofs.FilledLemmas.{borrowed_type, fields_filled, function_filled, numbered_with, param_types, struct_type, types_if}
use Rattle.bridge_measure.proofs.UseLemmas.{fields_if, fields_numbered, function_is_numbered, function_uses_are, struct_if}

-- the lifetimes `<'a, 'b: 'a>`, each with those that outlive it
abbrev pub two_known : Environment
two_known = record { bounds = bounded outlived ∷ bounded outliving ∷ []; count = 2 }

-- the opaque, borrowed for the lifetime of a number
abbrev pub numbered_borrow : ℕ → NumberedType
numbered_borrow l = borrowed_type (NonStatic l)

-- the struct of a number with the lifetime 0
abbrev pub numbered_struct : ℕ → NumberedType
numbered_struct k = struct_type k (NonStatic 0 ∷ [])

-- the signature of the function of a number
abbrev pub made_signature : ℕ → NumberedSignature
made_signature k = numbered_with two_known (param_types k) (Some (numbered_borrow 0))

module _ (count : ℕ) (names : Naming) (catalog : Catalog) (known : AreAsMade count names catalog) (k : ℕ) (within : k < count) where
  pub signature_is : function_signature names (function_numbered k) ≡ Some (made_signature k)
  signature_is =
      ap (numbered_as (filled_function names (function_numbered k))) (function_is_numbered count names catalog known k within)
      ∙ ap Some (function_filled count names catalog known k within)
      ∙ ap (λ us. Some (numbered_with (environment_of (signature_with two_lifetimes us)) (param_types k) (Some (numbered_borrow 0))))
      (function_uses_are count names catalog known k within)

  pub types_are : (first : Bool)
      → numbered_as (filled_fields names (struct_if first k)) (signature_numbers one_lifetime (field_uses names (fields_if first k)))
      ≡ Some (types_if first k)
  types_are first =
      ap (numbered_as (filled_fields names (struct_if first k))) (fields_numbered count names catalog known first k within)
      ∙ ap Some (fields_filled count names catalog known first k within)
