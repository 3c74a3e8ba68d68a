-- How far the types of fields come, what is told of them there, and what they stand for.
use Rattle.std.specs.Prelude.{ℕ, List, [], ◌∷◌, map, Option, None, Result, Ok, Err}
use Rattle.std.specs.List.{flat_map, zip}
use Rattle.bridge_decl.specs.declared.structs.Field.{Field}
use Rattle.bridge_decl.specs.declared.structs.Struct.{Struct}
use Rattle.hir_form.specs.ParamForms.{all_given}
use Rattle.hir_heads.specs.Heads.{lifetime_errors}
use Rattle.hir_number.specs.Breaches.{field_breaches}
use Rattle.hir_number.specs.Naming.{Naming}
use Rattle.hir_number.specs.Numbers.{signature_numbers}
use Rattle.hir_number.specs.Shapes.{NumberLists}
use Rattle.hir_number.specs.Signatures.{field_uses}
use Rattle.hir_number.specs.declared.fault.NumberFault.{NumberFault}
use Rattle.hir_number.specs.declared.numbered.NumberedType.{NumberedType}
use Rattle.hir_reports.specs.declared.report.LoweringError.{LoweringError}
use Rattle.hir_signatures.specs.Errors.{breach_error, number_errors}
use Rattle.hir_stages.specs.Numbering.{filled_fields}

-- what is told of a numbered type, by the name of its field
abbrev pub TypeErrors : Type 0
TypeErrors = List ℕ → NumberedType → List LoweringError

-- the first of two lists that isn't empty
abbrev pub else_told : List LoweringError → List LoweringError → List LoweringError
else_told [] later = later
else_told (e ∷ es) later = e ∷ es

-- what is told where all declared names are identifiers: nothing where one isn't, which is told elsewhere
abbrev pub where_named : List LoweringError → List LoweringError → List LoweringError
where_named [] more = more
where_named (e ∷ es) more = []

-- each numbered type with the name of its field, in order
abbrev pub each_errors : TypeErrors → List Field → List NumberedType → List LoweringError
each_errors errors fields types = flat_map (λ pair. errors pair.0.name pair.1) (zip fields types)

-- what the numbers of the lifetimes come to: each type is judged, or a lifetime has no number
abbrev pub numbered_errors : TypeErrors → Naming → Struct → Result NumberLists NumberFault → List LoweringError
numbered_errors errors names item (Ok numbers) = each_errors errors item.fields (filled_fields names item numbers)
numbered_errors errors names item (Err fault) = number_errors fault

-- the types of the fields: their breaches; else nothing, where a declared lifetime has a name that is no identifier, which is
-- told elsewhere; else what their numbers come to
abbrev pub types_errors : TypeErrors → Naming → Struct → List LoweringError
types_errors errors names item =
    else_told (map breach_error (field_breaches names item))
    (where_named (lifetime_errors item.lifetimes) (numbered_errors errors names item (signature_numbers item.lifetimes (field_uses names item.fields))))

-- what all types stand for, by what each does, where they have these numbers
abbrev pub numbered_form : {T : Type 0} → (NumberedType → Option T) → Naming → Struct → Result NumberLists NumberFault → Option (List T)
numbered_form form names item (Ok numbers) = all_given (map form (filled_fields names item numbers))
numbered_form form names item (Err fault) = None

-- so, with the numbers that the declaration gives them
abbrev pub field_types_form : {T : Type 0} → (NumberedType → Option T) → Naming → Struct → Option (List T)
field_types_form form names item = numbered_form form names item (signature_numbers item.lifetimes (field_uses names item.fields))
