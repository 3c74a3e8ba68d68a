-- Which special methods a type has, by its methods.
use Rattle.std.specs.Prelude.{Bool, true, false, List, Option, Some, None, is_some, option_and_then, option_map}
use Rattle.std.specs.List.{find}
use Rattle.hir_attrs.specs.declared.special.SpecialMethod.{SpecialMethod}
use Rattle.hir_attrs.specs.declared.special.SpecialMethod.TheVariants as special
use Rattle.hir_definitions.specs.declared.methods.Method.{Method}
use Rattle.hir_definitions.specs.declared.special.SpecialMethodPresence.{SpecialMethodPresence}
use Rattle.hir_types.specs.Returns.{success_of}
use Rattle.hir_special.specs.Partial.{is_partial}
use Rattle.hir_presence.specs.Stepping.{given_opaque, value_there}
use Rattle.hir_presence.specs.declared.marked.LoneSpecial.{LoneSpecial}
use Rattle.hir_presence.specs.declared.marked.LoneSpecial.TheVariants as lone

-- a mark is that of a lone special method
abbrev pub is_lone : LoneSpecial → Option SpecialMethod → Bool
is_lone lone.Comparison (Some (special.Comparison _)) = true
is_lone lone.Iterator (Some special.Iterator) = true
is_lone lone.Iterable (Some special.Iterable) = true
is_lone _ _ = false

-- the method that is marked so; the first, were there more
abbrev pub first_marked : LoneSpecial → List Method → Option Method
first_marked it methods = find (λ m. is_lone it m.attrs.special_method) methods

-- a comparison that may answer that neither value comes first
abbrev pub compares_partially : Option Method → Bool
compares_partially None = false
compares_partially (Some m) = is_partial m.output

-- whether one method compares, and may say that neither value comes first; what one gives that steps through values, where it is there; and the
-- opaque that one gives and that does
abbrev pub special_methods : List Method → SpecialMethodPresence
special_methods methods =
    record {
      comparator = is_some (first_marked lone.Comparison methods);
      optional_comparator = compares_partially (first_marked lone.Comparison methods);
      iterator = option_map (λ m. value_there (success_of m.output)) (first_marked lone.Iterator methods);
      iterable = option_and_then (λ m. given_opaque (success_of m.output)) (first_marked lone.Iterable methods);
    }
