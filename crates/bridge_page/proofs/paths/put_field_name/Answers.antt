use Rattle.std.proofs.Common.{[], ◌∷◌, ap}
use Rattle.hir_mentions.specs.Mentions.{where_any}
use Rattle.bridge_outside.proofs.PrintingLaws.{◌⨟◌, prints_nothing, prints_same}
use Rattle.bridge_page.specs.inside.Printed.{dotted}
use Rattle.bridge_page.proofs.WalkLemmas.{FieldOf, field_text}
use Rattle.bridge_page.proofs.paths.put_field_name.Goals as goal

pub returns-in-Some : goal.returns-in-Some
returns-in-Some g c =
    prints_same (field_text c.args.def.now c.args.number c.in-Some.field.now.name (ap (where_any (λ (field : FieldOf). field.name ∷ [])) c.in-Some.ensures.value))
    (c.put_text.ensures ⨟ prints_same c.as_str.ensures.value c.put_text-in-Some.ensures)

pub returns-in_default : goal.returns-in_default
returns-in_default g c = prints_same (ap (λ o. dotted (where_any (λ (field : FieldOf). field.name ∷ []) o)) c.in_default.ensures.value) prints_nothing
