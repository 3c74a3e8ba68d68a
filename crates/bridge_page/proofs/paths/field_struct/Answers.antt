use Rattle.std.proofs.Common.{Some, None, ap, refl, ◌∙◌}
use Rattle.std.specs.Prelude.{option_map}
use Rattle.hir_skeleton.specs.Lowered.{field_skeleton}
use Rattle.bridge_page.specs.inside.Walked.{number_of_struct}
use Rattle.bridge_page.proofs.WalkLemmas.{FieldOf, field_leads}
use Rattle.bridge_page.proofs.paths.field_struct.Goals as goal

pub returns-in-Some : goal.returns-in-Some
returns-in-Some c =
    field_leads c.args.def.now c.args.number (Some (field_skeleton c.in-Some.field.now.ty)) c.struct_of.result c.if-def.false
    (ap (option_map (λ (field : FieldOf). field_skeleton field.ty)) c.in-Some.ensures.value) (c.struct_of.ensures ∙ ap number_of_struct c.input_part.ensures.skeleton)

pub returns-in-None : goal.returns-in-None
returns-in-None c =
    field_leads c.args.def.now c.args.number None None c.if-def.false (ap (option_map (λ (field : FieldOf). field_skeleton field.ty)) c.in-None.ensures.value) refl
