use Rattle.hir_fitting_forms.specs.DeclaredCensus.{declared_census}
use Rattle.hir_lower.proofs.ContextLemmas.{nothing_unfit}
use Rattle.hir_lower.proofs.laws.what_is_accepted_fits.Goals as goal

pub returns : goal.returns
returns c = λ it defs unfit is named stands.
    let census = declared_census it.modules in
    nothing_unfit it defs unfit
    (record {
      lead = λ catalog number names. c.paths_lead_to_what_is_declared.ensures it.modules catalog number names;
      items = record {
        out_structs = λ s place set i. c.items_are_lowered_to_what_fits.ensures.out_structs census s place set i;
        structs = λ s place set i. c.items_are_lowered_to_what_fits.ensures.structs census s place set i;
        opaques = λ s place set i. c.items_are_lowered_to_what_fits.ensures.opaques census s place set i;
        enums = λ s place set i. c.items_are_lowered_to_what_fits.ensures.enums census s place set i;
        traits = λ s place set i. c.items_are_lowered_to_what_fits.ensures.traits census s place set i;
        functions = λ s set i. c.items_are_lowered_to_what_fits.ensures.functions census s set i;
      };
      uses = record {
        method = λ m. c.uses_fit_where_types_do.ensures.method census m;
        traits = λ d. c.uses_fit_where_types_do.ensures.traits census d;
        fields = λ d. c.uses_fit_where_types_do.ensures.fields census d.fields;
        out_fields = λ d. c.uses_fit_where_types_do.ensures.out_fields census d.fields;
        none = λ structs out_structs opaques enums. c.noted_uses_fit.ensures.none census structs out_structs opaques enums;
        noted = λ us t. c.noted_uses_fit.ensures.noted census us t;
      };
      used = λ methods special before after. c.definitions_fit_where_parts_do.ensures.used census methods special before after;
      fit = λ all one. c.declared_definitions_name_what_is_there.ensures.fit it.modules all one;
    })
    is named stands
