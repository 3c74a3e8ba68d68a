use Rattle.std.proofs.Common.{◌∙◌}
use Rattle.bridge_places.specs.declared.kinds.Kind.TheVariants as kind
use Rattle.hir_lower.proofs.PlacingLemmas.{at_places}
use Rattle.hir_lower.proofs.placing.parts_of.Goals as goal

pub returns : goal.returns
returns c =
    record {
      out_structs = at_places c.args.env.now _ _ c.args.defs.out_structs.items c.in_ok-out_structs.out_structs (c.of_kind-at.ensures ∙ c.requires.places kind.OutStruct) c.in_ok-out_structs.ensures;
      structs = at_places c.args.env.now _ _ c.args.defs.structs.items c.in_ok-structs.structs (c.of_kind-at-2.ensures ∙ c.requires.places kind.Struct) c.in_ok-structs.ensures;
      opaques = at_places c.args.env.now _ _ c.args.defs.opaques.items c.in_ok-opaques.opaques (c.of_kind-at-3.ensures ∙ c.requires.places kind.Opaque) c.in_ok-opaques.ensures;
      enums = at_places c.args.env.now _ _ c.args.defs.enums.items c.in_ok-enums.enums (c.of_kind-at-4.ensures ∙ c.requires.places kind.Enum) c.in_ok-enums.ensures;
      traits = at_places c.args.env.now _ _ c.args.defs.traits.items c.in_ok-traits.traits (c.of_kind-at-5.ensures ∙ c.requires.places kind.Trait) c.in_ok-traits.ensures;
      functions = at_places c.args.env.now _ _ c.args.defs.functions.items c.in_ok-functions.functions (c.of_kind-at-6.ensures ∙ c.requires.places kind.Function) c.in_ok-functions.ensures;
    }
