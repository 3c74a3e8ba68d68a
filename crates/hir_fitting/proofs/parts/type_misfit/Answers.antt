use Rattle.std.proofs.Common.{sym, ◌∙◌, IfOk, [], ◌∷◌, map, subst}
use Rattle.hir_mentions.specs.Definitions.{special_mentions, usage_mentions}
use Rattle.hir_fitting.specs.Parts.{free, method_part, parts_of_type}
use Rattle.hir_fitting.specs.inside.Telling.{PartsTell}
use Rattle.hir_fitting.proofs.Telling.{back_ok}
use Rattle.hir_fitting.proofs.parts.type_misfit.Goals as goal

pub returns : goal.returns
returns c =
    subst (λ ms. IfOk c.beside_misfit.result (PartsTell c.args.census.now c.args.holder.now (parts_of_type ms c.args.special.now c.args.usage.now))) c.as_slice.ensures
    (back_ok c.args.census.now c.args.holder.now (map method_part c.as_slice.result.now) (free (special_mentions c.args.special.now) ∷ free (usage_mentions c.args.usage.now) ∷ []) c.in_ok-named.named c.beside_misfit.result (sym c.is_some.ensures ∙ c.if-is_some.false) c.in_ok-named.ensures c.beside_misfit.ensures)
