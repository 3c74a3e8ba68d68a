use Rattle.std.proofs.Common.{sym, ◌∙◌, [], ◌∷◌}
use Rattle.hir_mentions.specs.Definitions.{trait_mentions, usage_mentions}
use Rattle.hir_fitting.specs.Parts.{free}
use Rattle.hir_fitting.proofs.Telling.{alone_ok, later_ok}
use Rattle.hir_fitting.proofs.definitions.trait_told.Goals as goal

pub returns : goal.returns
returns c =
    later_ok c.args.census.now c.args.holder.now (free (trait_mentions c.args.def.now)) (free (usage_mentions c.args.def.now.usage) ∷ []) c.in_ok-named.named c.usage_misfit.result (sym c.is_some.ensures ∙ c.if-is_some.false) c.in_ok-named.ensures
    (alone_ok c.args.census.now c.args.holder.now (free (usage_mentions c.args.def.now.usage)) c.usage_misfit.result c.usage_misfit.ensures)
