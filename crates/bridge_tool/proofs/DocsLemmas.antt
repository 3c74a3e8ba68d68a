-- The lines of the links of modules, one module after another.
use Rattle.std.proofs.Common.{◌≡◌, ℕ, ◌+◌, ◌<◌, List, [], length, take, get_or}
use Rattle.std.specs.List.{flat_map}
use Rattle.bridge_decl.specs.declared.modules.Module.{Module}
use Rattle.hir_docs.specs.Urls.{BaseUrls}
use Rattle.bridge_links.specs.LinkLines.{Lines, with_links}
use Rattle.bridge_links.proofs.LinkLaws.{with_none, with_step}
use Rattle.bridge_tool.specs.DocsPage.{links_at}

pub docs_none : (urls : BaseUrls) (lines : Lines) → lines ≡ with_links urls lines []
docs_none = with_none

pub docs_step : (urls : BaseUrls) (modules : List Module) (start old new : Lines) (order : List ℕ) (i : ℕ) (d : ℕ) → i < length order
    → old ≡ with_links urls start (flat_map (links_at modules) (take i order)) → new ≡ with_links urls old (links_at modules (get_or order i d))
    → new ≡ with_links urls start (flat_map (links_at modules) (take (i + 1) order))
docs_step urls modules start old new order i d = with_step urls (links_at modules) start old new order i d
