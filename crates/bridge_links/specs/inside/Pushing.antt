-- What one push adds to the lines.
use Rattle.std.specs.Prelude.{ℕ, ◌+◌, List, ◌++◌, codes}
use Rattle.hir_docs.specs.Links.{link_text}
use Rattle.hir_docs.specs.Urls.{BaseUrls}
use Rattle.bridge_links.specs.LinkLines.{Lines, PlacedLink, link_or_dash}

-- lines with one more
abbrev pub with_line : Lines → List ℕ → List ℕ → Lines
with_line lines place url = record { text = lines.text ++ (place ++ codes " " ++ url ++ codes "\n"); count = lines.count + 1 }

abbrev pub with_link : BaseUrls → Lines → PlacedLink → Lines
with_link urls lines it = with_line lines it.place (link_or_dash (link_text urls it.link.typ it.link.path))
