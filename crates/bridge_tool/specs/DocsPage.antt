-- The page of an input's links to documentation.
use Rattle.std.specs.Prelude.{ℕ, List, slice_get}
use Rattle.std.specs.List.{flat_map}
use Rattle.bridge_decl.specs.declared.modules.Module.{Module}
use Rattle.bridge_links.specs.LinkLines.{PlacedLink, links_page, module_links}
use Rattle.bridge_order.specs.Order.{module_order, of_found}
use Rattle.bridge_read.specs.declared.input.Input.{Input}

-- the links in the module of a number
abbrev pub links_at : List Module → ℕ → List PlacedLink
links_at modules number = of_found module_links (slice_get modules number)

-- the links of all modules, in the order in which these are gone through
abbrev pub links_in : List Module → List PlacedLink
links_in modules = flat_map (links_at modules) (module_order modules)

-- a line for each link of the declarations, those of disabled ones too, and last how many there are
abbrev pub docs_page : Input → List ℕ
docs_page input = links_page input.urls (links_in input.env)
