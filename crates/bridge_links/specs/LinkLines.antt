-- The links of declarations, and the lines that tell them.
use Rattle.std.specs.Prelude.{ℕ, ◌+◌, List, [], ◌∷◌, ◌++◌, length, map, codes, decimal, Option, Some, None}
use Rattle.std.specs.List.{flat_map}
use Rattle.bridge_decl.specs.Names.{item_name}
use Rattle.bridge_decl.specs.declared.docs.Docs.{Docs}
use Rattle.bridge_decl.specs.declared.docs.RustLink.{RustLink}
use Rattle.bridge_decl.specs.declared.methods.Method.{Method}
use Rattle.bridge_decl.specs.declared.modules.Item.{Item}
use Rattle.bridge_decl.specs.declared.modules.Item.TheVariants.{Struct, Opaque, Enum, Trait, Function}
use Rattle.bridge_decl.specs.declared.modules.Module.{Module}
use Rattle.bridge_decl.specs.declared.traits.TraitMethod.{TraitMethod}
use Rattle.hir_reports.specs.Places.{context_text}
use Rattle.hir_reports.specs.Store.{at_place}
use Rattle.hir_docs.specs.Links.{link_text}
use Rattle.hir_docs.specs.Urls.{BaseUrls}

-- a link and where it stands
pub record PlacedLink : Type 0 where
  pub place : List ℕ
  pub link : RustLink

abbrev pub link_at : List ℕ → RustLink → PlacedLink
link_at place link = record { place = place; link = link }

-- those of one declaration
abbrev pub docs_links : List ℕ → Docs → List PlacedLink
docs_links place docs = map (link_at place) docs.links

-- where an item or a method stands
abbrev pub printed_place : List (List ℕ) → List ℕ → Option (List ℕ) → List ℕ
printed_place path item method = context_text (at_place path item method)

abbrev pub method_links : List (List ℕ) → List ℕ → Method → List PlacedLink
method_links path item method = docs_links (printed_place path item (Some method.name)) method.docs

abbrev pub trait_method_links : List (List ℕ) → List ℕ → TraitMethod → List PlacedLink
trait_method_links path item method = docs_links (printed_place path item (Some method.name)) method.docs

-- those of an item itself
abbrev pub own_docs : Item → Docs
own_docs (Struct item) = item.docs
own_docs (Opaque item) = item.docs
own_docs (Enum item) = item.docs
own_docs (Trait item) = item.docs
own_docs (Function item) = item.docs

-- those of its methods, those of traits too
abbrev pub inner_links : List (List ℕ) → Item → List PlacedLink
inner_links path (Struct item) = flat_map (method_links path item.name) item.methods
inner_links path (Opaque item) = flat_map (method_links path item.name) item.methods
inner_links path (Enum item) = flat_map (method_links path item.name) item.methods
inner_links path (Trait item) = flat_map (trait_method_links path item.name) item.methods
inner_links path (Function item) = []

-- those of an item, and then of each of its methods
abbrev pub item_links : List (List ℕ) → Item → List PlacedLink
item_links path item = docs_links (printed_place path (item_name item) None) (own_docs item) ++ inner_links path item

-- those of a module's items, in order
abbrev pub module_links : Module → List PlacedLink
module_links declared = flat_map (item_links declared.path) declared.items

-- ---- the lines

-- a path that is too short has a dash for a link
abbrev pub link_or_dash : Option (List ℕ) → List ℕ
link_or_dash None = codes "-"
link_or_dash (Some text) = text

abbrev pub link_line : BaseUrls → PlacedLink → List ℕ
link_line urls it = it.place ++ codes " " ++ link_or_dash (link_text urls it.link.typ it.link.path) ++ codes "\n"

-- lines, and how many they are
pub record Lines : Type 0 where
  pub text : List ℕ
  pub count : ℕ

abbrev pub no_lines : Lines
no_lines = record { text = []; count = 0 }

-- lines with those of more links
abbrev pub with_links : BaseUrls → Lines → List PlacedLink → Lines
with_links urls lines links = record { text = lines.text ++ flat_map (link_line urls) links; count = lines.count + length links }

-- all lines, and last how many they are
abbrev pub links_page : BaseUrls → List PlacedLink → List ℕ
links_page urls links = flat_map (link_line urls) links ++ codes "links " ++ decimal (length links) ++ codes "\n"
