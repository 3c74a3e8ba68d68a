-- The texts of links to the documentation of Rust items, as rustdoc lays its pages out.
use Rattle.std.specs.Prelude.{ℕ, suc, ◌-◌, List, [], ◌∷◌, ◌++◌, length, map, take, drop, codes, Option, Some, None, unwrap_or, Bool, false, ◌==◌, slice_get, if◌then◌else◌, nat_lt}
use Rattle.std.specs.List.{flat_map}
use Rattle.std.specs.Str.{bytes_eq}
use Rattle.std.specs.Borrow.{Bor}
use Rattle.bridge_decl.specs.declared.docs.DocType.{DocType}
use Rattle.bridge_decl.specs.declared.docs.DocType.TheVariants as kind
use Rattle.hir_docs.specs.Urls.{BaseUrls, base_of}

-- how the documentation of an item is laid out: the index of its module's folder, or a page with a prefix before its name and, for what
-- stands within the page's item, a text before each further name
pub data Layout : Type 0 where
  Index : Layout
  Page : List ℕ → List (List ℕ) → Layout

-- one line a kind
unfoldable pub layout : DocType → Layout
layout kind.Mod = Index
layout kind.Struct = Page (codes "struct.") []
layout kind.Enum = Page (codes "enum.") []
layout kind.Trait = Page (codes "trait.") []
layout kind.Fn = Page (codes "fn.") []
layout kind.Macro = Page (codes "macro.") []
layout kind.Constant = Page (codes "constant.") []
layout kind.Typedef = Page (codes "type.") []
layout kind.FnInStruct = Page (codes "struct.") (codes "#method." ∷ [])
layout kind.FnInEnum = Page (codes "enum.") (codes "#method." ∷ [])
layout kind.FnInTypedef = Page (codes "type.") (codes "#method." ∷ [])
layout kind.DefaultFnInTrait = Page (codes "trait.") (codes "#method." ∷ [])
layout kind.FnInTrait = Page (codes "trait.") (codes "#tymethod." ∷ [])
layout kind.EnumVariant = Page (codes "enum.") (codes "#variant." ∷ [])
layout kind.StructField = Page (codes "struct.") (codes "#structfield." ∷ [])
layout kind.AssociatedTypeInEnum = Page (codes "enum.") (codes "#associatedtype." ∷ [])
layout kind.AssociatedTypeInStruct = Page (codes "struct.") (codes "#associatedtype." ∷ [])
layout kind.AssociatedTypeInTrait = Page (codes "trait.") (codes "#associatedtype." ∷ [])
layout kind.AssociatedConstantInEnum = Page (codes "enum.") (codes "#associatedconstant." ∷ [])
layout kind.AssociatedConstantInStruct = Page (codes "struct.") (codes "#associatedconstant." ∷ [])
layout kind.AssociatedConstantInTrait = Page (codes "trait.") (codes "#associatedconstant." ∷ [])
layout kind.EnumVariantField = Page (codes "enum.") (codes "#variant." ∷ codes ".field." ∷ [])

-- where documentation lies whose crate has no other place
unfoldable pub docs_rs : List ℕ
docs_rs = codes "https://docs.rs/"

abbrev pub is_slash : Option ℕ → Bool
is_slash None = false
is_slash (Some byte) = byte == 47

-- whether a URL ends with `/`
abbrev pub ends_with_slash : List ℕ → Bool
ends_with_slash url = is_slash (slice_get url (length url - 1))

-- a URL with `/` at its end
abbrev pub slashed : List ℕ → List ℕ
slashed url = if ends_with_slash url then url else url ++ codes "/"

-- the base URL of a crate: its own, else that for all others, else docs.rs, where each crate has a folder and its versions folders in it
abbrev pub chosen_base : BaseUrls → List ℕ → List ℕ
chosen_base urls crate_name = unwrap_or (base_of urls crate_name) (unwrap_or urls.default docs_rs)

abbrev pub rooted : List ℕ → List ℕ → List ℕ
rooted base crate_name = if bytes_eq base docs_rs then base ++ crate_name ++ codes "/latest/" else base

abbrev pub root_of : BaseUrls → List ℕ → List ℕ
root_of urls crate_name = rooted (slashed (chosen_base urls crate_name)) crate_name

-- a folder for each segment
abbrev pub folder : List ℕ → List ℕ
folder segment = segment ++ codes "/"

abbrev pub folders : List (List ℕ) → List ℕ
folders segments = flat_map folder segments

-- the further names of an item within a page, each after its text
abbrev pub anchored : List (List ℕ) → List (List ℕ) → List ℕ
anchored [] names = []
anchored (anchor ∷ anchors) [] = []
anchored (anchor ∷ anchors) (name ∷ names) = anchor ++ name ++ anchored anchors names

-- the page of the first of these names, and the place of the others in it
abbrev pub page_text : List ℕ → List (List ℕ) → List (List ℕ) → List ℕ
page_text prefix anchors [] = []
page_text prefix anchors (name ∷ names) = prefix ++ name ++ codes ".html" ++ anchored anchors names

-- whether a path has too few segments for its kind
abbrev pub is_short : Layout → ℕ → Bool
is_short Index segments = false
is_short (Page prefix anchors) segments = nat_lt segments (suc (length anchors))

-- where a path leads in the folder of its crate; the last segments name the page's item and what stands within it
abbrev pub within_root : Layout → List (List ℕ) → List ℕ
within_root Index path = folders path ++ codes "index.html"
within_root (Page prefix anchors) path =
    let front = length path - suc (length anchors) in
    folders (take front path) ++ page_text prefix anchors (drop front path)

-- the link to what a path names; none where the path has no segment, or too few for its kind
abbrev pub link_text : BaseUrls → DocType → List (List ℕ) → Option (List ℕ)
link_text urls kind [] = None
link_text urls kind (crate_name ∷ segments) =
    if is_short (layout kind) (length (crate_name ∷ segments)) then None else
    Some (root_of urls crate_name ++ within_root (layout kind) (crate_name ∷ segments))
