-- The documentation of a declaration.
use Rattle.std.specs.Prelude.{ℕ, List, []}
use Rattle.bridge_decl.specs.declared.docs.Docs.{Docs}
use Rattle.bridge_decl.specs.declared.docs.DocBlock.{DocBlock}
use Rattle.bridge_decl.specs.declared.docs.DocType.{DocType}
use Rattle.bridge_decl.specs.declared.docs.RustLink.{RustLink}
use Rattle.bridge_decl.specs.declared.docs.RustLinkDisplay.{RustLinkDisplay}
use Rattle.bridge_decl.specs.declared.attrs.Attrs.{Attrs}
use Rattle.bridge_decl.specs.declared.attrs.DiplomatBackendAttrCfg.{DiplomatBackendAttrCfg}
use Rattle.bridge_form.specs.declared.keys.Key.TheVariants as key
use Rattle.bridge_form.specs.Form.{Form, Parts, object_with, made, ◌&◌, needs, may_be, list, text, one_word}
use Rattle.bridge_words.specs.Words.{doc_words, display_words}
use Rattle.bridge_read_parts.specs.forms.Attrs.{condition, attrs, no_attrs}

abbrev pub block_of : DiplomatBackendAttrCfg → List ℕ → DocBlock
block_of where_ lines = record { cfg = where_; lines = lines }

-- {"if": condition, "lines": text}
unfoldable pub block : Form DocBlock
block = object_with (made block_of & needs key.Condition condition & needs key.Lines text)

unfoldable pub doc_kind : Form DocType
doc_kind = one_word doc_words

unfoldable pub display : Form RustLinkDisplay
display = one_word display_words

abbrev pub link_of : List (List ℕ) → DocType → RustLinkDisplay → RustLink
link_of path kind shown = record { path = path; typ = kind; display = shown }

-- {"path": [texts], "kind": kind of a documented path, "display": display}
unfoldable pub link : Form RustLink
link = object_with (made link_of & needs key.Path (list text) & needs key.Kind doc_kind & needs key.Display display)

abbrev pub docs_of : List DocBlock → List RustLink → Docs
docs_of blocks links = record { blocks = blocks; links = links }

-- {"blocks": [blocks], "links": [links]}
unfoldable pub docs : Form Docs
docs = object_with (made docs_of & may_be key.Blocks (list block) [] & may_be key.Links (list link) [])

-- no block and no link
abbrev pub no_docs : Docs
no_docs = record { blocks = []; links = [] }

abbrev pub about_of : Docs → Attrs → Docs × Attrs
about_of documents attributes = (documents, attributes)

-- the two keys that most declarations end with
unfoldable pub documented : Parts (Docs × Attrs)
documented = made about_of & may_be key.Docs docs no_docs & may_be key.Attrs attrs no_attrs
