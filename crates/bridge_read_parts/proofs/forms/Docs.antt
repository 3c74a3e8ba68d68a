-- The laws of the forms of specs/forms/Docs.
use Rattle.std.specs.Prelude.{[]}
use Rattle.bridge_decl.specs.declared.docs.Docs.{Docs}
use Rattle.bridge_decl.specs.declared.docs.DocBlock.{DocBlock}
use Rattle.bridge_decl.specs.declared.docs.DocType.{DocType}
use Rattle.bridge_decl.specs.declared.docs.RustLink.{RustLink}
use Rattle.bridge_decl.specs.declared.docs.RustLinkDisplay.{RustLinkDisplay}
use Rattle.bridge_decl.specs.declared.attrs.Attrs.{Attrs}
use Rattle.bridge_form.specs.declared.keys.Key.TheVariants as key
use Rattle.bridge_words.specs.Words.{doc_words, display_words}
use Rattle.bridge_read_parts.specs.forms.Docs.{block_of, block, doc_kind, display, link_of, link, docs_of, docs, no_docs, about_of, documented}
use Rattle.bridge_form.proofs.FormLaws.{Lawful, LawfulParts}
use Rattle.bridge_form.proofs.Proved.{Proved, ProvedParts, List_of, Object, Made, Needs, May_be, ◌&&&◌, Text, One_word}
use Rattle.bridge_read_parts.specs.forms.Attrs.{no_attrs}
use Rattle.bridge_read_parts.proofs.forms.Attrs.{P_condition, P_attrs}

pub block_lawful : Lawful block
unfolding block
block_lawful = (Object (Made block_of &&& Needs key.Condition P_condition &&& Needs key.Lines Text)).lawful

abbrev pub P_block : Proved DocBlock
P_block = record { form = block; lawful = block_lawful }

pub doc_kind_lawful : Lawful doc_kind
unfolding doc_kind
doc_kind_lawful = (One_word doc_words).lawful

abbrev pub P_doc_kind : Proved DocType
P_doc_kind = record { form = doc_kind; lawful = doc_kind_lawful }

pub display_lawful : Lawful display
unfolding display
display_lawful = (One_word display_words).lawful

abbrev pub P_display : Proved RustLinkDisplay
P_display = record { form = display; lawful = display_lawful }

pub link_lawful : Lawful link
unfolding link
link_lawful = (Object (Made link_of &&& Needs key.Path (List_of Text) &&& Needs key.Kind P_doc_kind &&& Needs key.Display P_display)).lawful

abbrev pub P_link : Proved RustLink
P_link = record { form = link; lawful = link_lawful }

pub docs_lawful : Lawful docs
unfolding docs
docs_lawful = (Object (Made docs_of &&& May_be key.Blocks (List_of P_block) [] &&& May_be key.Links (List_of P_link) [])).lawful

abbrev pub P_docs : Proved Docs
P_docs = record { form = docs; lawful = docs_lawful }

pub documented_lawful : LawfulParts documented
unfolding documented
documented_lawful = (Made about_of &&& May_be key.Docs P_docs no_docs &&& May_be key.Attrs P_attrs no_attrs).lawful

abbrev pub P_documented : ProvedParts (Docs × Attrs)
P_documented = record { parts = documented; lawful = documented_lawful }
