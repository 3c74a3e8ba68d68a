-- Forms and parts together with their laws, so that the laws of an object's form are written as the form itself.
use Rattle.std.proofs.Common.{ℕ, List, Bool, Option, Some, Result}
use Rattle.std.specs.Prelude.{ℤ}
use Rattle.serde_json.specs.Data.{Data}
use Rattle.bridge_form.specs.declared.keys.Key.{Key}
use Rattle.bridge_form.specs.declared.fault.Fault.{Fault}
use Rattle.bridge_form.specs.Reading.{text_of, number_read, flag_of, byte_of, integer_of, not_empty}
use Rattle.bridge_form.proofs.DictionaryLaws.{dictionary_lawful}
use Rattle.bridge_form.specs.Form.{dictionary, Form, Parts, single, list, object_with, made, ◌&◌, needs, may_have, may_be, may_be_by, told, skips, grouped, refined, refined_at, word_or, one_of, never, two, chosen_by, find_word}
use Rattle.bridge_form.proofs.FormLaws.{Lawful, LawfulParts, single_lawful, list_lawful}
use Rattle.bridge_form.proofs.PartLaws.{made_lawful, both_lawful, needs_lawful, may_be_lawful, may_have_lawful, told_lawful, skips_lawful, grouped_lawful, may_be_by_lawful}
use Rattle.bridge_form.proofs.ObjectLaws.{object_lawful, refined_lawful, refined_at_lawful}
use Rattle.bridge_form.proofs.ChoiceLaws.{word_or_lawful, never_lawful, one_of_lawful, chosen_lawful}
use Rattle.bridge_form.proofs.PairLaws.{two_lawful}

pub record Proved (A : Type 0) : Type 1 where
  pub form : Form A
  pub lawful : Lawful form

pub record ProvedParts (A : Type 0) : Type 1 where
  pub parts : Parts A
  pub lawful : LawfulParts parts

module _ {A : Type 0} where
  abbrev pub Single : (Data → Result A Fault) → Proved A
  Single read = record { form = single read; lawful = single_lawful read }

  abbrev pub List_of : Proved A → Proved (List A)
  List_of p = record { form = list p.form; lawful = list_lawful p.form p.lawful }

  abbrev pub Dictionary : Proved A → Proved (List (List ℕ × A))
  Dictionary p = record { form = dictionary p.form; lawful = dictionary_lawful p.form p.lawful }

  abbrev pub Two : Proved A → Proved (A × A)
  Two p = record { form = two p.form; lawful = two_lawful p.form p.lawful }

  abbrev pub Object : ProvedParts A → Proved A
  Object p = record { form = object_with p.parts; lawful = object_lawful p.parts p.lawful }

  abbrev pub Made : A → ProvedParts A
  Made x = record { parts = made x; lawful = made_lawful x }

  abbrev pub Told : (Data → A) → ProvedParts A
  Told f = record { parts = told f; lawful = told_lawful f }

  abbrev pub Needs : Key → Proved A → ProvedParts A
  Needs key p = record { parts = needs key p.form; lawful = needs_lawful p.form key p.lawful }

  abbrev pub May_have : Key → Proved A → ProvedParts (Option A)
  May_have key p = record { parts = may_have key p.form; lawful = may_have_lawful p.form key p.lawful }

  abbrev pub May_be : Key → Proved A → A → ProvedParts A
  May_be key p absent = record { parts = may_be key p.form absent; lawful = may_be_lawful p.form key absent p.lawful }

  abbrev pub May_be_by : Key → (Data → Proved A) → A → ProvedParts A
  May_be_by key p absent = record { parts = may_be_by key (λ d. (p d).form) absent; lawful = may_be_by_lawful key (λ d. (p d).form) absent (λ d. (p d).lawful) }

  abbrev pub Grouped : ProvedParts A → ProvedParts A
  Grouped p = record { parts = grouped p.parts; lawful = grouped_lawful p.parts p.lawful }

  abbrev pub Word_or : Proved A → Proved A → Proved A
  Word_or p q = record { form = word_or p.form q.form; lawful = word_or_lawful p.form q.form p.lawful q.lawful }

  abbrev pub Never : Proved A
  Never = record { form = never; lawful = never_lawful }

  abbrev pub One_of : List Key → (Key → Proved A) → Proved A
  One_of keys arm = record { form = one_of keys (λ k. (arm k).form); lawful = one_of_lawful keys (λ k. (arm k).form) (λ k. (arm k).lawful) }

abbrev pub Skips : Key → ProvedParts (Unit {0})
Skips key = record { parts = skips key; lawful = skips_lawful key }

module _ {A B : Type 0} where
  infixl 5 ◌&&&◌
  abbrev pub ◌&&&◌ : ProvedParts (A → B) → ProvedParts A → ProvedParts B
  p &&& q = record { parts = p.parts & q.parts; lawful = both_lawful p.parts q.parts p.lawful q.lawful }

  abbrev pub Refined : (A → Option B) → Proved A → Proved B
  Refined test p = record { form = refined test p.form; lawful = refined_lawful test p.form p.lawful }

  abbrev pub Refined_at : Key → (A → Option B) → ProvedParts A → ProvedParts B
  Refined_at key test p = record { parts = refined_at key test p.parts; lawful = refined_at_lawful key test p.parts p.lawful }

  abbrev pub Chosen_by : Key → Proved A → (A → Proved B) → Proved B
  Chosen_by key kinds arm = record { form = chosen_by key kinds.form (λ k. (arm k).form); lawful = chosen_lawful key kinds.form (λ k. (arm k).form) kinds.lawful (λ k. (arm k).lawful) }

  abbrev pub Mapped : (A → B) → Proved A → Proved B
  Mapped f p = Refined (λ x. Some (f x)) p

abbrev pub Text : Proved (List ℕ)
Text = Single text_of

abbrev pub Number : Proved ℕ
Number = Single number_read

abbrev pub Flag : Proved Bool
Flag = Single flag_of

abbrev pub Byte : Proved ℕ
Byte = Single byte_of

abbrev pub Integer : Proved ℤ
Integer = Single integer_of

abbrev pub One_word : {W : Type 0} → List (List ℕ × W) → Proved W
One_word words = Refined (find_word words) Text

abbrev pub Some_list : {A : Type 0} → Proved A → Proved (List A)
Some_list p = Refined not_empty (List_of p)
