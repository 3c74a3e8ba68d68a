use Rattle.std.proofs.Common.{◌≡◌, []}
use Rattle.serde_json.specs.View.{members_view}
use Rattle.bridge_form.specs.Reading.{text_of}
use Rattle.bridge_read.proofs.SettingLemmas.{entered_of}
use Rattle.bridge_read.proofs.settings.BasesFromFormInputForms.from_form.Given as goal

abbrev pub invariant-loop-name : goal.invariant-loop-name
invariant-loop-name l = entered_of text_of l.bases (members_view l.name-iterator) ≡ entered_of text_of [] (members_view l.initial.name-iterator)
