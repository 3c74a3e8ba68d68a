-- What stands under the keys of a form, as code puts it into slots.
use Rattle.std.specs.Prelude.{ℕ, suc, List, [], ◌∷◌, slice_set, Option, Some, None, option_map, Result, Ok, Err, if◌then◌else◌}
use Rattle.std.specs.Str.{bytes_eq}
use Rattle.serde_json.specs.Data.{Members, no_members, member}
use Rattle.bridge_form.specs.declared.fault.Fault.{Fault}
use Rattle.bridge_form.specs.declared.fault.InputKind.TheVariants as kind
use Rattle.bridge_form.specs.declared.keys.Key.{Key}
use Rattle.bridge_form.specs.declared.pointer.Step.TheVariants as step
use Rattle.bridge_form.specs.Keys.{key_text}
use Rattle.bridge_form.specs.Reading.{here, within, not_null}
use Rattle.bridge_form.specs.Left.{Slots}

-- the number of the first key with that text
abbrev pub key_number : List Key → List ℕ → Option ℕ
key_number [] text = None
key_number (k ∷ keys) text = if bytes_eq (key_text k) text then Some 0 else option_map (λ n. suc n) (key_number keys text)

abbrev pub or_unknown : {A : Type 0} → Option ℕ → List ℕ → (ℕ → Result A Fault) → Result A Fault
or_unknown (Some n) text next = next n
or_unknown None text next = Err (within (step.Member text) (here kind.UnknownKey))

-- the slots after these members, up to the first whose key is none of the form
abbrev pub slots_after : List Key → Slots → Members → Result Slots Fault
slots_after keys slots no_members = Ok slots
slots_after keys slots (member text d ms) = or_unknown (key_number keys text) text (λ n. slots_after keys (slice_set slots n (not_null d)) ms)
