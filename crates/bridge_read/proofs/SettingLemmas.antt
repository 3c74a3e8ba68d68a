-- Flags that are turned on one after the other, and entries that are put at their places.
use Rattle.std.proofs.Common.{◌≡◌, ℕ, ◌+◌, ◌<◌, List, [], ◌∷◌, ◌++◌, length, take, get_or, Result, Ok, Err, refl, ap, ◌∙◌}
use Rattle.std.proofs.lemmas.List.{take_more}
use Rattle.std.specs.BTreeMap.{insert_entry}
use Rattle.std.specs.Cmp.Lexicographic.{slice_cmp}
use Rattle.std.specs.Ordering.{nat_cmp}
use Rattle.hir_backends.specs.declared.support.BackendAttrSupport.{BackendAttrSupport}
use Rattle.hir_backends.specs.declared.support.flag.SupportFlag.{SupportFlag}
use Rattle.hir_backends.specs.Support.{with_flag}
use Rattle.serde_json.specs.Data.{Data, Members}
use Rattle.bridge_form.specs.declared.fault.Fault.{Fault}
use Rattle.bridge_form.specs.Reading.{◌>>=◌}
use Rattle.bridge_form.specs.Form.{members_of}
use Rattle.bridge_read.specs.forms.Settings.{turned_on, entered}

on_more : (support : BackendAttrSupport) (flags : List SupportFlag) (last : SupportFlag) → turned_on support (flags ++ last ∷ []) ≡ with_flag (turned_on support flags) last
on_more support [] last = refl
on_more support (first ∷ flags) last = on_more (with_flag support first) flags last

-- a loop turns one more on
pub turned_on_more : (support : BackendAttrSupport) (flags : List SupportFlag) (i : ℕ) (d : SupportFlag) → i < length flags → turned_on support (take (i + 1) flags) ≡ with_flag (turned_on support (take i flags)) (get_or flags i d)
turned_on_more support flags i d within = ap (turned_on support) (take_more flags i d within) ∙ on_more support (take i flags) (get_or flags i d)

-- the entries of the members, put to those before
abbrev pub entered_of : (Data → Result (List ℕ) Fault) → List (List ℕ × List ℕ) → Members → Result (List (List ℕ × List ℕ)) Fault
entered_of read before ms = members_of read ms >>= (λ found. Ok (entered before found))

others_entered : (others : Result (List (List ℕ × List ℕ)) Fault) (before : List (List ℕ × List ℕ)) (name url : List ℕ)
    → ((others >>= (λ found. Ok ((name, url) ∷ found))) >>= (λ found. Ok (entered before found))) ≡ (others >>= (λ found. Ok (entered (insert_entry (slice_cmp nat_cmp) before name url) found)))
others_entered (Ok found) before name url = refl
others_entered (Err fault) before name url = refl

none_entered : (others : Result (List (List ℕ × List ℕ)) Fault) (before : List (List ℕ × List ℕ))
    → ((others >>= (λ found. Ok found)) >>= (λ found. Ok (entered before found))) ≡ (others >>= (λ found. Ok (entered before found)))
none_entered (Ok found) before = refl
none_entered (Err fault) before = refl
