-- Whether something stands under one key of an object alone, as the slots are gone through.
use Rattle.std.proofs.Common.{◌≡◌, ℕ, ◌+◌, ◌<◌, ◌≤◌, true, false, List, [], ◌∷◌, drop, get_or, length, Option, Some, None, is_some, option_map, Result, Ok, Err, refl, sym, ap, subst, ◌∙◌}
use Rattle.std.proofs.lemmas.List.{drop_all, drop_more}
use Rattle.serde_json.specs.Data.{Data}
use Rattle.serde_json.specs.View.{view}
use Rattle.serde_json.specs.declared.value.Value.{Value}
use Rattle.bridge_form.specs.declared.fault.Fault.{Fault}
use Rattle.bridge_form.specs.declared.fault.InputKind.TheVariants as kind
use Rattle.bridge_form.specs.declared.fault.ReadFault.{ReadFault}
use Rattle.bridge_form.specs.declared.fault.ReadFault.TheVariants.{Bad, NoMemory}
use Rattle.bridge_form.specs.declared.fields.Fields.{Fields}
use Rattle.bridge_form.specs.declared.keys.Key.{Key}
use Rattle.bridge_form.specs.declared.keys.Key.TheVariants as key
use Rattle.bridge_form.specs.Form.{add_live, live, sole, sole_under}
use Rattle.bridge_form.specs.Given.{Stops}
use Rattle.bridge_form.specs.Left.{IsLeft, one_seen, seen}
use Rattle.bridge_form.specs.Reading.{here, only, under}

-- an object with no other keys has what stands under one key alone
pub sole_known : (form : List Key) (d : Data) → only form d ≡ Ok tt → sole_under form d ≡ sole (live form d)
unfolding sole_under
sole_known form d known = rw known refl

pub sole_refused : (form : List Key) (d : Data) (fault : ReadFault) → Stops fault (only form d) → Stops fault (sole_under form d)
unfolding sole_under
sole_refused form d NoMemory e = tt
sole_refused form d (Bad fault) e = rw e refl

-- what stands under the keys, after what was found
abbrev pub after : Option (Key × Value) → List (Key × Data) → List (Key × Data)
after None ones = ones
after (Some one) ones = one_seen one ∷ ones

-- with one more found
abbrev pub add_found : Option (Key × Option Value) → List (Key × Data) → List (Key × Data)
add_found None ones = ones
add_found (Some found) ones = add_live found.0 (option_map view found.1) ones

some_is : (one other : Key × Option Data) → ◌≡◌ {A = Option (Key × Option Data)} (Some one) (Some other) → one ≡ other
some_is one other e = cc

seen_found : (found : Option (Key × Option Value)) (k : Key) (x : Option Data) (ones : List (Key × Data)) → option_map seen found ≡ Some (k, x) → add_live k x ones ≡ add_found found ones
seen_found None k x ones e = absurd cc
seen_found (Some (j, v)) k x ones e = sym (ap (λ (one : Key × Option Data). add_live one.0 one.1 ones) (some_is (j, option_map view v) (k, x) e))

-- the next key tells what stands under it
pub next_found : (form : List Key) (d : Data) (n : ℕ) (lone : Option (Key × Value)) (old new : Fields) (found : Option (Key × Option Value)) → n < length form → IsLeft old (drop n form) d
    → sole (live form d) ≡ sole (after lone (live (drop n form) d))
    → ((k : Key) (ks : List Key) (d : Data) → IsLeft old (k ∷ ks) d → (option_map seen found ≡ Some (k, under k d)) × IsLeft new ks d)
    → IsLeft new (drop (n + 1) form) d × (sole (live form d) ≡ sole (after lone (add_found found (live (drop (n + 1) form) d))))
next_found form d n lone old new found lt left is told =
    let k = get_or form n key.Root in
    let more : drop n form ≡ k ∷ drop (n + 1) form = drop_more form n key.Root lt in
    let h = told k (drop (n + 1) form) d (subst (λ ks. IsLeft old ks d) more left) in
    (h.1, is ∙ ap (λ ones. sole (after lone ones)) (ap (λ ks. live ks d) more ∙ seen_found found k (under k d) (live (drop (n + 1) form) d) h.0))

-- where something stands under it, that is the first found or one too many
pub first_found : (lone : Option (Key × Value)) (found : Option (Key × Option Value)) (k : Key) (x : Option Value) (v : Value) (ones : List (Key × Data)) → found ≡ Some (k, x) → x ≡ Some v
    → is_some lone ≡ false → after lone (add_found found ones) ≡ after (Some (k, v)) ones
first_found None found k x v ones e is none = rw (e, is) refl
first_found (Some one) found k x v ones e is none = absurd cc

pub one_too_many : (lone : Option (Key × Value)) (found : Option (Key × Option Value)) (k : Key) (x : Option Value) (v : Value) (ones : List (Key × Data)) → found ≡ Some (k, x) → x ≡ Some v
    → is_some lone ≡ true → sole (after lone (add_found found ones)) ≡ Err (here kind.WrongForm)
one_too_many None found k x v ones e is some = absurd cc
one_too_many (Some one) found k x v ones e is some = rw (e, is) refl

-- what is found at the end
abbrev pub of_lone : Option (Key × Value) → Result (Key × Data) Fault
of_lone None = Err (here kind.WrongForm)
of_lone (Some one) = Ok (one_seen one)

sole_of : (lone : Option (Key × Value)) → sole (after lone []) ≡ of_lone lone
sole_of None = refl
sole_of (Some one) = refl

pub at_end : (form : List Key) (d : Data) (n : ℕ) (lone : Option (Key × Value)) → length form ≤ n → only form d ≡ Ok tt
    → sole (live form d) ≡ sole (after lone (live (drop n form) d)) → sole_under form d ≡ of_lone lone
at_end form d n lone long known told = sole_known form d known ∙ told ∙ ap (λ ks. sole (after lone (live ks d))) (drop_all n form long) ∙ sole_of lone
