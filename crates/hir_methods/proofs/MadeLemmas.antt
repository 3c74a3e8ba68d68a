-- What is made of parts, where nothing is told of any.
use Rattle.std.proofs.Common.{◌≡◌, ℕ, ◌+◌, ◌<◌, List, [], ◌∷◌, ◌++◌, length, take, map, get_or, Option, Some, None, refl, sym, ap, ◌∙◌}
use Rattle.std.specs.Prelude.{option_map}
use Rattle.std.specs.List.{flat_map}
use Rattle.std.proofs.lemmas.Grind.{flat_map-append}
use Rattle.std.proofs.lemmas.List.{map_more, take_more, append-nil}
use Rattle.hir_attrs.specs.declared.attrs.Attrs.{Attrs}
use Rattle.hir_docs.specs.declared.docs.Docs.{Docs}
use Rattle.hir_heads.specs.Told.{MadeUnlessTold}
use Rattle.hir_number.proofs.ElisionLemmas.{none_of}
use Rattle.hir_reports.specs.declared.report.LoweringError.{LoweringError}
use Rattle.hir_methods.specs.declared.headings.Heading.{Heading}
use Rattle.hir_methods.specs.declared.params.UntypedParam.{UntypedParam}
use Rattle.hir_methods.specs.inside.Gathering.{gathered}
use Rattle.hir_methods.specs.inside.Headings.{headed, named}
use Rattle.hir_methods.specs.Choosing.{kept_with, paired}
use Rattle.hir_methods.specs.inside.Parts.{GivenUnlessTold}

-- a heading has both names
pub headed_made :
    (docs : Docs) (x y : List ℕ) (ds ns abis ls : List LoweringError) (name abi_name : Option (List ℕ)) → MadeUnlessTold ns x name → MadeUnlessTold abis y abi_name
    → MadeUnlessTold (ds ++ ns ++ abis ++ ls) (record { docs = docs; name = x; abi_name = y }) (headed docs name abi_name)
headed_made docs x y ds ns abis ls name abi_name one other = λ none.
    let names = (none_of (ds ++ ns ++ abis) ls none).0 in
    let first = (none_of ds ns (none_of (ds ++ ns) abis names).0).1 in
    ap (λ n. headed docs n abi_name) (one first) ∙ ap (headed docs (Some x)) (other (none_of (ds ++ ns) abis names).1)

-- a parameter has its name
pub named_made : (attrs : Attrs) (x : List ℕ) (ns ms : List LoweringError) (name : Option (List ℕ)) → MadeUnlessTold ns x name → MadeUnlessTold (ns ++ ms) (record { name = x; attrs = attrs }) (named name attrs)
named_made attrs x ns ms name one = λ none. ap (λ n. named n attrs) (one (none_of ns ms none).0)

-- the heading, and then the receiver and the parameters
pub gathered_made :
    (h : Heading) (receiver : Option Attrs) (ps : List UntypedParam) (hs rs es : List LoweringError) (heading : Option Heading) (params : Option (List UntypedParam))
    → MadeUnlessTold hs h heading → MadeUnlessTold es ps params
    → MadeUnlessTold (hs ++ rs ++ es) (record { heading = h; receiver = receiver; params = ps }) (gathered heading receiver params)
gathered_made h receiver ps hs rs es heading params one other = λ none.
    let parts = none_of (hs ++ rs) es none in
    ap (λ x. gathered x receiver params) (one (none_of hs rs parts.0).0) ∙ ap (gathered (Some h) receiver) (other parts.1)

-- one more of a list
module _ {A B : Type 0} (told : A → List LoweringError) (form : A → B) (xs : List A) where
  told_more : (i : ℕ) (x : A) → i < length xs → flat_map told (take (i + 1) xs) ≡ flat_map told (take i xs) ++ told (get_or xs i x)
  told_more i x within =
      ap (flat_map told) (take_more xs i x within) ∙ flat_map-append told (take i xs) (get_or xs i x ∷ [])
      ∙ ap (λ es. flat_map told (take i xs) ++ es) (append-nil (told (get_or xs i x)))

  pub kept_made :
      (i : ℕ) (x : A) (before now : Option (List B)) (one : Option B) → i < length xs → MadeUnlessTold (flat_map told (take i xs)) (map form (take i xs)) before
      → MadeUnlessTold (told (get_or xs i x)) (form (get_or xs i x)) one → now ≡ kept_with before one → MadeUnlessTold (flat_map told (take (i + 1) xs)) (map form (take (i + 1) xs)) now
  kept_made i x before now one within made more is = λ none.
      let parts = none_of (flat_map told (take i xs)) (told (get_or xs i x)) (sym (told_more i x within) ∙ none) in
      is ∙ ap (λ b. kept_with b one) (made parts.0) ∙ ap (kept_with (Some (map form (take i xs)))) (more parts.1) ∙ ap (λ ys. Some ys) (sym (map_more form xs i x within))

-- what is made of two parts, where the second may have no form
with_form : {A B C : Type 0} (whole : A → B → C) (x : A) (form : Option B) → option_map (λ p. whole p.0 p.1) (paired (Some x) form) ≡ option_map (whole x) form
with_form whole x (Some y) = refl
with_form whole x None = refl

pub both_made :
    {A B C : Type 0} (whole : A → B → C) (x : A) (form : Option B) (first : Option A) (second : Option B) (fs ss : List LoweringError) → MadeUnlessTold fs x first → GivenUnlessTold ss form second
    → GivenUnlessTold (fs ++ ss) (option_map (whole x) form) (option_map (λ p. whole p.0 p.1) (paired first second))
both_made whole x form first second fs ss one other = λ none.
    let parts = none_of fs ss none in
    ap (λ a. option_map (λ p. whole p.0 p.1) (paired a second)) (one parts.0) ∙ ap (λ b. option_map (λ p. whole p.0 p.1) (paired (Some x) b)) (other parts.1)
    ∙ with_form whole x form
