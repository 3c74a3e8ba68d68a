-- An argument includes nothing exactly where it is a bad one, and where it does, the last location counts.
use Rattle.std.proofs.Common.{◌≡◌, ◌⊎◌, ◌↔◌, inl, inr, ℕ, List, [], ◌∷◌, ◌++◌, codes, Bool, true, false, cond, Option, Some, None, refl, sym, ap, ◌∙◌, subst}
use Rattle.std.specs.List.{Contains}
use Rattle.std.specs.Str.{bytes_eq}
use Rattle.std.proofs.lemmas.Slice.Eq.{bytes_eq-Decides}
use Rattle.bridge_telling.proofs.ExactLemmas.{in_cases, in_first, in_none, in_rest}
use Rattle.bridge_decl.specs.declared.attrs.Assign.{Assign}
use Rattle.bridge_decl.specs.declared.attrs.Lit.{Lit}
use Rattle.bridge_decl.specs.declared.attrs.Lit.TheVariants as lit
use Rattle.bridge_decl.specs.declared.attrs.MetaValue.{MetaValue}
use Rattle.bridge_decl.specs.declared.attrs.MetaValue.TheVariants.{Empty, Literal, Assignments}
use Rattle.hir_attrs.specs.Includes.{include_of, location_named, location_word, no_parts, pair_by, pair_if, parts_from, with_literal, with_location, with_next, with_part, with_source, with_text}
use Rattle.hir_attrs.specs.declared.includes.IncludeLocation.{IncludeLocation}
use Rattle.hir_attrs.specs.declared.includes.IncludeSource.{IncludeSource}
use Rattle.hir_attrs.specs.declared.includes.IncludeSource.TheVariants as source
use Rattle.hir_attrs.specs.declared.includes.Parts.{Parts}
use Rattle.hir_mark_rules.specs.rules.BadInclude.{IsBadInclude, IsNoPart}
use Rattle.hir_mark_rules.specs.rules.IncludeRepeated.{IsLastLocation}
use Rattle.hir_mark_rules.proofs.NameLemmas.{location_called, named_location, no_location_called, location_absent}

-- ---- one assignment: a location, code, or no part

data PartCase (assign : Assign) : Type 0 where
  is_location : (it : IncludeLocation) → assign.name ≡ codes "location" → assign.value ≡ lit.Str (location_word it) → PartCase assign
  is_source : (text : List ℕ) → assign.name ≡ codes "source" → assign.value ≡ lit.Str text → PartCase assign
  is_file : (text : List ℕ) → assign.name ≡ codes "file" → assign.value ≡ lit.Str text → PartCase assign
  is_none : IsNoPart assign → PartCase assign

same : (a b : List ℕ) → bytes_eq a b ≡ true → a ≡ b
same a b h = (bytes_eq-Decides a b).0 h

differs : (a b : List ℕ) → bytes_eq a b ≡ false → ¬ (a ≡ b)
differs a b h is = let there : bytes_eq a b ≡ true = (bytes_eq-Decides a b).1 is in cc (there, h)

location_case : (assign : Assign) (text : List ℕ) (found : Option IncludeLocation) → location_named text ≡ found → assign.name ≡ codes "location" → assign.value ≡ lit.Str text → PartCase assign
location_case assign text (Some it) is named given = PartCase.is_location it named (given ∙ ap lit.Str (location_called text it is))
location_case assign text None is named given = PartCase.is_none (IsNoPart.unknown_location text named given (no_location_called text is))

file_case : (assign : Assign) (text : List ℕ) (b : Bool) → bytes_eq assign.name (codes "file") ≡ b → ¬ (assign.name ≡ codes "location") → ¬ (assign.name ≡ codes "source") → assign.value ≡ lit.Str text → PartCase assign
file_case assign text true is no_location no_source given = PartCase.is_file text (same assign.name (codes "file") is) given
file_case assign text false is no_location no_source given = PartCase.is_none (IsNoPart.other_name no_location no_source (differs assign.name (codes "file") is))

source_case : (assign : Assign) (text : List ℕ) (b : Bool) → bytes_eq assign.name (codes "source") ≡ b → ¬ (assign.name ≡ codes "location") → assign.value ≡ lit.Str text → PartCase assign
source_case assign text true is no_location given = PartCase.is_source text (same assign.name (codes "source") is) given
source_case assign text false is no_location given = file_case assign text (bytes_eq assign.name (codes "file")) refl no_location (differs assign.name (codes "source") is) given

text_case : (assign : Assign) (text : List ℕ) (b : Bool) → bytes_eq assign.name (codes "location") ≡ b → assign.value ≡ lit.Str text → PartCase assign
text_case assign text true is given = location_case assign text (location_named text) refl (same assign.name (codes "location") is) given
text_case assign text false is given = source_case assign text (bytes_eq assign.name (codes "source")) refl (differs assign.name (codes "location") is) given

no_text : (assign : Assign) (value : Lit) → assign.value ≡ value → ((text : List ℕ) → ¬ (value ≡ lit.Str text)) → PartCase assign
no_text assign value is other = PartCase.is_none (IsNoPart.no_string (λ text given. other text (sym is ∙ given)))

literal_case : (assign : Assign) (value : Lit) → assign.value ≡ value → PartCase assign
literal_case assign (lit.Str text) is = text_case assign text (bytes_eq assign.name (codes "location")) refl is
literal_case assign (lit.Bool b) is = no_text assign (lit.Bool b) is (λ text h. cc)
literal_case assign (lit.Char c) is = no_text assign (lit.Char c) is (λ text h. cc)
literal_case assign (lit.Byte b) is = no_text assign (lit.Byte b) is (λ text h. cc)
literal_case assign (lit.Int digits) is = no_text assign (lit.Int digits) is (λ text h. cc)
literal_case assign lit.Float is = no_text assign lit.Float is (λ text h. cc)
literal_case assign lit.Other is = no_text assign lit.Other is (λ text h. cc)

part_case : (assign : Assign) → PartCase assign
part_case assign = literal_case assign assign.value refl

-- ---- what each comes to

gives : (parts : Parts) (assign : Assign) (name text : List ℕ) → assign.name ≡ name → assign.value ≡ lit.Str text → with_part parts assign ≡ with_text parts name text
gives parts assign name text named given = ap (λ n. with_literal parts n assign.value) named ∙ ap (λ v. with_literal parts name v) given

gives_location : (parts : Parts) (assign : Assign) (it : IncludeLocation) → assign.name ≡ codes "location" → assign.value ≡ lit.Str (location_word it) → with_part parts assign ≡ Some (record { location = Some it; source = parts.source })
gives_location parts assign it named given = gives parts assign (codes "location") (location_word it) named given ∙ ap (with_location parts) (named_location it)

gives_source : (parts : Parts) (assign : Assign) (text : List ℕ) → assign.name ≡ codes "source" → assign.value ≡ lit.Str text → with_part parts assign ≡ Some (record { location = parts.location; source = Some (source.Source text) })
gives_source parts assign text named given = gives parts assign (codes "source") text named given

gives_file : (parts : Parts) (assign : Assign) (text : List ℕ) → assign.name ≡ codes "file" → assign.value ≡ lit.Str text → with_part parts assign ≡ Some (record { location = parts.location; source = Some (source.File text) })
gives_file parts assign text named given = gives parts assign (codes "file") text named given

other_if : (a b : List ℕ) (t : Bool) → bytes_eq a b ≡ t → ¬ (a ≡ b) → t ≡ false
other_if a b true is h = absurd (h (same a b is))
other_if a b false is h = refl

other : (a b : List ℕ) → ¬ (a ≡ b) → bytes_eq a b ≡ false
other a b h = other_if a b (bytes_eq a b) refl h

none_by_name : (parts : Parts) (name : List ℕ) (value : Lit) → bytes_eq name (codes "location") ≡ false → bytes_eq name (codes "source") ≡ false → bytes_eq name (codes "file") ≡ false → with_literal parts name value ≡ None
none_by_name parts name (lit.Str text) no_location no_source no_file =
    ap (λ b. cond b (with_location parts (location_named text)) (cond (bytes_eq name (codes "source")) (with_source parts (source.Source text)) (cond (bytes_eq name (codes "file")) (with_source parts (source.File text)) None))) no_location
    ∙ ap (λ b. cond b (with_source parts (source.Source text)) (cond (bytes_eq name (codes "file")) (with_source parts (source.File text)) None)) no_source
    ∙ ap (λ b. cond b (with_source parts (source.File text)) None) no_file
none_by_name parts name (lit.Bool b) no_location no_source no_file = refl
none_by_name parts name (lit.Char c) no_location no_source no_file = refl
none_by_name parts name (lit.Byte b) no_location no_source no_file = refl
none_by_name parts name (lit.Int digits) no_location no_source no_file = refl
none_by_name parts name lit.Float no_location no_source no_file = refl
none_by_name parts name lit.Other no_location no_source no_file = refl

none_by_value : (parts : Parts) (name : List ℕ) (value : Lit) → ((text : List ℕ) → ¬ (value ≡ lit.Str text)) → with_literal parts name value ≡ None
none_by_value parts name (lit.Str text) h = absurd (h text refl)
none_by_value parts name (lit.Bool b) h = refl
none_by_value parts name (lit.Char c) h = refl
none_by_value parts name (lit.Byte b) h = refl
none_by_value parts name (lit.Int digits) h = refl
none_by_value parts name lit.Float h = refl
none_by_value parts name lit.Other h = refl

gives_none : (parts : Parts) (assign : Assign) → IsNoPart assign → with_part parts assign ≡ None
gives_none parts assign (IsNoPart.other_name no_location no_source no_file) = none_by_name parts assign.name assign.value (other assign.name (codes "location") no_location) (other assign.name (codes "source") no_source) (other assign.name (codes "file") no_file)
gives_none parts assign (IsNoPart.no_string h) = none_by_value parts assign.name assign.value h
gives_none parts assign (IsNoPart.unknown_location text named given h) = gives parts assign (codes "location") text named given ∙ ap (with_location parts) (location_absent text h)

-- ---- a list of them

none_stays : (assigns : List Assign) → parts_from None assigns ≡ None
none_stays [] = refl
none_stays (assign ∷ assigns) = none_stays assigns

drops : (parts : Option Parts) (assign : Assign) → IsNoPart assign → with_next parts assign ≡ None
drops None assign h = refl
drops (Some parts) assign h = gives_none parts assign h

-- with what is no part among them, nothing is given
no_part_none : (parts : Option Parts) (assigns : List Assign) (assign : Assign) → Contains assigns assign → IsNoPart assign → parts_from parts assigns ≡ None
no_part_none parts [] assign in' no_part = absurd (in_none assign in')
no_part_none parts (first ∷ assigns) assign in' no_part = elim (in_cases first assigns assign in') [
  | inl is ↦ ap (λ p. parts_from p assigns) (drops parts first (subst IsNoPart is no_part)) ∙ none_stays assigns
  | inr more ↦ no_part_none (with_next parts first) assigns assign more no_part
]

-- where nothing is given, there is one among them
part_missing : (parts : Parts) (assigns : List Assign) → parts_from (Some parts) assigns ≡ None → (assign : Assign) × (Contains assigns assign × IsNoPart assign)
part_missing parts [] h = cc
part_missing parts (first ∷ assigns) h = elim (part_case first) [
  | is_location it named given ↦ (let more = part_missing (record { location = Some it; source = parts.source }) assigns (ap (λ p. parts_from p assigns) (sym (gives_location parts first it named given)) ∙ h) in (more.0, (in_rest first assigns more.0 more.1.0, more.1.1)))
  | is_source text named given ↦ (let more = part_missing (record { location = parts.location; source = Some (source.Source text) }) assigns (ap (λ p. parts_from p assigns) (sym (gives_source parts first text named given)) ∙ h) in (more.0, (in_rest first assigns more.0 more.1.0, more.1.1)))
  | is_file text named given ↦ (let more = part_missing (record { location = parts.location; source = Some (source.File text) }) assigns (ap (λ p. parts_from p assigns) (sym (gives_file parts first text named given)) ∙ h) in (more.0, (in_rest first assigns more.0 more.1.0, more.1.1)))
  | is_none no_part ↦ (first, (in_first first assigns, no_part))
]

-- the parts after the first of a list that gives some
some_next : (next : Option Parts) (assigns : List Assign) (whole : Parts) → parts_from next assigns ≡ Some whole → (parts : Parts) × ((next ≡ Some parts) × (parts_from (Some parts) assigns ≡ Some whole))
some_next None assigns whole h = let none : parts_from None assigns ≡ None = none_stays assigns in cc (none, h)
some_next (Some parts) assigns whole h = (parts, (refl, h))

-- ---- which location they give

abbrev AreElsewhere : List ℕ → List Assign → Type 0
AreElsewhere name assigns = (assign : Assign) → Contains assigns assign → ¬ (assign.name ≡ name)

elsewhere_more : (name : List ℕ) (first : Assign) (assigns : List Assign) → ¬ (first.name ≡ name) → AreElsewhere name assigns → AreElsewhere name (first ∷ assigns)
elsewhere_more name first assigns here there assign in' is = elim (in_cases first assigns assign in') [
  | inl same_one ↦ here (subst (λ (a : Assign). a.name ≡ name) same_one is)
  | inr more ↦ there assign more is
]

named_else : (first : Assign) (name word : List ℕ) → first.name ≡ name → bytes_eq name word ≡ false → ¬ (first.name ≡ word)
named_else first name word named else_ is = differs name word else_ (sym named ∙ is)

-- the last location of a list
record LastIn (assigns : List Assign) (it : IncludeLocation) : Type 0 where
  before : List Assign
  last : Assign
  after : List Assign
  listed : assigns ≡ before ++ last ∷ after
  called : last.name ≡ codes "location"
  gives : last.value ≡ lit.Str (location_word it)
  none_after : AreElsewhere (codes "location") after

-- either none, and that before them stands, or the last
abbrev LocationFrom : Parts → Parts → List Assign → Type 0
LocationFrom parts whole assigns = (AreElsewhere (codes "location") assigns × (whole.location ≡ parts.location)) ⊎ ((it : IncludeLocation) × (LastIn assigns it × (whole.location ≡ Some it)))

last_more : (first : Assign) (assigns : List Assign) (it : IncludeLocation) → LastIn assigns it → LastIn (first ∷ assigns) it
last_more first assigns it l = record { before = first ∷ l.before; last = l.last; after = l.after; listed = ap (λ rest. first ∷ rest) l.listed; called = l.called; gives = l.gives; none_after = l.none_after }

after_location : (parts next whole : Parts) (first : Assign) (assigns : List Assign) (it : IncludeLocation) → first.name ≡ codes "location" → first.value ≡ lit.Str (location_word it) → next.location ≡ Some it → LocationFrom next whole assigns → LocationFrom parts whole (first ∷ assigns)
after_location parts next whole first assigns it named given gives_it (inl none) = inr (it, (record { before = []; last = first; after = assigns; listed = refl; called = named; gives = given; none_after = none.0 }, none.1 ∙ gives_it))
after_location parts next whole first assigns it named given gives_it (inr last) = inr (last.0, (last_more first assigns last.0 last.1.0, last.1.1))

after_other : (parts next whole : Parts) (first : Assign) (assigns : List Assign) → ¬ (first.name ≡ codes "location") → next.location ≡ parts.location → LocationFrom next whole assigns → LocationFrom parts whole (first ∷ assigns)
after_other parts next whole first assigns else_ kept (inl none) = inl (elsewhere_more (codes "location") first assigns else_ none.0, none.1 ∙ kept)
after_other parts next whole first assigns else_ kept (inr last) = inr (last.0, (last_more first assigns last.0 last.1.0, last.1.1))

location_from : (parts whole : Parts) (assigns : List Assign) → parts_from (Some parts) assigns ≡ Some whole → LocationFrom parts whole assigns
location_from parts whole [] h = inl (λ assign in' is. absurd (in_none assign in'), cc)
location_from parts whole (first ∷ assigns) h = elim (part_case first) [
  | is_location it named given ↦ (let next : Parts = record { location = Some it; source = parts.source } in after_location parts next whole first assigns it named given refl (location_from next whole assigns (ap (λ p. parts_from p assigns) (sym (gives_location parts first it named given)) ∙ h)))
  | is_source text named given ↦ (let next : Parts = record { location = parts.location; source = Some (source.Source text) } in after_other parts next whole first assigns (named_else first (codes "source") (codes "location") named refl) refl (location_from next whole assigns (ap (λ p. parts_from p assigns) (sym (gives_source parts first text named given)) ∙ h)))
  | is_file text named given ↦ (let next : Parts = record { location = parts.location; source = Some (source.File text) } in after_other parts next whole first assigns (named_else first (codes "file") (codes "location") named refl) refl (location_from next whole assigns (ap (λ p. parts_from p assigns) (sym (gives_file parts first text named given)) ∙ h)))
  | is_none no_part ↦ (let none : parts_from (Some parts) (first ∷ assigns) ≡ None = no_part_none (Some parts) (first ∷ assigns) first (in_first first assigns) no_part in cc (none, h))
]

in_later : (before : List Assign) (it : Assign) (after : List Assign) → Contains (before ++ it ∷ after) it
in_later [] it after = in_first it after
in_later (first ∷ before) it after = in_rest first (before ++ it ∷ after) it (in_later before it after)

none_lasts : (assigns : List Assign) (it : IncludeLocation) → LastIn assigns it → ¬ AreElsewhere (codes "location") assigns
none_lasts assigns it l none = none l.last (subst (λ xs. Contains xs l.last) (sym l.listed) (in_later l.before l.last l.after)) l.called

-- the last location is the one that is given
gives_last : (before : List Assign) (last : Assign) (after : List Assign) (it : IncludeLocation) (parts whole : Parts) → last.name ≡ codes "location" → last.value ≡ lit.Str (location_word it) → AreElsewhere (codes "location") after → parts_from (Some parts) (before ++ last ∷ after) ≡ Some whole → whole.location ≡ Some it
gives_last [] last after it parts whole named given none h = elim (location_from (record { location = Some it; source = parts.source }) whole after (ap (λ p. parts_from p after) (sym (gives_location parts last it named given)) ∙ h)) [
  | inl kept ↦ kept.1
  | inr later ↦ absurd (none_lasts after later.0 later.1.0 none)
]
gives_last (first ∷ before) last after it parts whole named given none h = let next = some_next (with_part parts first) (before ++ last ∷ after) whole h in gives_last before last after it next.0 whole named given none next.1.1

-- ---- whether they give code

abbrev AreNoCode : List Assign → Type 0
AreNoCode assigns = (assign : Assign) → Contains assigns assign → (¬ (assign.name ≡ codes "source")) × (¬ (assign.name ≡ codes "file"))

no_code_more : (first : Assign) (assigns : List Assign) → ¬ (first.name ≡ codes "source") → ¬ (first.name ≡ codes "file") → AreNoCode assigns → AreNoCode (first ∷ assigns)
no_code_more first assigns no_source no_file there assign in' = elim (in_cases first assigns assign in') [
  | inl same_one ↦ subst (λ (a : Assign). (¬ (a.name ≡ codes "source")) × (¬ (a.name ≡ codes "file"))) (sym same_one) (no_source, no_file)
  | inr more ↦ there assign more
]

codeless : (parts whole : Parts) (assigns : List Assign) → parts_from (Some parts) assigns ≡ Some whole → whole.source ≡ None → (parts.source ≡ None) × AreNoCode assigns
codeless parts whole [] h none = (cc, λ assign in'. absurd (in_none assign in'))
codeless parts whole (first ∷ assigns) h none = elim (part_case first) [
  | is_location it named given ↦ (let more = codeless (record { location = Some it; source = parts.source }) whole assigns (ap (λ p. parts_from p assigns) (sym (gives_location parts first it named given)) ∙ h) none in (more.0, no_code_more first assigns (named_else first (codes "location") (codes "source") named refl) (named_else first (codes "location") (codes "file") named refl) more.1))
  | is_source text named given ↦ (let more = codeless (record { location = parts.location; source = Some (source.Source text) }) whole assigns (ap (λ p. parts_from p assigns) (sym (gives_source parts first text named given)) ∙ h) none in cc (more.0))
  | is_file text named given ↦ (let more = codeless (record { location = parts.location; source = Some (source.File text) }) whole assigns (ap (λ p. parts_from p assigns) (sym (gives_file parts first text named given)) ∙ h) none in cc (more.0))
  | is_none no_part ↦ (let nothing : parts_from (Some parts) (first ∷ assigns) ≡ None = no_part_none (Some parts) (first ∷ assigns) first (in_first first assigns) no_part in cc (nothing, h))
]

-- without code no part of them is
kept_code : (parts whole : Parts) (assigns : List Assign) → AreNoCode assigns → parts_from (Some parts) assigns ≡ Some whole → whole.source ≡ parts.source
kept_code parts whole [] none h = cc
kept_code parts whole (first ∷ assigns) none h = elim (part_case first) [
  | is_location it named given ↦ kept_code (record { location = Some it; source = parts.source }) whole assigns (λ assign in'. none assign (in_rest first assigns assign in')) (ap (λ p. parts_from p assigns) (sym (gives_location parts first it named given)) ∙ h)
  | is_source text named given ↦ absurd ((none first (in_first first assigns)).0 named)
  | is_file text named given ↦ absurd ((none first (in_first first assigns)).1 named)
  | is_none no_part ↦ (let nothing : parts_from (Some parts) (first ∷ assigns) ≡ None = no_part_none (Some parts) (first ∷ assigns) first (in_first first assigns) no_part in cc (nothing, h))
]

-- ---- what an argument includes

one_missing : (it : Option IncludeLocation) (code : Option IncludeSource) → pair_by it code ≡ None → (it ≡ None) ⊎ (code ≡ None)
one_missing None code h = inl refl
one_missing (Some it) None h = inr refl
one_missing (Some it) (Some code) h = cc

bad_list : (assigns : List Assign) (parts : Option Parts) → parts_from (Some no_parts) assigns ≡ parts → pair_if parts ≡ None → IsBadInclude (Assignments assigns)
bad_list assigns None is h = let found = part_missing no_parts assigns is in IsBadInclude.no_part assigns found.0 refl found.1.0 found.1.1
bad_list assigns (Some whole) is h = elim (one_missing whole.location whole.source h) [
  | inl unplaced ↦ elim (location_from no_parts whole assigns is) [
    | inl none ↦ IsBadInclude.no_location assigns refl none.0
    | inr last ↦ (let given : whole.location ≡ Some last.0 = last.1.1 in cc (given, unplaced))
  ]
  | inr uncoded ↦ IsBadInclude.no_source assigns refl (codeless no_parts whole assigns is uncoded).1
]

pub bad_include : (value : MetaValue) → include_of value ≡ None → IsBadInclude value
bad_include Empty h = IsBadInclude.no_list (λ assigns is. cc)
bad_include (Literal literal) h = IsBadInclude.no_list (λ assigns is. cc)
bad_include (Assignments assigns) h = bad_list assigns (parts_from (Some no_parts) assigns) refl h

no_list_none : (value : MetaValue) → ((assigns : List Assign) → ¬ (value ≡ Assignments assigns)) → include_of value ≡ None
no_list_none Empty h = refl
no_list_none (Literal literal) h = refl
no_list_none (Assignments assigns) h = absurd (h assigns refl)

unplaced_none : (assigns : List Assign) (parts : Option Parts) → parts_from (Some no_parts) assigns ≡ parts → AreElsewhere (codes "location") assigns → pair_if parts ≡ None
unplaced_none assigns None is none = refl
unplaced_none assigns (Some whole) is none = elim (location_from no_parts whole assigns is) [
  | inl kept ↦ ap (λ it. pair_by it whole.source) kept.1
  | inr last ↦ absurd (none_lasts assigns last.0 last.1.0 none)
]

pair_uncoded : (it : Option IncludeLocation) → pair_by it None ≡ None
pair_uncoded None = refl
pair_uncoded (Some it) = refl

uncoded_none : (assigns : List Assign) (parts : Option Parts) → parts_from (Some no_parts) assigns ≡ parts → AreNoCode assigns → pair_if parts ≡ None
uncoded_none assigns None is none = refl
uncoded_none assigns (Some whole) is none = ap (λ code. pair_by whole.location code) (kept_code no_parts whole assigns none is) ∙ pair_uncoded whole.location

pub no_include : (value : MetaValue) → IsBadInclude value → include_of value ≡ None
no_include value (IsBadInclude.no_list h) = no_list_none value h
no_include value (IsBadInclude.empty_list is) = ap include_of is
no_include value (IsBadInclude.no_part assigns assign is in' no_part) = ap include_of is ∙ ap pair_if (no_part_none (Some no_parts) assigns assign in' no_part)
no_include value (IsBadInclude.no_location assigns is none) = ap include_of is ∙ unplaced_none assigns (parts_from (Some no_parts) assigns) refl none
no_include value (IsBadInclude.no_source assigns is none) = ap include_of is ∙ uncoded_none assigns (parts_from (Some no_parts) assigns) refl none

-- an argument includes nothing exactly where it is a bad one
pub includes_exactly : (value : MetaValue) → (include_of value ≡ None) ↔ IsBadInclude value
includes_exactly value = (bad_include value, no_include value)

some_same : {X : Type 0} (x y : X) → Some x ≡ Some y → x ≡ y
some_same x y h = cc

abbrev place_in : Option (IncludeLocation × IncludeSource) → Option IncludeLocation
place_in None = None
place_in (Some pair) = Some pair.0

both_there : (it : Option IncludeLocation) (code : Option IncludeSource) (pair : IncludeLocation × IncludeSource) → pair_by it code ≡ Some pair → it ≡ Some pair.0
both_there None code pair h = cc
both_there (Some it) None pair h = cc
both_there (Some it) (Some code) pair h = ap (λ (p : Option (IncludeLocation × IncludeSource)). place_in p) h

last_of : (assigns : List Assign) (parts : Option Parts) (pair : IncludeLocation × IncludeSource) → parts_from (Some no_parts) assigns ≡ parts → pair_if parts ≡ Some pair → (whole : Parts) × ((parts_from (Some no_parts) assigns ≡ Some whole) × (whole.location ≡ Some pair.0))
last_of assigns None pair is h = cc
last_of assigns (Some whole) pair is h = (whole, (is, both_there whole.location whole.source pair h))

last_value : (value : MetaValue) (pair : IncludeLocation × IncludeSource) → include_of value ≡ Some pair → (assigns : List Assign) × ((value ≡ Assignments assigns) × ((whole : Parts) × ((parts_from (Some no_parts) assigns ≡ Some whole) × (whole.location ≡ Some pair.0))))
last_value Empty pair h = cc
last_value (Literal literal) pair h = cc
last_value (Assignments assigns) pair h = (assigns, (refl, last_of assigns (parts_from (Some no_parts) assigns) pair refl h))

last_found : (value : MetaValue) (pair : IncludeLocation × IncludeSource) → ((assigns : List Assign) × ((value ≡ Assignments assigns) × ((whole : Parts) × ((parts_from (Some no_parts) assigns ≡ Some whole) × (whole.location ≡ Some pair.0))))) → IsLastLocation value pair.0
last_found value pair f = elim (location_from no_parts f.1.1.0 f.0 f.1.1.1.0) [
  | inl none ↦ (let given : f.1.1.0.location ≡ Some pair.0 = f.1.1.1.1 in cc (given, none.1))
  | inr last ↦ (let l = last.1.0 in let same_one : last.0 ≡ pair.0 = some_same last.0 pair.0 (sym last.1.1 ∙ f.1.1.1.1) in record { before = l.before; last = l.last; after = l.after; listed = f.1.0 ∙ ap Assignments l.listed; called = l.called; gives = l.gives ∙ ap (λ it. lit.Str (location_word it)) same_one; none_after = l.none_after })
]

-- the place of what is included is the last location
pub last_location : (value : MetaValue) (pair : IncludeLocation × IncludeSource) → include_of value ≡ Some pair → IsLastLocation value pair.0
last_location value pair h = last_found value pair (last_value value pair h)

list_of : (xs ys : List Assign) → Assignments xs ≡ Assignments ys → xs ≡ ys
list_of xs ys h = cc

pub only_location : (value : MetaValue) (pair : IncludeLocation × IncludeSource) (it : IncludeLocation) → include_of value ≡ Some pair → IsLastLocation value it → pair.0 ≡ it
only_location value pair it h l = let f = last_value value pair h in
    some_same pair.0 it (sym f.1.1.1.1 ∙ gives_last l.before l.last l.after it no_parts f.1.1.0 l.called l.gives l.none_after (ap (λ assigns. parts_from (Some no_parts) assigns) (list_of (l.before ++ l.last ∷ l.after) f.0 (sym l.listed ∙ f.1.0)) ∙ f.1.1.1.0))
