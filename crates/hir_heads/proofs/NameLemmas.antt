-- The test of identifiers decides what `IsIdent` says.
use Rattle.std.proofs.Common.{◌≡◌, ℕ, List, [], ◌∷◌, ◌++◌, Bool, true, false, refl, sym, ap, subst, ◌∙◌}
use Rattle.std.specs.Prelude.{◌&&◌, ◌||◌, ◌==◌, not, codes, take, drop, All, Contains, IsTrue, if◌then◌else◌}
use Rattle.std.specs.Bool.{Decides}
use Rattle.std.specs.Cmp.{unsigned_Decides}
use Rattle.std.specs.Cmp.Lexicographic.{pointwise}
use Rattle.std.specs.List.{list_all, list_any}
use Rattle.std.specs.Str.{chars}
use Rattle.std.proofs.lemmas.Bool.Decides.{Decides-and, Decides-by_and, Decides-by_or, Decides-like, Decides-not, Decides-or}
use Rattle.std.proofs.lemmas.List.Elements.{Decides-contains}
use Rattle.std.proofs.lemmas.Slice.Eq.{slice_eq-Decides}
use Rattle.unicode_ident.specs.Ident.{is_xid_start, is_xid_continue}
use Rattle.bridge_decl.specs.declared.lifetimes.LifetimeNode.{LifetimeNode}
use Rattle.std.specs.List.{AllByRecursion, flat_map}
use Rattle.std.proofs.lemmas.List.Elements.{All-from_recursion}
use Rattle.bridge_text.specs.Ident.{HasShape, IsIdent, IsPlain, IsRaw, MayBeRaw, MayStart, path_words, reserved_words, underscore}
use Rattle.hir_attrs.specs.Reading.{about}
use Rattle.hir_reports.specs.declared.report.LoweringError.{LoweringError}
use Rattle.hir_reports.specs.declared.rule.Rule.TheVariants as rule
use Rattle.hir_heads.specs.Names.{has_shape, is_ident, is_word_of, is_plain, is_raw, may_be_raw, name_errors}

-- a flag decides whether it is set
flag : (b : Bool) → Decides b (IsTrue b)
flag b = (λ e. e, λ e. e)

same_text : (a b : List ℕ) → Decides (pointwise ◌==◌ a b) (a ≡ b)
same_text a b = slice_eq-Decides unsigned_Decides a b (pointwise ◌==◌ a b) refl

one_of : (words : List (List ℕ)) (text : List ℕ) → Decides (is_word_of words text) (Contains words text)
one_of words text =
    Decides-contains words text (is_word_of words text)
    (Decides-by_or (λ word. pointwise ◌==◌ word text) (λ word. word ≡ text) (list_any (λ word. pointwise ◌==◌ word text)) (λ word. same_text word text) refl (λ _ _. refl) words)

starts : (c : ℕ) → Decides (is_xid_start c || c == underscore) (MayStart c)
starts c = Decides-or (is_xid_start c) (c == underscore) (flag (is_xid_start c)) (unsigned_Decides c underscore)

goes_on : (cs : List ℕ) → Decides (list_all is_xid_continue cs) (All (λ d. IsTrue (is_xid_continue d)) cs)
goes_on cs = Decides-by_and is_xid_continue (λ d. IsTrue (is_xid_continue d)) (list_all is_xid_continue) (λ d. flag (is_xid_continue d)) refl (λ _ _. refl) cs

shaped : (cs : List ℕ) → Decides (has_shape cs) (HasShape cs)
shaped [] = (λ e. absurd cc, λ h. absurd h)
shaped (c ∷ cs) = Decides-and (is_xid_start c || c == underscore) (list_all is_xid_continue cs) (starts c) (goes_on cs)

plain : (text : List ℕ) → Decides (is_plain text) (IsPlain text)
plain text =
    Decides-like (is_plain text) (λ h. record { shape = h.0; not_underscore = h.1.0; not_reserved = h.1.1 }) (λ h. (h.shape, (h.not_underscore, h.not_reserved)))
    (Decides-and (has_shape (chars text)) (not (pointwise ◌==◌ text (codes "_")) && not (is_word_of reserved_words text)) (shaped (chars text))
    (Decides-and (not (pointwise ◌==◌ text (codes "_"))) (not (is_word_of reserved_words text))
    (Decides-not (pointwise ◌==◌ text (codes "_")) (same_text text (codes "_"))) (Decides-not (is_word_of reserved_words text) (one_of reserved_words text))))

follows_raw : (name : List ℕ) → Decides (may_be_raw name) (MayBeRaw name)
follows_raw name =
    Decides-or (is_plain name) (is_word_of reserved_words name && not (is_word_of path_words name)) (plain name)
    (Decides-and (is_word_of reserved_words name) (not (is_word_of path_words name)) (one_of reserved_words name) (Decides-not (is_word_of path_words name) (one_of path_words name)))

-- what stands after `r#`
take_raw : (text name : List ℕ) → text ≡ codes "r#" ++ name → take 2 text ≡ codes "r#"
take_raw text name h = ap (take 2) h

drop_raw : (text name : List ℕ) → text ≡ codes "r#" ++ name → drop 2 text ≡ name
drop_raw text name h = ap (drop 2) h

parts : (text : List ℕ) → text ≡ take 2 text ++ drop 2 text
parts [] = refl
parts (a ∷ []) = refl
parts (a ∷ b ∷ rest) = refl

raw : (text : List ℕ) → Decides (is_raw text) (IsRaw text)
raw text =
    Decides-like (is_raw text) (λ h. (drop 2 text, parts text ∙ ap (λ front. front ++ drop 2 text) h.0, h.1))
    (λ h. (take_raw text h.0 h.1, subst MayBeRaw (sym (drop_raw text h.0 h.1)) h.2))
    (Decides-and (pointwise ◌==◌ (take 2 text) (codes "r#")) (may_be_raw (drop 2 text)) (same_text (take 2 text) (codes "r#")) (follows_raw (drop 2 text)))

-- the test decides
pub ident_decided : (text : List ℕ) → Decides (is_ident text) (IsIdent text)
unfolding is_ident IsIdent
ident_decided text = Decides-or (is_plain text) (is_raw text) (plain text) (raw text)

-- so an identifier is told nothing of, and any other name once
pub named : (text : List ℕ) → IsIdent text → name_errors text ≡ []
unfolding name_errors
named text is = ap (λ (b : Bool). if b then [] else about rule.BadIdent text ∷ []) ((ident_decided text).1 is)

misnamed : (b : Bool) (text : List ℕ) → Decides b (IsIdent text) → ¬ (IsIdent text) → (if b then [] else about rule.BadIdent text ∷ []) ≡ about rule.BadIdent text ∷ []
misnamed true text d other = absurd (other (d.0 refl))
misnamed false text d other = refl

pub unnamed : (text : List ℕ) → ¬ (IsIdent text) → name_errors text ≡ about rule.BadIdent text ∷ []
unfolding name_errors
unnamed text other = misnamed (is_ident text) text (ident_decided text) other

some_told : (e : LoweringError) → e ∷ [] ≡ [] → ⊥
some_told e h = absurd cc

-- where nothing is told of a name, it isn't another
pub told_other : (text : List ℕ) → ¬ (IsIdent text) → name_errors text ≡ [] → ⊥
told_other text other h = some_told (about rule.BadIdent text) (sym (unnamed text other) ∙ h)

-- where nothing is told of a name, it is an identifier
decided_by : (b : Bool) (text : List ℕ) → Decides b (IsIdent text) → (if b then [] else about rule.BadIdent text ∷ []) ≡ [] → IsIdent text
decided_by true text d h = d.0 refl
decided_by false text d h = absurd (some_told (about rule.BadIdent text) h)

pub told_nothing : (text : List ℕ) → name_errors text ≡ [] → IsIdent text
unfolding name_errors
told_nothing text h = decided_by (is_ident text) text (ident_decided text) h

-- where two lists together have nothing, neither has
front_none : {A : Type 0} (xs ys : List A) → xs ++ ys ≡ [] → xs ≡ []
front_none [] ys h = refl
front_none (x ∷ xs) ys h = absurd cc

back_none : {A : Type 0} (xs ys : List A) → xs ++ ys ≡ [] → ys ≡ []
back_none [] ys h = h
back_none (x ∷ xs) ys h = absurd cc

each_ident : (nodes : List LifetimeNode) → flat_map (λ node. name_errors node.name) nodes ≡ [] → AllByRecursion (λ node. IsIdent node.name) nodes
each_ident [] h = tt
each_ident (node ∷ nodes) h = (
  told_nothing node.name (front_none (name_errors node.name) (flat_map (λ n. name_errors n.name) nodes) h),
  each_ident nodes (back_none (name_errors node.name) (flat_map (λ n. name_errors n.name) nodes) h),
)

-- where nothing is told of lifetimes, all have identifiers
pub all_idents : (nodes : List LifetimeNode) → flat_map (λ node. name_errors node.name) nodes ≡ [] → All (λ node. IsIdent node.name) nodes
all_idents nodes h = All-from_recursion (λ node. IsIdent node.name) nodes (each_ident nodes h)
