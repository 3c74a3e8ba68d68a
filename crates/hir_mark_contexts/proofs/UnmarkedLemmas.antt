-- Nothing is told of what has no marks of its own: of an item, which takes some over, and of what begins with none.
use Rattle.std.proofs.Common.{◌≡◌, ℕ, List, [], ◌∷◌, ◌++◌, Bool, true, false, Option, None, if◌then◌else◌, refl, ap, ◌∙◌}
use Rattle.std.specs.Prelude.{◌&&◌, not, is_some}
use Rattle.hir_attrs.specs.Attrs.{empty_attrs}
use Rattle.hir_attrs.specs.Marks.{every_mark, mark_text}
use Rattle.hir_attrs.specs.Reading.{about}
use Rattle.hir_attrs.specs.declared.attrs.Attrs.{Attrs}
use Rattle.hir_attrs.specs.declared.names.MarkName.TheVariants as mark
use Rattle.hir_backends.specs.Backend.{Backend}
use Rattle.hir_reports.specs.declared.report.LoweringError.{LoweringError}
use Rattle.hir_reports.specs.declared.rule.Rule.TheVariants as rule
use Rattle.hir_mark_contexts.specs.Contexts.{allows, is_tested}
use Rattle.hir_mark_contexts.specs.Sets.{has_mark}
use Rattle.hir_mark_contexts.specs.Told.{context_errors, misplaced_marks}
use Rattle.hir_mark_contexts.specs.declared.contexts.MarkContext.{MarkContext}

-- what is allowed isn't told
allowed : (has may : Bool) (errors : List LoweringError) → may ≡ true → (if has && not may then errors else []) ≡ []
allowed true true errors h = refl
allowed true false errors h = cc
allowed false may errors h = refl

three : (xs ys zs : List LoweringError) → xs ≡ [] → ys ≡ [] → zs ≡ [] → xs ++ (ys ++ (zs ++ [])) ≡ []
three xs ys zs h i j = ap (λ l. l ++ (ys ++ (zs ++ []))) h ∙ (ap (λ l. l ++ (zs ++ [])) i ∙ ap (λ l. l ++ []) j)

same_if : (b : Bool) (xs : List LoweringError) → xs ≡ [] → (if b then xs else []) ≡ []
same_if true xs h = h
same_if false xs h = refl

-- a set that has at most what is handed on to items
abbrev pub handed_on : Bool → Bool → Option (List ℕ) → Option (List ℕ) → Option (List ℕ) → Attrs
handed_on disable unstable deprecated namespace rename =
    record empty_attrs { disable = disable; unstable = unstable; deprecated = deprecated; namespace = namespace; rename = rename }

-- where these may stand, none is misplaced
pub handed_on_fine : (context : MarkContext) (disable unstable : Bool) (deprecated namespace rename : Option (List ℕ))
    → allows mark.Disable context ≡ true → allows mark.Rename context ≡ true → allows mark.Namespace context ≡ true
    → misplaced_marks context (handed_on disable unstable deprecated namespace rename) ≡ []
unfolding every_mark has_mark
handed_on_fine context disable unstable deprecated namespace rename h i j =
    three
    (if disable && not (allows mark.Disable context) then about rule.MarkMisplaced (mark_text mark.Disable) ∷ [] else [])
    (if is_some rename && not (allows mark.Rename context) then about rule.MarkMisplaced (mark_text mark.Rename) ∷ [] else [])
    (if is_some namespace && not (allows mark.Namespace context) then about rule.MarkMisplaced (mark_text mark.Namespace) ∷ [] else [])
    (allowed disable (allows mark.Disable context) (about rule.MarkMisplaced (mark_text mark.Disable) ∷ []) h)
    (allowed (is_some rename) (allows mark.Rename context) (about rule.MarkMisplaced (mark_text mark.Rename) ∷ []) i)
    (allowed (is_some namespace) (allows mark.Namespace context) (about rule.MarkMisplaced (mark_text mark.Namespace) ∷ []) j)

-- an empty set breaks nothing anywhere
pub nothing_fine : (context : MarkContext) (unstable : Bool) (deprecated : Option (List ℕ))
    → misplaced_marks context (handed_on false unstable deprecated None None) ≡ []
unfolding every_mark has_mark
nothing_fine context unstable deprecated = refl

pub item_fine : (backend : Backend) (context : MarkContext) (disable unstable : Bool) (deprecated namespace rename : Option (List ℕ))
    → allows mark.Disable context ≡ true → allows mark.Rename context ≡ true → allows mark.Namespace context ≡ true
    → context_errors backend context (handed_on disable unstable deprecated namespace rename) ≡ []
unfolding context_errors has_mark
item_fine backend context disable unstable deprecated namespace rename h i j =
    let told = misplaced_marks context (handed_on disable unstable deprecated namespace rename) in
    same_if (is_tested context (handed_on disable unstable deprecated namespace rename)) (told ++ []) (ap (λ l. l ++ []) (handed_on_fine context disable unstable deprecated namespace rename h i j))

pub part_fine : (backend : Backend) (context : MarkContext) (unstable : Bool) (deprecated : Option (List ℕ))
    → context_errors backend context (handed_on false unstable deprecated None None) ≡ []
unfolding context_errors has_mark
part_fine backend context unstable deprecated =
    let told = misplaced_marks context (handed_on false unstable deprecated None None) in
    same_if (is_tested context (handed_on false unstable deprecated None None)) (told ++ []) (ap (λ l. l ++ []) (nothing_fine context unstable deprecated))
