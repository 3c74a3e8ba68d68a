-- What is told of what declarations have beside their types is what the rules on names, marks and documents say.
use Rattle.std.proofs.Common.{◌≡◌, ◌⊎◌, ℕ, List, [], ◌∷◌, ◌++◌, Bool, true, false, Option, Some, None, if◌then◌else◌, refl, sym, subst}
use Rattle.std.specs.Prelude.{Decides}
use Rattle.std.specs.List.{Contains}
use Rattle.bridge_decl.specs.declared.attrs.Attrs.{Attrs as DeclaredAttrs}
use Rattle.bridge_decl.specs.declared.docs.Docs.{Docs as DeclaredDocs}
use Rattle.bridge_decl.specs.declared.enums.Variant.{Variant}
use Rattle.bridge_decl.specs.declared.lifetimes.LifetimeEnv.{LifetimeEnv}
use Rattle.bridge_decl.specs.declared.methods.Param.{Param}
use Rattle.bridge_decl.specs.declared.methods.SelfParam.{SelfParam}
use Rattle.bridge_decl.specs.declared.structs.Field.{Field}
use Rattle.bridge_text.specs.Ident.{IsIdent}
use Rattle.bridge_text.specs.declared.rename.AttrInheritContext.TheVariants as context
use Rattle.bridge_telling.specs.Telling.{TellsExactly}
use Rattle.bridge_telling.proofs.ExactLemmas.{exactly_both, exactly_each, exactly_none, in_first, in_none, in_one}
use Rattle.hir_attrs.specs.Attrs.{empty_attrs, inherited}
use Rattle.hir_attrs.specs.Reading.{about}
use Rattle.hir_attrs.specs.declared.attrs.Attrs.{Attrs}
use Rattle.hir_backends.specs.Backend.{Backend}
use Rattle.hir_docs.specs.Docs.{docs_errors}
use Rattle.hir_fields.specs.Heads.{field_head_errors, field_heads_errors, head_errors}
use Rattle.hir_fields.specs.Variants.{variant_errors, variants_errors}
use Rattle.hir_heads.proofs.NameLemmas.{ident_decided}
use Rattle.hir_heads.specs.Heads.{lifetime_errors, notes_errors}
use Rattle.hir_heads.specs.Names.{is_ident, name_errors}
use Rattle.hir_mark_contexts.specs.Told.{tested_errors}
use Rattle.hir_mark_contexts.specs.declared.contexts.MarkContext.TheVariants as marked
use Rattle.hir_mark_contexts.specs.declared.contexts.MarkContext.{MarkContext}
use Rattle.hir_mark_rules.proofs.DocsLemmas.{docs_exactly}
use Rattle.hir_mark_rules.proofs.ContextLemmas.{tested_exactly}
use Rattle.hir_mark_rules.specs.ContextBreaks.{TestedMarksBreak}
use Rattle.hir_mark_rules.specs.MarkBreaks.{DocsBreak}
use Rattle.hir_methods.specs.Untyped.{each_untyped_errors, heading_errors, receiver_mark_errors, untyped_errors}
use Rattle.hir_reports.specs.declared.rule.Rule.TheVariants as rule
use Rattle.hir_traits.specs.TraitMethods.{param_name_errors}
use Rattle.hir_rules.proofs.AppendLemmas.{in_four}
use Rattle.hir_rules.specs.Heads.{FieldHeadsBreak, HeadBreaks, HeadingBreaks, NotesBreak, ParamHeadsBreak, ParamNamesBreak, ReceiverMarksBreak, VariantsBreak}
use Rattle.hir_rules.specs.rules.BadIdent.{BadIdent, BadLifetimeIdent}
use Rattle.hir_rules.proofs.PathLemmas.{not_false}

-- ---- names

name_by : (b : Bool) (name : List ℕ) → Decides b (IsIdent name) → TellsExactly (if b then [] else about rule.BadIdent name ∷ []) (BadIdent name)
name_by true name d e = (λ h. absurd (in_none e h), λ h. absurd (h.0 (d.0 refl)))
name_by false name d e = (
  λ h. ((λ ident. not_false (d.1 ident)), in_one (about rule.BadIdent name) e h),
  λ h. subst (λ y. Contains (about rule.BadIdent name ∷ []) y) (sym h.1) (in_first (about rule.BadIdent name) []),
)

pub name_exactly : (name : List ℕ) → TellsExactly (name_errors name) (BadIdent name)
unfolding name_errors
name_exactly name = name_by (is_ident name) name (ident_decided name)

pub lifetimes_exactly : (env : LifetimeEnv) → TellsExactly (lifetime_errors env) (BadLifetimeIdent env)
lifetimes_exactly env = exactly_each (λ node. name_errors node.name) (λ node e. BadIdent node.name e) (λ node. name_exactly node.name) env.nodes

-- ---- heads

pub notes_exactly : (backend : Backend) (what : MarkContext) (start : Attrs) (docs : DeclaredDocs) (attrs : DeclaredAttrs)
    → TellsExactly (notes_errors backend what start docs attrs) (NotesBreak backend what start docs attrs)
notes_exactly backend what start docs attrs =
    exactly_both (tested_errors backend what attrs start) (docs_errors backend docs) (TestedMarksBreak backend what attrs start) (DocsBreak backend docs) (tested_exactly backend what attrs start) (docs_exactly backend docs)

pub head_exactly : (backend : Backend) (what : MarkContext) (start : Attrs) (name : List ℕ) (docs : DeclaredDocs) (attrs : DeclaredAttrs)
    → TellsExactly (head_errors backend what start name docs attrs) (HeadBreaks backend what start name docs attrs)
head_exactly backend what start name docs attrs =
    exactly_both (name_errors name) (notes_errors backend what start docs attrs) (BadIdent name) (NotesBreak backend what start docs attrs) (name_exactly name) (notes_exactly backend what start docs attrs)

pub variants_exactly : (backend : Backend) (enum_set : Attrs) (variants : List Variant) → TellsExactly (variants_errors backend enum_set variants) (VariantsBreak backend enum_set variants)
variants_exactly backend enum_set variants =
    exactly_each (variant_errors backend enum_set) (λ v e. HeadBreaks backend marked.EnumVariant (inherited enum_set context.Variant) v.name v.docs v.attrs e)
    (λ v. head_exactly backend marked.EnumVariant (inherited enum_set context.Variant) v.name v.docs v.attrs) variants

pub field_heads_exactly : (backend : Backend) (what : MarkContext) (fields : List Field) → TellsExactly (field_heads_errors backend what fields) (FieldHeadsBreak backend what fields)
field_heads_exactly backend what fields =
    exactly_each (field_head_errors backend what) (λ f e. HeadBreaks backend what empty_attrs f.name f.docs f.attrs e) (λ f. head_exactly backend what empty_attrs f.name f.docs f.attrs) fields

-- ---- methods and functions

pub heading_exactly : (backend : Backend) (docs : DeclaredDocs) (name abi_name : List ℕ) (lifetimes : LifetimeEnv)
    → TellsExactly (heading_errors backend docs name abi_name lifetimes) (HeadingBreaks backend docs name abi_name lifetimes)
heading_exactly backend docs name abi_name lifetimes =
    let documented = docs_errors backend docs in
    let named = name_errors name in
    let exported = name_errors abi_name in
    let lasting = lifetime_errors lifetimes in
    in_four (λ told. TellsExactly told (HeadingBreaks backend docs name abi_name lifetimes)) documented named exported lasting
    (exactly_both documented (named ++ (exported ++ lasting)) (DocsBreak backend docs) (λ e. BadIdent name e ⊎ (BadIdent abi_name e ⊎ BadLifetimeIdent lifetimes e)) (docs_exactly backend docs)
    (exactly_both named (exported ++ lasting) (BadIdent name) (λ e. BadIdent abi_name e ⊎ BadLifetimeIdent lifetimes e) (name_exactly name)
    (exactly_both exported lasting (BadIdent abi_name) (BadLifetimeIdent lifetimes) (name_exactly abi_name) (lifetimes_exactly lifetimes))))

pub receiver_exactly : (backend : Backend) (receiver : Option SelfParam) → TellsExactly (receiver_mark_errors backend receiver) (ReceiverMarksBreak backend receiver)
receiver_exactly backend None e = exactly_none e
receiver_exactly backend (Some receiver) e = tested_exactly backend marked.SelfParam receiver.attrs empty_attrs e

pub params_exactly : (backend : Backend) (params : List Param) → TellsExactly (each_untyped_errors backend params) (ParamHeadsBreak backend params)
params_exactly backend params =
    exactly_each (untyped_errors backend) (λ p e. BadIdent p.name e ⊎ TestedMarksBreak backend marked.Param p.attrs empty_attrs e)
    (λ p. exactly_both (name_errors p.name) (tested_errors backend marked.Param p.attrs empty_attrs) (BadIdent p.name) (TestedMarksBreak backend marked.Param p.attrs empty_attrs) (name_exactly p.name) (tested_exactly backend marked.Param p.attrs empty_attrs)) params

pub param_names_exactly : (params : List Param) → TellsExactly (param_name_errors params) (ParamNamesBreak params)
param_names_exactly params = exactly_each (λ p. name_errors p.name) (λ p e. BadIdent p.name e) (λ p. name_exactly p.name) params
