-- Which rules an item breaks, and its methods, each at its place. A disabled item is tested for its names, its marks, its documents, the
-- variants of an enum, and whether a trait may be `Send` or `Sync`, and for nothing else.
use Rattle.std.specs.Prelude.{◌≡◌, ◌⊎◌, ℕ, List, true, false, None, Some}
use Rattle.std.specs.List.{Contains}
use Rattle.bridge_ast.specs.declared.place.ItemPlace.{ItemPlace}
use Rattle.bridge_decl.specs.declared.enums.Enum.{Enum}
use Rattle.bridge_decl.specs.declared.methods.Method.{Method}
use Rattle.bridge_decl.specs.declared.modules.Item.{Item}
use Rattle.bridge_decl.specs.declared.modules.Item.TheVariants as item
use Rattle.bridge_decl.specs.declared.structs.OpaqueType.{OpaqueType}
use Rattle.bridge_decl.specs.declared.structs.Struct.{Struct}
use Rattle.bridge_decl.specs.declared.traits.Trait.{Trait}
use Rattle.bridge_decl.specs.declared.traits.TraitMethod.{TraitMethod}
use Rattle.bridge_decl.specs.declared.lifetimes.LifetimeEnv.{LifetimeEnv}
use Rattle.bridge_grid.specs.ItemBreaks.{TraitBreaks}
use Rattle.hir_attrs.specs.declared.attrs.Attrs.{Attrs}
use Rattle.hir_items.specs.Inheriting.{item_marks, item_start, method_start}
use Rattle.hir_items.specs.Setting.{Setting}
use Rattle.hir_mark_contexts.specs.declared.contexts.MarkContext.TheVariants as marked
use Rattle.hir_reports.specs.Store.{at_place, told_at}
use Rattle.hir_reports.specs.Texts.{plain_error}
use Rattle.hir_reports.specs.declared.report.LoweringError.{LoweringError}
use Rattle.hir_reports.specs.declared.report.LoweringReport.{LoweringReport}
use Rattle.hir_reports.specs.declared.rule.Rule.TheVariants as rule
use Rattle.hir_rules.specs.Callables.{FunctionBreaks, MethodBreaks, TraitMethodBreaks}
use Rattle.hir_rules.specs.Heads.{FieldHeadsBreak, IsEnabled, NotesBreak, VariantsBreak}
use Rattle.hir_rules.specs.Types.{AsFaultErrors, FieldTypeBreaks, FieldTypesBreak, OutFieldTypeBreaks}
use Rattle.hir_rules.specs.rules.BadIdent.{BadIdent, BadLifetimeIdent}
use Rattle.hir_rules.specs.rules.TooManyLifetimes.{DeclaresTooMany}
use Rattle.hir_rules.specs.rules.SpecialRepeated.{SpecialRepeated}
use Rattle.hir_rules.specs.rules.ZeroSizeMethods.{ZeroSizeMethods}

-- ---- at the item itself

-- more lifetimes are declared than there may be
abbrev pub LimitBreaks : LifetimeEnv → LoweringError → Type 0
LimitBreaks lifetimes error = DeclaresTooMany lifetimes × (error ≡ plain_error rule.TooManyLifetimes)

-- a struct in a module with this set of marks: its marks or documents, its name, that of a lifetime; and of an enabled one that it has
-- methods without fields, or its fields
abbrev pub StructBreaks : Setting → Attrs → Struct → LoweringError → Type 0
StructBreaks s set it error =
    NotesBreak s.backend marked.Struct (item_start set) it.docs it.attrs error
    ⊎ (BadIdent it.name error
    ⊎ (BadLifetimeIdent it.lifetimes error
    ⊎ (IsEnabled (item_marks s.backend set it.attrs) × (ZeroSizeMethods it error
    ⊎ (FieldHeadsBreak s.backend marked.Field it.fields error
    ⊎ FieldTypesBreak (FieldTypeBreaks s.backend.supports s.catalog) s.names it error)))))

-- an out-struct, which may have methods without fields
abbrev pub OutStructBreaks : Setting → Attrs → Struct → LoweringError → Type 0
OutStructBreaks s set it error =
    NotesBreak s.backend marked.OutStruct (item_start set) it.docs it.attrs error
    ⊎ (BadIdent it.name error
    ⊎ (BadLifetimeIdent it.lifetimes error
    ⊎ (IsEnabled (item_marks s.backend set it.attrs) × (FieldHeadsBreak s.backend marked.OutStructField it.fields error
    ⊎ FieldTypesBreak (OutFieldTypeBreaks s.backend.supports s.catalog) s.names it error))))

-- an opaque: so its marks, documents and names, that of its destructor; and of an enabled one that it declares too many lifetimes
abbrev pub OpaqueBreaks : Setting → Attrs → OpaqueType → LoweringError → Type 0
OpaqueBreaks s set it error =
    NotesBreak s.backend marked.Opaque (item_start set) it.docs it.attrs error
    ⊎ (BadIdent it.name error
    ⊎ (BadLifetimeIdent it.lifetimes error
    ⊎ (BadIdent it.dtor_abi_name error
    ⊎ (IsEnabled (item_marks s.backend set it.attrs) × LimitBreaks it.lifetimes error))))

-- an enum: its marks, documents and name, or its variants
abbrev pub EnumBreaks : Setting → Attrs → Enum → LoweringError → Type 0
EnumBreaks s set it error =
    NotesBreak s.backend marked.Enum (item_start set) it.docs it.attrs error
    ⊎ (BadIdent it.name error ⊎ VariantsBreak s.backend (item_marks s.backend set it.attrs) it.variants error)

-- a trait: its marks, documents and names; what it needs in order to be `Send` or `Sync`; and of an enabled one that it declares too many
-- lifetimes
abbrev pub TraitItselfBreaks : Setting → Attrs → Trait → LoweringError → Type 0
TraitItselfBreaks s set it error =
    NotesBreak s.backend marked.Trait (item_start set) it.docs it.attrs error
    ⊎ ((BadIdent it.name error ⊎ BadLifetimeIdent it.lifetimes error)
    ⊎ (AsFaultErrors (TraitBreaks s.support it.is_send it.is_sync) error
    ⊎ (IsEnabled (item_marks s.backend set it.attrs) × LimitBreaks it.lifetimes error)))

-- an item of any kind
abbrev pub ItemItselfBreaks : Setting → Attrs → Item → LoweringError → Type 0
ItemItselfBreaks s set (item.Struct it) error =
    ((it.output_only ≡ true) × OutStructBreaks s set it error) ⊎ ((it.output_only ≡ false) × StructBreaks s set it error)
ItemItselfBreaks s set (item.Opaque it) error = OpaqueBreaks s set it error
ItemItselfBreaks s set (item.Enum it) error = EnumBreaks s set it error
ItemItselfBreaks s set (item.Trait it) error = TraitItselfBreaks s set it error
ItemItselfBreaks s set (item.Function it) error = FunctionBreaks s (item_start set) it error

-- ---- reports at places

-- what is said of errors, as reports at the item of that name in the module of the path
abbrev pub AtItem : List (List ℕ) → List ℕ → (LoweringError → Type 0) → LoweringReport → Type 0
AtItem path name Breaks report = (error : LoweringError) × (Breaks error × (report ≡ told_at (at_place path name None) error))

-- so at a method of the item
abbrev pub AtMethod : List (List ℕ) → List ℕ → List ℕ → (LoweringError → Type 0) → LoweringReport → Type 0
AtMethod path name method Breaks report = (error : LoweringError) × (Breaks error × (report ≡ told_at (at_place path name (Some method)) error))

-- one of the methods of an enabled type there: by itself, or after those before it
abbrev pub MethodsBreak : Setting → List (List ℕ) → List ℕ → ItemPlace → Attrs → Attrs → List Method → LoweringReport → Type 0
MethodsBreak s path name place set marks methods report =
    IsEnabled marks × (((m : Method) × (Contains methods m × AtMethod path name m.name (MethodBreaks s place (method_start set) m) report))
    ⊎ ((m : Method) × AtMethod path name m.name (SpecialRepeated s set methods m) report))

-- one of the methods of an enabled trait there
abbrev pub TraitMethodsBreak : Setting → List (List ℕ) → List ℕ → ItemPlace → Attrs → List TraitMethod → LoweringReport → Type 0
TraitMethodsBreak s path name place marks methods report =
    IsEnabled marks × ((m : TraitMethod) × (Contains methods m × AtMethod path name m.name (TraitMethodBreaks s place marks m) report))

-- a method of the item there: a function has none
abbrev pub ItemMethodsBreak : Setting → List (List ℕ) → ItemPlace → Attrs → Item → LoweringReport → Type 0
ItemMethodsBreak s path place set (item.Struct it) = MethodsBreak s path it.name place set (item_marks s.backend set it.attrs) it.methods
ItemMethodsBreak s path place set (item.Opaque it) = MethodsBreak s path it.name place set (item_marks s.backend set it.attrs) it.methods
ItemMethodsBreak s path place set (item.Enum it) = MethodsBreak s path it.name place set (item_marks s.backend set it.attrs) it.methods
ItemMethodsBreak s path place set (item.Trait it) = TraitMethodsBreak s path it.name place (item_marks s.backend set it.attrs) it.methods
ItemMethodsBreak s path place set (item.Function it) = λ report. ⊥
