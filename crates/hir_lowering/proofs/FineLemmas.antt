-- An item of a kind of which nothing is told is made, kind by kind.
use Rattle.std.proofs.Common.{◌≡◌, ℕ, List, [], ◌∷◌, ◌++◌, Bool, true, false, Option, Some, None, if◌then◌else◌, ap, refl, subst, sym, ◌∙◌}
use Rattle.std.specs.Prelude.{IsSome}
use Rattle.bridge_ast.specs.declared.place.ItemPlace.{ItemPlace}
use Rattle.bridge_decl.specs.declared.enums.Enum.{Enum}
use Rattle.bridge_decl.specs.declared.functions.Function.{Function}
use Rattle.bridge_decl.specs.declared.modules.Item.{Item}
use Rattle.bridge_decl.specs.declared.modules.Item.TheVariants as item
use Rattle.bridge_decl.specs.declared.modules.Module.{Module}
use Rattle.bridge_decl.specs.declared.structs.OpaqueType.{OpaqueType}
use Rattle.bridge_decl.specs.declared.structs.Struct.{Struct}
use Rattle.bridge_decl.specs.declared.traits.Trait.{Trait}
use Rattle.bridge_order.specs.declared.catalog.Catalog.{Catalog}
use Rattle.bridge_places.specs.Kinds.{item_kind, same_kind}
use Rattle.bridge_places.specs.declared.kinds.Kind.{Kind}
use Rattle.bridge_places.specs.declared.kinds.Kind.TheVariants as kind
use Rattle.hir_attrs.specs.declared.attrs.Attrs.{Attrs}
use Rattle.hir_backends.specs.Backend.{Backend}
use Rattle.hir_backends.specs.declared.support.BackendAttrSupport.{BackendAttrSupport}
use Rattle.hir_items.specs.Enums.{enum_item_form, enum_reports}
use Rattle.hir_items.specs.FreeFunctions.{function_item_form, function_reports}
use Rattle.hir_items.specs.Inheriting.{item_start}
use Rattle.hir_items.specs.Opaques.{opaque_item_form, opaque_reports}
use Rattle.hir_items.specs.Setting.{Setting}
use Rattle.hir_items.specs.Structs.{out_struct_item_form, out_struct_reports, struct_item_form, struct_reports}
use Rattle.hir_config.specs.declared.config.LoweringConfig.{LoweringConfig}
use Rattle.hir_modules.specs.ModuleMarks.{module_marks}
use Rattle.hir_number.specs.Naming.{Naming}
use Rattle.hir_reports.specs.declared.report.LoweringReport.{LoweringReport}
use Rattle.hir_traits.specs.Traits.{trait_form, trait_reports}
use Rattle.hir_lowering.specs.Interface.{Interface, setting_in}
use Rattle.hir_lowering.specs.Kinds.{ItemMaking, ItemTelling, enum_made, function_made, opaque_made, out_struct_made, struct_made, trait_made}
use Rattle.hir_lowering.specs.Kinds.{told_of_enum, told_of_function, told_of_opaque, told_of_out_struct, told_of_struct, told_of_trait}
use Rattle.hir_lowering.specs.Placing.{form_of, reports_of}

-- ---- which of two kinds a struct is

pub comes_out : (b : Bool) → (if b then kind.OutStruct else kind.Struct) ≡ kind.OutStruct → b ≡ true
comes_out true is = refl
comes_out false is = absurd cc

pub comes_in : (b : Bool) → (if b then kind.OutStruct else kind.Struct) ≡ kind.Struct → b ≡ false
comes_in false is = refl
comes_in true is = absurd cc

no_other : (k : Kind) → same_kind k k ≡ false → ⊥
no_other kind.OutStruct e = cc
no_other kind.Struct e = cc
no_other kind.Opaque e = cc
no_other kind.Enum e = cc
no_other kind.Trait e = cc
no_other kind.Function e = cc

pub no_struct : (b : Bool) (k : Kind) → same_kind kind.OutStruct k ≡ false → same_kind kind.Struct k ≡ false → (if b then kind.OutStruct else kind.Struct) ≡ k → ⊥
no_struct true k out plain is = absurd (let same : same_kind k k ≡ false = subst (λ j. same_kind j k ≡ false) is out in no_other k same)
no_struct false k out plain is = absurd (let same : same_kind k k ≡ false = subst (λ j. same_kind j k ≡ false) is plain in no_other k same)

-- of what stands in one of two branches
in_first : {D : Type 0} (b : Bool) (told : List LoweringReport) (form : Option D) → b ≡ true → (told ≡ [] → IsSome form) → (if b then told else []) ≡ [] → IsSome (if b then form else None)
in_first true told form is fine none = fine none
in_first false told form is fine none = absurd cc

in_second : {D : Type 0} (b : Bool) (told : List LoweringReport) (form : Option D) → b ≡ false → (told ≡ [] → IsSome form) → (if b then [] else told) ≡ [] → IsSome (if b then None else form)
in_second false told form is fine none = fine none
in_second true told form is fine none = absurd cc

-- ---- the kinds

-- where nothing is told of an item of the kind, it is made
abbrev pub IsFine : {D : Type 0} → ItemTelling → ItemMaking D → Kind → Interface → Type 0
IsFine told made k it =
    (place : ItemPlace) (m : Module) (i : Item) → item_kind i ≡ k → reports_of it told place (m, i) ≡ [] → IsSome (form_of it made place (m, i))

pub fine_out_struct :
    ((s : Setting) (path : List (List ℕ)) (place : ItemPlace) (set : Attrs) (i : Struct) → out_struct_reports s path place set i ≡ [] → IsSome (out_struct_item_form s place set i))
    → (it : Interface) → IsFine told_of_out_struct out_struct_made kind.OutStruct it
fine_out_struct law it place m (item.Struct i) is none =
    let set = module_marks it.backend it.modules m in
    let s = setting_in it place.«module» in
    in_first i.output_only (out_struct_reports s m.path place set i) (out_struct_item_form s place set i) (comes_out i.output_only is) (law s m.path place set i) none
fine_out_struct law it place m (item.Opaque i) is none = absurd cc
fine_out_struct law it place m (item.Enum i) is none = absurd cc
fine_out_struct law it place m (item.Trait i) is none = absurd cc
fine_out_struct law it place m (item.Function i) is none = absurd cc

pub fine_struct :
    ((s : Setting) (path : List (List ℕ)) (place : ItemPlace) (set : Attrs) (i : Struct) → struct_reports s path place set i ≡ [] → IsSome (struct_item_form s place set i))
    → (it : Interface) → IsFine told_of_struct struct_made kind.Struct it
fine_struct law it place m (item.Struct i) is none =
    let set = module_marks it.backend it.modules m in
    let s = setting_in it place.«module» in
    in_second i.output_only (struct_reports s m.path place set i) (struct_item_form s place set i) (comes_in i.output_only is) (law s m.path place set i) none
fine_struct law it place m (item.Opaque i) is none = absurd cc
fine_struct law it place m (item.Enum i) is none = absurd cc
fine_struct law it place m (item.Trait i) is none = absurd cc
fine_struct law it place m (item.Function i) is none = absurd cc

pub fine_opaque :
    ((s : Setting) (path : List (List ℕ)) (place : ItemPlace) (set : Attrs) (i : OpaqueType) → opaque_reports s path place set i ≡ [] → IsSome (opaque_item_form s place set i))
    → (it : Interface) → IsFine told_of_opaque opaque_made kind.Opaque it
fine_opaque law it place m (item.Struct i) is none = absurd (no_struct i.output_only kind.Opaque refl refl is)
fine_opaque law it place m (item.Opaque i) is none = law (setting_in it place.«module») m.path place (module_marks it.backend it.modules m) i none
fine_opaque law it place m (item.Enum i) is none = absurd cc
fine_opaque law it place m (item.Trait i) is none = absurd cc
fine_opaque law it place m (item.Function i) is none = absurd cc

pub fine_enum :
    ((s : Setting) (path : List (List ℕ)) (place : ItemPlace) (set : Attrs) (i : Enum) → enum_reports s path place set i ≡ [] → IsSome (enum_item_form s place set i))
    → (it : Interface) → IsFine told_of_enum enum_made kind.Enum it
fine_enum law it place m (item.Struct i) is none = absurd (no_struct i.output_only kind.Enum refl refl is)
fine_enum law it place m (item.Opaque i) is none = absurd cc
fine_enum law it place m (item.Enum i) is none = law (setting_in it place.«module») m.path place (module_marks it.backend it.modules m) i none
fine_enum law it place m (item.Trait i) is none = absurd cc
fine_enum law it place m (item.Function i) is none = absurd cc

pub fine_trait :
    ((backend : Backend) (support : BackendAttrSupport) (config : LoweringConfig) (catalog : Catalog) (names : Naming) (place : ItemPlace) (start : Attrs) (path : List (List ℕ)) (i : Trait) → trait_reports backend support config catalog names place start path i ≡ [] → IsSome (trait_form backend catalog names place start i))
    → (it : Interface) → IsFine told_of_trait trait_made kind.Trait it
fine_trait law it place m (item.Struct i) is none = absurd (no_struct i.output_only kind.Trait refl refl is)
fine_trait law it place m (item.Opaque i) is none = absurd cc
fine_trait law it place m (item.Enum i) is none = absurd cc
fine_trait law it place m (item.Trait i) is none = law it.backend it.backend.supports it.config it.catalog (it.names place.«module») place (item_start (module_marks it.backend it.modules m)) m.path i none
fine_trait law it place m (item.Function i) is none = absurd cc

pub fine_function :
    ((s : Setting) (path : List (List ℕ)) (set : Attrs) (i : Function) → function_reports s path set i ≡ [] → IsSome (function_item_form s set i))
    → (it : Interface) → IsFine told_of_function function_made kind.Function it
fine_function law it place m (item.Struct i) is none = absurd (no_struct i.output_only kind.Function refl refl is)
fine_function law it place m (item.Opaque i) is none = absurd cc
fine_function law it place m (item.Enum i) is none = absurd cc
fine_function law it place m (item.Trait i) is none = absurd cc
fine_function law it place m (item.Function i) is none = law (setting_in it place.«module») m.path (module_marks it.backend it.modules m) i none
