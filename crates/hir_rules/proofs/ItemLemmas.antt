-- What is told of items and their methods, each at its place, is what the rules on them say.
use Rattle.std.proofs.Common.{◌≡◌, ◌⊎◌, ℕ, List, [], ◌∷◌, ◌++◌, length, map, Bool, true, false, Some, None, if◌then◌else◌, refl, sym, subst}
use Rattle.std.specs.Prelude.{⊤, Decides, nat_lt}
use Rattle.std.specs.List.{Contains, flat_map}
use Rattle.std.proofs.lemmas.Bool.Decides.{Decides-ltb}
use Rattle.bridge_ast.specs.declared.place.ItemPlace.{ItemPlace}
use Rattle.bridge_decl.specs.declared.enums.Enum.{Enum}
use Rattle.bridge_decl.specs.declared.functions.Function.{Function}
use Rattle.bridge_decl.specs.declared.lifetimes.LifetimeEnv.{LifetimeEnv}
use Rattle.bridge_decl.specs.declared.methods.Method.{Method}
use Rattle.bridge_decl.specs.declared.structs.Field.{Field}
use Rattle.bridge_decl.specs.declared.structs.OpaqueType.{OpaqueType}
use Rattle.bridge_decl.specs.declared.structs.Struct.{Struct}
use Rattle.bridge_decl.specs.declared.traits.Trait.{Trait}
use Rattle.bridge_decl.specs.declared.traits.TraitMethod.{TraitMethod}
use Rattle.bridge_grid.proofs.TypeLemmas.{tells_trait}
use Rattle.bridge_grid.specs.ItemBreaks.{TraitBreaks}
use Rattle.bridge_grid.specs.Items.{trait_faults}
use Rattle.bridge_grid.specs.Telling.{fault_error}
use Rattle.bridge_telling.specs.Telling.{TellsExactly, TellsPlaces}
use Rattle.bridge_telling.specs.inside.Given.{TellsGiven}
use Rattle.bridge_telling.proofs.ExactLemmas.{exactly_both, in_first, in_none, in_one}
use Rattle.bridge_telling.proofs.GivenLemmas.{given_after, given_both, given_exactly, given_more, given_unless}
use Rattle.bridge_telling.proofs.PlaceLemmas.{places_both, places_each, places_exactly, places_map, places_unless}
use Rattle.hir_attrs.specs.declared.attrs.Attrs.{Attrs}
use Rattle.hir_elide.specs.Numbering.{most}
use Rattle.hir_fields.specs.Fields.{out_type_errors, struct_type_errors}
use Rattle.hir_fields.specs.Heads.{field_heads_errors}
use Rattle.hir_fields.specs.Types.{types_errors}
use Rattle.hir_fields.specs.Variants.{variants_errors}
use Rattle.hir_heads.specs.Heads.{lifetime_errors, notes_errors}
use Rattle.hir_heads.specs.Names.{name_errors}
use Rattle.hir_items.specs.Enums.{enum_errors, enum_reports}
use Rattle.hir_items.specs.FreeFunctions.{function_reports}
use Rattle.hir_items.specs.Inheriting.{item_marks, item_start, method_start}
use Rattle.hir_items.specs.Opaques.{limit_errors, opaque_errors, opaque_reports}
use Rattle.hir_items.specs.Placing.{at_item_itself, at_method_of, where_enabled}
use Rattle.hir_items.specs.Repeated.{repeated_reports}
use Rattle.hir_items.specs.Setting.{Setting}
use Rattle.hir_items.specs.Structs.{out_struct_errors, out_struct_reports, struct_errors, struct_reports, zero_size_errors}
use Rattle.hir_items.specs.TypeMethods.{method_reports, type_method_reports}
use Rattle.hir_mark_contexts.specs.declared.contexts.MarkContext.TheVariants as marked
use Rattle.hir_mark_contexts.specs.declared.contexts.MarkContext.{MarkContext}
use Rattle.hir_methods.specs.Functions.{function_errors}
use Rattle.hir_methods.specs.Methods.{method_errors}
use Rattle.hir_methods.specs.Untyped.{unless_disabled}
use Rattle.hir_reports.specs.Store.{at_place, told_at}
use Rattle.hir_reports.specs.Texts.{plain_error}
use Rattle.hir_reports.specs.declared.places.ErrorContext.{ErrorContext}
use Rattle.hir_reports.specs.declared.report.LoweringError.{LoweringError}
use Rattle.hir_reports.specs.declared.report.LoweringReport.{LoweringReport}
use Rattle.hir_reports.specs.declared.rule.Rule.TheVariants as rule
use Rattle.hir_special.specs.Repeated.{none_seen}
use Rattle.hir_traits.specs.TraitMethods.{trait_method_errors}
use Rattle.hir_traits.specs.Traits.{own_trait_errors, trait_name_errors, trait_reports}
use Rattle.hir_rules.specs.Callables.{FunctionBreaks, MethodBreaks, TraitMethodBreaks}
use Rattle.hir_rules.specs.Heads.{FieldHeadsBreak, IsEnabled, NotesBreak, VariantsBreak}
use Rattle.hir_rules.specs.Items.{AtItem, AtMethod, EnumBreaks, LimitBreaks, MethodsBreak, OpaqueBreaks, OutStructBreaks, StructBreaks, TraitItselfBreaks, TraitMethodsBreak}
use Rattle.hir_rules.specs.Types.{AsFaultErrors, FieldTypeBreaks, FieldTypesBreak, OutFieldTypeBreaks}
use Rattle.hir_rules.specs.rules.BadIdent.{BadIdent, BadLifetimeIdent}
use Rattle.hir_rules.specs.rules.SpecialRepeated.{SpecialRepeated}
use Rattle.hir_rules.specs.rules.TooManyLifetimes.{DeclaresTooMany}
use Rattle.hir_rules.specs.rules.ZeroSizeMethods.{ZeroSizeMethods}
use Rattle.hir_rules.proofs.AppendLemmas.{in_four, in_three}
use Rattle.hir_rules.proofs.CallableLemmas.{function_told, method_told, trait_method_told}
use Rattle.hir_rules.proofs.HeadLemmas.{field_heads_exactly, lifetimes_exactly, name_exactly, notes_exactly, variants_exactly}
use Rattle.hir_rules.proofs.RepeatedLemmas.{repeated_exactly}
use Rattle.hir_rules.proofs.TypeLemmas.{as_faults, field_type_told, field_types_told, out_field_type_told}
use Rattle.hir_rules.proofs.PathLemmas.{not_false}

-- ---- rules on items alone

limit_by : (b : Bool) (D : Type 0) → Decides b D → TellsExactly (if b then plain_error rule.TooManyLifetimes ∷ [] else []) (λ e. D × (e ≡ plain_error rule.TooManyLifetimes))
limit_by true D d e = (
  λ h. (d.0 refl, in_one (plain_error rule.TooManyLifetimes) e h),
  λ h. subst (λ y. Contains (plain_error rule.TooManyLifetimes ∷ []) y) (sym h.1) (in_first (plain_error rule.TooManyLifetimes) []),
)
limit_by false D d e = (λ h. absurd (in_none e h), λ h. absurd (not_false (d.1 h.0)))

pub limit_exactly : (env : LifetimeEnv) → TellsExactly (limit_errors env) (LimitBreaks env)
limit_exactly env = limit_by (nat_lt most (length env.nodes)) (DeclaresTooMany env) (Decides-ltb most (length env.nodes))

no_first : {A : Type 0} (x : A) (xs : List A) → ¬ (x ∷ xs ≡ [])
no_first x xs h = cc

zero_by : (fields : List Field) (methods : List Method)
    → TellsExactly (zero_size_errors fields methods) (λ e. (fields ≡ []) × ((¬ (methods ≡ [])) × (e ≡ plain_error rule.ZeroSizeMethods)))
zero_by [] [] e = (λ h. absurd (in_none e h), λ h. absurd (h.1.0 refl))
zero_by [] (m ∷ ms) e = (
  λ h. (refl, ((λ none. no_first m ms none), in_one (plain_error rule.ZeroSizeMethods) e h)),
  λ h. subst (λ y. Contains (plain_error rule.ZeroSizeMethods ∷ []) y) (sym h.1.1) (in_first (plain_error rule.ZeroSizeMethods) []),
)
zero_by (f ∷ fs) methods e = (λ h. absurd (in_none e h), λ h. absurd (no_first f fs h.0))

pub zero_exactly : (item : Struct) → TellsExactly (zero_size_errors item.fields item.methods) (ZeroSizeMethods item)
zero_exactly item = zero_by item.fields item.methods

module _ (s : Setting) (set : Attrs) where
  -- ---- structs

  -- what stands before the rest of a struct: its notes, its name and the names of its lifetimes
  module _ (context : MarkContext) (item : Struct) (rest : List LoweringError) (Rest : LoweringError → Type 0) (told : TellsGiven (lifetime_errors item.lifetimes ≡ []) rest Rest) where
    abbrev marks : Attrs
    marks = item_marks s.backend set item.attrs

    pub struct_parts : TellsGiven ⊤ (notes_errors s.backend context (item_start set) item.docs item.attrs ++ ((name_errors item.name ++ lifetime_errors item.lifetimes) ++ where_enabled marks rest))
        (λ e. NotesBreak s.backend context (item_start set) item.docs item.attrs e ⊎ (BadIdent item.name e ⊎ (BadLifetimeIdent item.lifetimes e ⊎ (IsEnabled marks × Rest e))))
    struct_parts =
        let notes = notes_errors s.backend context (item_start set) item.docs item.attrs in
        let names = name_errors item.name in
        let lifetimes = lifetime_errors item.lifetimes in
        let Enabled : LoweringError → Type 0 = λ e. IsEnabled marks × Rest e in
        let Given : Type 0 = ⊤ × (lifetimes ≡ []) in
        let Own : LoweringError → Type 0 = λ e. BadIdent item.name e ⊎ (BadLifetimeIdent item.lifetimes e ⊎ Enabled e) in
        given_both ⊤ notes ((names ++ lifetimes) ++ where_enabled marks rest) (NotesBreak s.backend context (item_start set) item.docs item.attrs) Own
        (given_exactly ⊤ notes (NotesBreak s.backend context (item_start set) item.docs item.attrs) (notes_exactly s.backend context (item_start set) item.docs item.attrs))
        (in_three (λ told. TellsGiven ⊤ told Own) names lifetimes (where_enabled marks rest)
        (given_both ⊤ names (lifetimes ++ where_enabled marks rest) (BadIdent item.name) (λ e. BadLifetimeIdent item.lifetimes e ⊎ Enabled e) (given_exactly ⊤ names (BadIdent item.name) (name_exactly item.name))
        (given_after ⊤ lifetimes (where_enabled marks rest) (BadLifetimeIdent item.lifetimes) Enabled (given_exactly ⊤ lifetimes (BadLifetimeIdent item.lifetimes) (lifetimes_exactly item.lifetimes))
        (given_unless Given marks.disable rest Rest (given_more (lifetimes ≡ []) Given rest Rest (λ g. g.1) told)))))

  pub struct_told : (item : Struct) → TellsGiven ⊤ (struct_errors s set item) (StructBreaks s set item)
  struct_told item =
      let Given : Type 0 = lifetime_errors item.lifetimes ≡ [] in
      let zero = zero_size_errors item.fields item.methods in
      let heads = field_heads_errors s.backend marked.Field item.fields in
      let types = types_errors (struct_type_errors s.backend.supports s.catalog) s.names item in
      let Heads : LoweringError → Type 0 = FieldHeadsBreak s.backend marked.Field item.fields in
      let Types : LoweringError → Type 0 = FieldTypesBreak (FieldTypeBreaks s.backend.supports s.catalog) s.names item in
      struct_parts marked.Struct item (zero ++ (heads ++ types)) (λ e. ZeroSizeMethods item e ⊎ (Heads e ⊎ Types e))
      (given_both Given zero (heads ++ types) (ZeroSizeMethods item) (λ e. Heads e ⊎ Types e) (given_exactly Given zero (ZeroSizeMethods item) (zero_exactly item))
      (given_both Given heads types Heads Types (given_exactly Given heads Heads (field_heads_exactly s.backend marked.Field item.fields))
      (field_types_told (struct_type_errors s.backend.supports s.catalog) (FieldTypeBreaks s.backend.supports s.catalog) (field_type_told s.backend.supports s.catalog) s.names item)))

  pub out_struct_told : (item : Struct) → TellsGiven ⊤ (out_struct_errors s set item) (OutStructBreaks s set item)
  out_struct_told item =
      let Given : Type 0 = lifetime_errors item.lifetimes ≡ [] in
      let heads = field_heads_errors s.backend marked.OutStructField item.fields in
      let types = types_errors (out_type_errors s.backend.supports s.catalog) s.names item in
      let Heads : LoweringError → Type 0 = FieldHeadsBreak s.backend marked.OutStructField item.fields in
      let Types : LoweringError → Type 0 = FieldTypesBreak (OutFieldTypeBreaks s.backend.supports s.catalog) s.names item in
      struct_parts marked.OutStruct item (heads ++ types) (λ e. Heads e ⊎ Types e)
      (given_both Given heads types Heads Types (given_exactly Given heads Heads (field_heads_exactly s.backend marked.OutStructField item.fields))
      (field_types_told (out_type_errors s.backend.supports s.catalog) (OutFieldTypeBreaks s.backend.supports s.catalog) (out_field_type_told s.backend.supports s.catalog) s.names item))

  -- ---- opaques, enums, traits

  pub opaque_told : (item : OpaqueType) → TellsGiven ⊤ (opaque_errors s.backend set item) (OpaqueBreaks s set item)
  opaque_told item =
      let marks = item_marks s.backend set item.attrs in
      let notes = notes_errors s.backend marked.Opaque (item_start set) item.docs item.attrs in
      let names = name_errors item.name in
      let lifetimes = lifetime_errors item.lifetimes in
      let dtor = name_errors item.dtor_abi_name in
      let limit = limit_errors item.lifetimes in
      let Notes : LoweringError → Type 0 = NotesBreak s.backend marked.Opaque (item_start set) item.docs item.attrs in
      let Limit : LoweringError → Type 0 = λ e. IsEnabled marks × LimitBreaks item.lifetimes e in
      let Own : LoweringError → Type 0 = λ e. BadIdent item.name e ⊎ (BadLifetimeIdent item.lifetimes e ⊎ (BadIdent item.dtor_abi_name e ⊎ Limit e)) in
      given_both ⊤ notes (((names ++ lifetimes) ++ dtor) ++ where_enabled marks limit) Notes Own
      (given_exactly ⊤ notes Notes (notes_exactly s.backend marked.Opaque (item_start set) item.docs item.attrs))
      (in_four (λ told. TellsGiven ⊤ told Own) names lifetimes dtor (where_enabled marks limit)
      (given_both ⊤ names (lifetimes ++ (dtor ++ where_enabled marks limit)) (BadIdent item.name) (λ e. BadLifetimeIdent item.lifetimes e ⊎ (BadIdent item.dtor_abi_name e ⊎ Limit e))
      (given_exactly ⊤ names (BadIdent item.name) (name_exactly item.name))
      (given_both ⊤ lifetimes (dtor ++ where_enabled marks limit) (BadLifetimeIdent item.lifetimes) (λ e. BadIdent item.dtor_abi_name e ⊎ Limit e)
      (given_exactly ⊤ lifetimes (BadLifetimeIdent item.lifetimes) (lifetimes_exactly item.lifetimes))
      (given_both ⊤ dtor (where_enabled marks limit) (BadIdent item.dtor_abi_name) Limit (given_exactly ⊤ dtor (BadIdent item.dtor_abi_name) (name_exactly item.dtor_abi_name))
      (given_unless ⊤ marks.disable limit (LimitBreaks item.lifetimes) (given_exactly ⊤ limit (LimitBreaks item.lifetimes) (limit_exactly item.lifetimes)))))))

  pub enum_told : (item : Enum) → TellsGiven ⊤ (enum_errors s.backend set item) (EnumBreaks s set item)
  enum_told item =
      let marks = item_marks s.backend set item.attrs in
      let notes = notes_errors s.backend marked.Enum (item_start set) item.docs item.attrs in
      let names = name_errors item.name in
      let variants = variants_errors s.backend marks item.variants in
      let Notes : LoweringError → Type 0 = NotesBreak s.backend marked.Enum (item_start set) item.docs item.attrs in
      let Variants : LoweringError → Type 0 = VariantsBreak s.backend marks item.variants in
      given_exactly ⊤ (notes ++ (names ++ variants)) (EnumBreaks s set item)
      (exactly_both notes (names ++ variants) Notes (λ e. BadIdent item.name e ⊎ Variants e) (notes_exactly s.backend marked.Enum (item_start set) item.docs item.attrs)
      (exactly_both names variants (BadIdent item.name) Variants (name_exactly item.name) (variants_exactly s.backend marks item.variants)))

  pub trait_told : (item : Trait) → TellsGiven ⊤ (own_trait_errors s.backend s.support (item_start set) item) (TraitItselfBreaks s set item)
  trait_told item =
      let marks = item_marks s.backend set item.attrs in
      let notes = notes_errors s.backend marked.Trait (item_start set) item.docs item.attrs in
      let names = trait_name_errors item in
      let flags = map fault_error (trait_faults s.support item.is_send item.is_sync) in
      let limit = limit_errors item.lifetimes in
      let Notes : LoweringError → Type 0 = NotesBreak s.backend marked.Trait (item_start set) item.docs item.attrs in
      let Names : LoweringError → Type 0 = λ e. BadIdent item.name e ⊎ BadLifetimeIdent item.lifetimes e in
      let Flags : LoweringError → Type 0 = AsFaultErrors (TraitBreaks s.support item.is_send item.is_sync) in
      let Limit : LoweringError → Type 0 = λ e. IsEnabled marks × LimitBreaks item.lifetimes e in
      in_four (λ told. TellsGiven ⊤ told (TraitItselfBreaks s set item)) notes names flags (unless_disabled marks limit)
      (given_both ⊤ notes (names ++ (flags ++ unless_disabled marks limit)) Notes (λ e. Names e ⊎ (Flags e ⊎ Limit e)) (given_exactly ⊤ notes Notes (notes_exactly s.backend marked.Trait (item_start set) item.docs item.attrs))
      (given_both ⊤ names (flags ++ unless_disabled marks limit) Names (λ e. Flags e ⊎ Limit e)
      (given_exactly ⊤ names Names (exactly_both (name_errors item.name) (lifetime_errors item.lifetimes) (BadIdent item.name) (BadLifetimeIdent item.lifetimes) (name_exactly item.name) (lifetimes_exactly item.lifetimes)))
      (given_both ⊤ flags (unless_disabled marks limit) Flags Limit (as_faults (trait_faults s.support item.is_send item.is_sync) (TraitBreaks s.support item.is_send item.is_sync) (tells_trait s.support item.is_send item.is_sync))
      (given_unless ⊤ marks.disable limit (LimitBreaks item.lifetimes) (given_exactly ⊤ limit (LimitBreaks item.lifetimes) (limit_exactly item.lifetimes))))))

-- ---- at places

-- where a report is told
abbrev pub where_told : LoweringReport → ErrorContext
where_told report = report.context

pub at_item_told : (path : List (List ℕ)) (name : List ℕ) (errors : List LoweringError) (Breaks : LoweringError → Type 0) → TellsGiven ⊤ errors Breaks
    → TellsPlaces where_told (at_item_itself path name errors) (AtItem path name Breaks)
at_item_told path name errors Breaks told = places_map where_told (told_at (at_place path name None)) (at_place path name None) (λ e. refl) errors Breaks told

pub at_method_told : (path : List (List ℕ)) (name method : List ℕ) (errors : List LoweringError) (Breaks : LoweringError → Type 0) → TellsGiven ⊤ errors Breaks
    → TellsPlaces where_told (at_method_of path name method errors) (AtMethod path name method Breaks)
at_method_told path name method errors Breaks told = places_map where_told (told_at (at_place path name (Some method))) (at_place path name (Some method)) (λ e. refl) errors Breaks told

module _ (s : Setting) (path : List (List ℕ)) (place : ItemPlace) (set : Attrs) where
  pub methods_told : (name : List ℕ) (marks : Attrs) (methods : List Method)
      → TellsPlaces where_told (type_method_reports s path name place set marks methods) (MethodsBreak s path name place set marks methods)
  methods_told name marks methods =
      let each = flat_map (method_reports s path name place set) methods in
      let repeated = repeated_reports s.backend s.support path name set none_seen methods in
      let Each : LoweringReport → Type 0 = λ r. (m : Method) × (Contains methods m × AtMethod path name m.name (MethodBreaks s place (method_start set) m) r) in
      let Repeated : LoweringReport → Type 0 = λ r. (m : Method) × AtMethod path name m.name (SpecialRepeated s set methods m) r in
      places_unless where_told marks.disable (each ++ repeated) (λ r. Each r ⊎ Repeated r)
      (places_both where_told each repeated Each Repeated
      (places_each where_told (method_reports s path name place set) (λ m r. AtMethod path name m.name (MethodBreaks s place (method_start set) m) r)
      (λ m. at_method_told path name m.name (method_errors s.backend s.support s.config s.catalog s.names place (method_start set) m) (MethodBreaks s place (method_start set) m) (method_told s place (method_start set) m)) methods)
      (places_exactly where_told repeated Repeated (repeated_exactly s path name set methods)))

  pub struct_reports_told : (item : Struct) → TellsPlaces where_told (struct_reports s path place set item)
      (λ r. AtItem path item.name (StructBreaks s set item) r ⊎ MethodsBreak s path item.name place set (item_marks s.backend set item.attrs) item.methods r)
  struct_reports_told item =
      places_both where_told (at_item_itself path item.name (struct_errors s set item)) (type_method_reports s path item.name place set (item_marks s.backend set item.attrs) item.methods)
      (AtItem path item.name (StructBreaks s set item)) (MethodsBreak s path item.name place set (item_marks s.backend set item.attrs) item.methods)
      (at_item_told path item.name (struct_errors s set item) (StructBreaks s set item) (struct_told s set item)) (methods_told item.name (item_marks s.backend set item.attrs) item.methods)

  pub out_struct_reports_told : (item : Struct) → TellsPlaces where_told (out_struct_reports s path place set item)
      (λ r. AtItem path item.name (OutStructBreaks s set item) r ⊎ MethodsBreak s path item.name place set (item_marks s.backend set item.attrs) item.methods r)
  out_struct_reports_told item =
      places_both where_told (at_item_itself path item.name (out_struct_errors s set item)) (type_method_reports s path item.name place set (item_marks s.backend set item.attrs) item.methods)
      (AtItem path item.name (OutStructBreaks s set item)) (MethodsBreak s path item.name place set (item_marks s.backend set item.attrs) item.methods)
      (at_item_told path item.name (out_struct_errors s set item) (OutStructBreaks s set item) (out_struct_told s set item)) (methods_told item.name (item_marks s.backend set item.attrs) item.methods)

  pub opaque_reports_told : (item : OpaqueType) → TellsPlaces where_told (opaque_reports s path place set item)
      (λ r. AtItem path item.name (OpaqueBreaks s set item) r ⊎ MethodsBreak s path item.name place set (item_marks s.backend set item.attrs) item.methods r)
  opaque_reports_told item =
      places_both where_told (at_item_itself path item.name (opaque_errors s.backend set item)) (type_method_reports s path item.name place set (item_marks s.backend set item.attrs) item.methods)
      (AtItem path item.name (OpaqueBreaks s set item)) (MethodsBreak s path item.name place set (item_marks s.backend set item.attrs) item.methods)
      (at_item_told path item.name (opaque_errors s.backend set item) (OpaqueBreaks s set item) (opaque_told s set item)) (methods_told item.name (item_marks s.backend set item.attrs) item.methods)

  pub enum_reports_told : (item : Enum) → TellsPlaces where_told (enum_reports s path place set item)
      (λ r. AtItem path item.name (EnumBreaks s set item) r ⊎ MethodsBreak s path item.name place set (item_marks s.backend set item.attrs) item.methods r)
  enum_reports_told item =
      places_both where_told (at_item_itself path item.name (enum_errors s.backend set item)) (type_method_reports s path item.name place set (item_marks s.backend set item.attrs) item.methods)
      (AtItem path item.name (EnumBreaks s set item)) (MethodsBreak s path item.name place set (item_marks s.backend set item.attrs) item.methods)
      (at_item_told path item.name (enum_errors s.backend set item) (EnumBreaks s set item) (enum_told s set item)) (methods_told item.name (item_marks s.backend set item.attrs) item.methods)

  pub function_reports_told : (item : Function) → TellsPlaces where_told (function_reports s path set item) (AtItem path item.name (FunctionBreaks s (item_start set) item))
  function_reports_told item =
      at_item_told path item.name (function_errors s.backend s.support s.config s.catalog s.names (item_start set) item) (FunctionBreaks s (item_start set) item) (function_told s (item_start set) item)

  -- a trait's methods are left out where it is disabled
  pub trait_methods_by : (b : Bool) (name : List ℕ) (marks : Attrs) (methods : List TraitMethod)
      → TellsPlaces where_told (flat_map (λ m. at_method_of path name m.name (trait_method_errors s.backend s.support s.config s.catalog s.names place marks m)) (if b then [] else methods))
      (λ r. (b ≡ false) × ((m : TraitMethod) × (Contains methods m × AtMethod path name m.name (TraitMethodBreaks s place marks m) r)))
  trait_methods_by true name marks methods = record { each = λ e h. absurd (in_none e h); every = λ e h. cc }
  trait_methods_by false name marks methods =
      let told = places_each where_told (λ m. at_method_of path name m.name (trait_method_errors s.backend s.support s.config s.catalog s.names place marks m))
      (λ m r. AtMethod path name m.name (TraitMethodBreaks s place marks m) r)
      (λ m. at_method_told path name m.name (trait_method_errors s.backend s.support s.config s.catalog s.names place marks m) (TraitMethodBreaks s place marks m) (trait_method_told s place marks m)) methods in
      record { each = λ e h. (refl, told.each e h); every = λ e h. told.every e h.1 }

  pub trait_reports_told : (item : Trait) → TellsPlaces where_told (trait_reports s.backend s.support s.config s.catalog s.names place (item_start set) path item)
      (λ r. AtItem path item.name (TraitItselfBreaks s set item) r ⊎ TraitMethodsBreak s path item.name place (item_marks s.backend set item.attrs) item.methods r)
  trait_reports_told item =
      let marks = item_marks s.backend set item.attrs in
      places_both where_told (at_item_itself path item.name (own_trait_errors s.backend s.support (item_start set) item))
      (flat_map (λ m. at_method_of path item.name m.name (trait_method_errors s.backend s.support s.config s.catalog s.names place marks m)) (where_enabled marks item.methods))
      (AtItem path item.name (TraitItselfBreaks s set item)) (TraitMethodsBreak s path item.name place marks item.methods)
      (at_item_told path item.name (own_trait_errors s.backend s.support (item_start set) item) (TraitItselfBreaks s set item) (trait_told s set item))
      (trait_methods_by marks.disable item.name marks item.methods)
