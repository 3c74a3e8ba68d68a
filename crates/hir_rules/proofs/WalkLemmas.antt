-- What is told of all declarations, each at its place, is what is broken in them.
use Rattle.std.proofs.Common.{◌≡◌, ◌⊎◌, ◌↔◌, inl, inr, ℕ, List, [], Bool, true, false, Option, Some, None, if◌then◌else◌, refl, sym, subst, ap, ◌∙◌}
use Rattle.std.specs.Prelude.{⊤, option_and_then, option_map, slice_get}
use Rattle.std.specs.List.{Contains}
use Rattle.bridge_ast.proofs.DistinctLemmas.{contains_at}
use Rattle.bridge_ast.specs.declared.place.ItemPlace.{ItemPlace}
use Rattle.bridge_decl.specs.declared.modules.Item.{Item}
use Rattle.bridge_decl.specs.declared.modules.Item.TheVariants as item
use Rattle.bridge_decl.specs.declared.modules.Module.{Module}
use Rattle.bridge_decl.specs.declared.structs.Struct.{Struct}
use Rattle.bridge_order.proofs.OrderLemmas.{all_ordered, get_there}
use Rattle.bridge_order.specs.Catalog.{entry_at, id_of}
use Rattle.bridge_order.specs.Order.{module_order, of_found}
use Rattle.bridge_places.specs.Entries.{IsCatalog}
use Rattle.bridge_places.specs.Kinds.{item_kind}
use Rattle.bridge_places.specs.Places.{places_of}
use Rattle.bridge_places.specs.declared.kinds.Kind.{Kind}
use Rattle.bridge_places.specs.declared.kinds.Kind.TheVariants as kind
use Rattle.bridge_telling.specs.Telling.{TellsPlaces}
use Rattle.bridge_telling.proofs.GivenLemmas.{given_exactly}
use Rattle.bridge_telling.proofs.PlaceLemmas.{places_as, places_both, places_each, places_none}
use Rattle.hir_attrs.specs.Reading.{marks_errors}
use Rattle.hir_attrs.specs.declared.attrs.Attrs.{Attrs}
use Rattle.hir_items.specs.Inheriting.{item_marks, item_start}
use Rattle.hir_items.specs.Setting.{Setting}
use Rattle.hir_lowering.specs.Interface.{Interface, setting_in}
use Rattle.hir_lowering.specs.Kinds.{ItemTelling, told_of_enum, told_of_function, told_of_opaque, told_of_out_struct, told_of_struct, told_of_trait}
use Rattle.hir_lowering.specs.Lowered.{item_reports_in_order, lowering_reports}
use Rattle.hir_lowering.specs.Placing.{beside_module, each_report, found_at, reports_at, reports_of}
use Rattle.hir_mark_rules.proofs.MarksLemmas.{marks_exactly}
use Rattle.hir_mark_rules.specs.MarkBreaks.{MarksBreak}
use Rattle.hir_mentions.specs.Mentions.{where_any}
use Rattle.hir_modules.specs.ModuleMarks.{all_module_reports, marks_around, module_marks, module_reports, numbered_reports}
use Rattle.hir_reports.specs.declared.report.LoweringReport.{LoweringReport}
use Rattle.hir_rules.specs.Broken.{ItemBreaks, ItemsBreak, LoweringBreaks, ModulesBreak}
use Rattle.hir_rules.specs.Callables.{FunctionBreaks}
use Rattle.hir_rules.specs.Items.{AtItem, EnumBreaks, MethodsBreak, OpaqueBreaks, OutStructBreaks, StructBreaks, TraitItselfBreaks, TraitMethodsBreak}
use Rattle.hir_rules.proofs.AppendLemmas.{in_six}
use Rattle.hir_rules.proofs.ItemLemmas.{at_item_told, enum_reports_told, function_reports_told, opaque_reports_told, out_struct_reports_told, struct_reports_told, trait_reports_told, where_told}

-- ---- modules

no_some : {X : Type 0} (x : X) → ¬ (None ≡ Some x)
no_some x h = cc

same_some : {X : Type 0} (y x : X) → Some x ≡ Some y → y ≡ x
same_some y x h = cc

-- what is told of what is found
places_any : {X : Type 0} (f : X → List LoweringReport) (P : X → LoweringReport → Type 0) → ((x : X) → TellsPlaces where_told (f x) (P x)) → (o : Option X)
    → TellsPlaces where_told (where_any f o) (λ r. (x : X) × ((o ≡ Some x) × P x r))
places_any f P told None = record { each = λ e h. absurd ((places_none where_told).each e h); every = λ e h. absurd (no_some h.0 h.1.0) }
places_any f P told (Some x) = record { each = λ e h. (x, (refl, (told x).each e h)); every = λ e h. (told x).every e (subst (λ y. P y e) (same_some h.0 x h.1.0) h.1.1) }

found_any : (f : Module → List LoweringReport) (o : Option Module) → of_found f o ≡ where_any f o
found_any f None = refl
found_any f (Some m) = refl

module _ (it : Interface) where
  abbrev ModuleBreaks : Module → LoweringReport → Type 0
  ModuleBreaks m = AtItem m.path [] (MarksBreak it.backend m.attrs (marks_around it.backend it.modules m.path))

  module_told : (m : Module) → TellsPlaces where_told (module_reports it.backend it.modules m) (ModuleBreaks m)
  module_told m =
      let around = marks_around it.backend it.modules m.path in
      at_item_told m.path [] (marks_errors it.backend m.attrs around) (MarksBreak it.backend m.attrs around)
      (given_exactly ⊤ (marks_errors it.backend m.attrs around) (MarksBreak it.backend m.attrs around) (marks_exactly it.backend m.attrs around))

  numbered_told : (n : ℕ) → TellsPlaces where_told (numbered_reports it.backend it.modules n) (λ r. (m : Module) × ((slice_get it.modules n ≡ Some m) × ModuleBreaks m r))
  numbered_told n =
      subst (λ told. TellsPlaces where_told told (λ r. (m : Module) × ((slice_get it.modules n ≡ Some m) × ModuleBreaks m r)))
      (sym (found_any (module_reports it.backend it.modules) (slice_get it.modules n)))
      (places_any (module_reports it.backend it.modules) ModuleBreaks module_told (slice_get it.modules n))

  modules_same : (r : LoweringReport) → ((n : ℕ) × (Contains (module_order it.modules) n × ((m : Module) × ((slice_get it.modules n ≡ Some m) × ModuleBreaks m r)))) ↔ ModulesBreak it r
  modules_same r = (
    λ h. (h.1.1.0, (contains_at it.modules h.0 h.1.1.0 h.1.1.1.0, h.1.1.1.1)),
    λ h. (h.1.0.0, (all_ordered it.modules h.1.0.0 h.0 h.1.0.1, (h.0, (get_there it.modules h.1.0.0 h.0 h.1.0.1 ∙ ap Some h.1.0.2, h.1.1)))),
  )

  pub modules_told : TellsPlaces where_told (all_module_reports it.backend it.modules) (ModulesBreak it)
  modules_told =
      places_as where_told (all_module_reports it.backend it.modules) (λ r. (n : ℕ) × (Contains (module_order it.modules) n × ((m : Module) × ((slice_get it.modules n ≡ Some m) × ModuleBreaks m r))))
      (ModulesBreak it) modules_same
      (places_each where_told (numbered_reports it.backend it.modules) (λ n r. (m : Module) × ((slice_get it.modules n ≡ Some m) × ModuleBreaks m r)) numbered_told (module_order it.modules))

-- ---- items of one kind

abbrev pub AtKind : Type 1
AtKind = Setting → List (List ℕ) → ItemPlace → Attrs → Item → LoweringReport → Type 0

abbrev OutStructAt : AtKind
OutStructAt s path place set (item.Struct it) r =
    (it.output_only ≡ true) × (AtItem path it.name (OutStructBreaks s set it) r ⊎ MethodsBreak s path it.name place set (item_marks s.backend set it.attrs) it.methods r)
OutStructAt s path place set _ r = ⊥

abbrev StructAt : AtKind
StructAt s path place set (item.Struct it) r =
    (it.output_only ≡ false) × (AtItem path it.name (StructBreaks s set it) r ⊎ MethodsBreak s path it.name place set (item_marks s.backend set it.attrs) it.methods r)
StructAt s path place set _ r = ⊥

abbrev OpaqueAt : AtKind
OpaqueAt s path place set (item.Opaque it) r = AtItem path it.name (OpaqueBreaks s set it) r ⊎ MethodsBreak s path it.name place set (item_marks s.backend set it.attrs) it.methods r
OpaqueAt s path place set _ r = ⊥

abbrev EnumAt : AtKind
EnumAt s path place set (item.Enum it) r = AtItem path it.name (EnumBreaks s set it) r ⊎ MethodsBreak s path it.name place set (item_marks s.backend set it.attrs) it.methods r
EnumAt s path place set _ r = ⊥

abbrev TraitAt : AtKind
TraitAt s path place set (item.Trait it) r = AtItem path it.name (TraitItselfBreaks s set it) r ⊎ TraitMethodsBreak s path it.name place (item_marks s.backend set it.attrs) it.methods r
TraitAt s path place set _ r = ⊥

abbrev FunctionAt : AtKind
FunctionAt s path place set (item.Function it) r = AtItem path it.name (FunctionBreaks s (item_start set) it) r
FunctionAt s path place set _ r = ⊥

nothing : TellsPlaces where_told [] (λ _. ⊥)
nothing = places_none where_told

out_by : (b : Bool) (told : List LoweringReport) (P : LoweringReport → Type 0) → TellsPlaces where_told told P → TellsPlaces where_told (if b then told else []) (λ r. (b ≡ true) × P r)
out_by true told P t = record { each = λ e h. (refl, t.each e h); every = λ e h. t.every e h.1 }
out_by false told P t = record { each = λ e h. absurd (nothing.each e h); every = λ e h. cc }

in_by : (b : Bool) (told : List LoweringReport) (P : LoweringReport → Type 0) → TellsPlaces where_told told P → TellsPlaces where_told (if b then [] else told) (λ r. (b ≡ false) × P r)
in_by true told P t = record { each = λ e h. absurd (nothing.each e h); every = λ e h. cc }
in_by false told P t = record { each = λ e h. (refl, t.each e h); every = λ e h. t.every e h.1 }

module _ (s : Setting) (path : List (List ℕ)) (place : ItemPlace) (set : Attrs) where
  out_struct_at : (i : Item) → TellsPlaces where_told (told_of_out_struct s path place set i) (OutStructAt s path place set i)
  out_struct_at (item.Struct it) = out_by it.output_only _ _ (out_struct_reports_told s path place set it)
  out_struct_at (item.Opaque it) = nothing
  out_struct_at (item.Enum it) = nothing
  out_struct_at (item.Trait it) = nothing
  out_struct_at (item.Function it) = nothing

  struct_at : (i : Item) → TellsPlaces where_told (told_of_struct s path place set i) (StructAt s path place set i)
  struct_at (item.Struct it) = in_by it.output_only _ _ (struct_reports_told s path place set it)
  struct_at (item.Opaque it) = nothing
  struct_at (item.Enum it) = nothing
  struct_at (item.Trait it) = nothing
  struct_at (item.Function it) = nothing

  opaque_at : (i : Item) → TellsPlaces where_told (told_of_opaque s path place set i) (OpaqueAt s path place set i)
  opaque_at (item.Struct it) = nothing
  opaque_at (item.Opaque it) = opaque_reports_told s path place set it
  opaque_at (item.Enum it) = nothing
  opaque_at (item.Trait it) = nothing
  opaque_at (item.Function it) = nothing

  enum_at : (i : Item) → TellsPlaces where_told (told_of_enum s path place set i) (EnumAt s path place set i)
  enum_at (item.Struct it) = nothing
  enum_at (item.Opaque it) = nothing
  enum_at (item.Enum it) = enum_reports_told s path place set it
  enum_at (item.Trait it) = nothing
  enum_at (item.Function it) = nothing

  trait_at : (i : Item) → TellsPlaces where_told (told_of_trait s path place set i) (TraitAt s path place set i)
  trait_at (item.Struct it) = nothing
  trait_at (item.Opaque it) = nothing
  trait_at (item.Enum it) = nothing
  trait_at (item.Trait it) = trait_reports_told s path place set it
  trait_at (item.Function it) = nothing

  function_at : (i : Item) → TellsPlaces where_told (told_of_function s path place set i) (FunctionAt s path place set i)
  function_at (item.Struct it) = nothing
  function_at (item.Opaque it) = nothing
  function_at (item.Enum it) = nothing
  function_at (item.Trait it) = nothing
  function_at (item.Function it) = function_reports_told s path place set it

  -- ---- one kind and all

  by_use : (it : Struct) (r : LoweringReport) → MethodsBreak s path it.name place set (item_marks s.backend set it.attrs) it.methods r → (b : Bool) → it.output_only ≡ b
      → OutStructAt s path place set (item.Struct it) r ⊎ StructAt s path place set (item.Struct it) r
  by_use it r h true e = inl (e, inr h)
  by_use it r h false e = inr (e, inr h)

  -- what breaks a rule in an item does in one of its kind
  pub of_kind : (i : Item) (r : LoweringReport) → ItemBreaks s path place set i r
      → OutStructAt s path place set i r ⊎ (StructAt s path place set i r ⊎ (OpaqueAt s path place set i r ⊎ (EnumAt s path place set i r ⊎ (TraitAt s path place set i r ⊎ FunctionAt s path place set i r))))
  of_kind (item.Struct it) r h = elim h [
    | inl c ↦ (elim c.1.0 [ inl o ↦ inl (o.0, inl (c.0, (o.1, c.1.1))) | inr n ↦ inr (inl (n.0, inl (c.0, (n.1, c.1.1)))) ])
    | inr c ↦ (elim (by_use it r c it.output_only refl) [ inl o ↦ inl o | inr n ↦ inr (inl n) ])
  ]
  of_kind (item.Opaque it) r h = inr (inr (inl h))
  of_kind (item.Enum it) r h = inr (inr (inr (inl h)))
  of_kind (item.Trait it) r h = inr (inr (inr (inr (inl h))))
  of_kind (item.Function it) r h = elim h [ inl c ↦ inr (inr (inr (inr (inr c)))) | inr c ↦ absurd c ]

  out_struct_any : (i : Item) (r : LoweringReport) → OutStructAt s path place set i r → ItemBreaks s path place set i r
  out_struct_any (item.Struct it) r h = elim h.1 [ inl c ↦ inl (c.0, (inl (h.0, c.1.0), c.1.1)) | inr c ↦ inr c ]
  out_struct_any (item.Opaque it) r h = absurd h
  out_struct_any (item.Enum it) r h = absurd h
  out_struct_any (item.Trait it) r h = absurd h
  out_struct_any (item.Function it) r h = absurd h

  struct_any : (i : Item) (r : LoweringReport) → StructAt s path place set i r → ItemBreaks s path place set i r
  struct_any (item.Struct it) r h = elim h.1 [ inl c ↦ inl (c.0, (inr (h.0, c.1.0), c.1.1)) | inr c ↦ inr c ]
  struct_any (item.Opaque it) r h = absurd h
  struct_any (item.Enum it) r h = absurd h
  struct_any (item.Trait it) r h = absurd h
  struct_any (item.Function it) r h = absurd h

  opaque_any : (i : Item) (r : LoweringReport) → OpaqueAt s path place set i r → ItemBreaks s path place set i r
  opaque_any (item.Struct it) r h = absurd h
  opaque_any (item.Opaque it) r h = h
  opaque_any (item.Enum it) r h = absurd h
  opaque_any (item.Trait it) r h = absurd h
  opaque_any (item.Function it) r h = absurd h

  enum_any : (i : Item) (r : LoweringReport) → EnumAt s path place set i r → ItemBreaks s path place set i r
  enum_any (item.Struct it) r h = absurd h
  enum_any (item.Opaque it) r h = absurd h
  enum_any (item.Enum it) r h = h
  enum_any (item.Trait it) r h = absurd h
  enum_any (item.Function it) r h = absurd h

  trait_any : (i : Item) (r : LoweringReport) → TraitAt s path place set i r → ItemBreaks s path place set i r
  trait_any (item.Struct it) r h = absurd h
  trait_any (item.Opaque it) r h = absurd h
  trait_any (item.Enum it) r h = absurd h
  trait_any (item.Trait it) r h = h
  trait_any (item.Function it) r h = absurd h

  function_any : (i : Item) (r : LoweringReport) → FunctionAt s path place set i r → ItemBreaks s path place set i r
  function_any (item.Struct it) r h = absurd h
  function_any (item.Opaque it) r h = absurd h
  function_any (item.Enum it) r h = absurd h
  function_any (item.Trait it) r h = absurd h
  function_any (item.Function it) r h = inl h

-- ---- all items

module _ (it : Interface) where
  -- an item of a kind, at one of its places
  abbrev At : AtKind → ItemPlace → Module × Item → LoweringReport → Type 0
  At K place found = K (setting_in it place.«module») found.0.path place (module_marks it.backend it.modules found.0) found.1

  abbrev OfKind : AtKind → Kind → LoweringReport → Type 0
  OfKind K k r = (place : ItemPlace) × (Contains (places_of it.modules k) place × ((found : Module × Item) × ((found_at it.modules place ≡ Some found) × At K place found r)))

  kind_told : (told : ItemTelling) (K : AtKind) (k : Kind)
      → ((s : Setting) (path : List (List ℕ)) (place : ItemPlace) (set : Attrs) (i : Item) → TellsPlaces where_told (told s path place set i) (K s path place set i))
      → TellsPlaces where_told (each_report it told (places_of it.modules k)) (OfKind K k)
  kind_told told K k one =
      places_each where_told (reports_at it told) (λ place r. (found : Module × Item) × ((found_at it.modules place ≡ Some found) × At K place found r))
      (λ place. places_any (reports_of it told place) (At K place)
      (λ found. one (setting_in it place.«module») found.0.path place (module_marks it.backend it.modules found.0) found.1) (found_at it.modules place)) (places_of it.modules k)

  abbrev AnyKind : LoweringReport → Type 0
  AnyKind r =
      OfKind OutStructAt kind.OutStruct r ⊎ (OfKind StructAt kind.Struct r ⊎ (OfKind OpaqueAt kind.Opaque r
      ⊎ (OfKind EnumAt kind.Enum r ⊎ (OfKind TraitAt kind.Trait r ⊎ OfKind FunctionAt kind.Function r))))

  kinds_told : TellsPlaces where_told (item_reports_in_order it) AnyKind
  kinds_told =
      in_six (λ told. TellsPlaces where_told told AnyKind) (each_report it told_of_out_struct (places_of it.modules kind.OutStruct)) (each_report it told_of_struct (places_of it.modules kind.Struct))
      (each_report it told_of_opaque (places_of it.modules kind.Opaque)) (each_report it told_of_enum (places_of it.modules kind.Enum)) (each_report it told_of_trait (places_of it.modules kind.Trait))
      (each_report it told_of_function (places_of it.modules kind.Function))
      (places_both where_told _ _ (OfKind OutStructAt kind.OutStruct) _ (kind_told told_of_out_struct OutStructAt kind.OutStruct out_struct_at)
      (places_both where_told _ _ (OfKind StructAt kind.Struct) _ (kind_told told_of_struct StructAt kind.Struct struct_at)
      (places_both where_told _ _ (OfKind OpaqueAt kind.Opaque) _ (kind_told told_of_opaque OpaqueAt kind.Opaque opaque_at)
      (places_both where_told _ _ (OfKind EnumAt kind.Enum) _ (kind_told told_of_enum EnumAt kind.Enum enum_at)
      (places_both where_told _ _ (OfKind TraitAt kind.Trait) (OfKind FunctionAt kind.Function) (kind_told told_of_trait TraitAt kind.Trait trait_at)
      (kind_told told_of_function FunctionAt kind.Function function_at))))))

  -- from one kind to all
  any_item : (K : AtKind) (k : Kind)
      → ((s : Setting) (path : List (List ℕ)) (place : ItemPlace) (set : Attrs) (i : Item) (r : LoweringReport) → K s path place set i r → ItemBreaks s path place set i r)
      → (r : LoweringReport) → OfKind K k r → ItemsBreak it r
  any_item K k so r h = (h.0, (h.1.1.0, (h.1.1.1.0, so (setting_in it h.0.«module») h.1.1.0.0.path h.0 (module_marks it.backend it.modules h.1.1.0.0) h.1.1.0.1 r h.1.1.1.1)))

  module _ (is : IsCatalog it.modules it.catalog) where
    -- an item that is found stands among those of its kind
    item_found : (place : ItemPlace) (m : Option Module) (found : Module × Item) → option_and_then (λ n. beside_module n (slice_get n.items place.item)) m ≡ Some found
        → option_and_then (λ n. slice_get n.items place.item) m ≡ Some found.1
    item_found place None found h = absurd cc
    item_found place (Some m) found h = beside (slice_get m.items place.item) h
      where
        beside : (o : Option Item) → beside_module m o ≡ Some found → o ≡ Some found.1
        beside None e = absurd cc
        beside (Some i) e = ap (option_map (λ pair. pair.1)) e

    stands : (place : ItemPlace) (found : Module × Item) → found_at it.modules place ≡ Some found → Contains (places_of it.modules (item_kind found.1)) place
    stands place found h =
        contains_at (places_of it.modules (item_kind found.1)) (id_of (entry_at it.catalog place)) place
        (is.entries place found.1 (item_found place (slice_get it.modules place.«module») found h)).number

    kind_is : (place : ItemPlace) (found : Module × Item) (k : Kind) → found_at it.modules place ≡ Some found → item_kind found.1 ≡ k → Contains (places_of it.modules k) place
    kind_is place found k h same = subst (λ x. Contains (places_of it.modules x) place) same (stands place found h)

    use_kind : (b c : Bool) → b ≡ c → (if b then kind.OutStruct else kind.Struct) ≡ (if c then kind.OutStruct else kind.Struct)
    use_kind b c e = ap (λ x. if x then kind.OutStruct else kind.Struct) e

    out_kind : (i : Item) (s : Setting) (path : List (List ℕ)) (place : ItemPlace) (set : Attrs) (r : LoweringReport) → OutStructAt s path place set i r → item_kind i ≡ kind.OutStruct
    out_kind (item.Struct x) s path place set r h = use_kind x.output_only true h.0
    out_kind (item.Opaque x) s path place set r h = absurd h
    out_kind (item.Enum x) s path place set r h = absurd h
    out_kind (item.Trait x) s path place set r h = absurd h
    out_kind (item.Function x) s path place set r h = absurd h

    struct_kind : (i : Item) (s : Setting) (path : List (List ℕ)) (place : ItemPlace) (set : Attrs) (r : LoweringReport) → StructAt s path place set i r → item_kind i ≡ kind.Struct
    struct_kind (item.Struct x) s path place set r h = use_kind x.output_only false h.0
    struct_kind (item.Opaque x) s path place set r h = absurd h
    struct_kind (item.Enum x) s path place set r h = absurd h
    struct_kind (item.Trait x) s path place set r h = absurd h
    struct_kind (item.Function x) s path place set r h = absurd h

    opaque_kind : (i : Item) (s : Setting) (path : List (List ℕ)) (place : ItemPlace) (set : Attrs) (r : LoweringReport) → OpaqueAt s path place set i r → item_kind i ≡ kind.Opaque
    opaque_kind (item.Struct x) s path place set r h = absurd h
    opaque_kind (item.Opaque x) s path place set r h = refl
    opaque_kind (item.Enum x) s path place set r h = absurd h
    opaque_kind (item.Trait x) s path place set r h = absurd h
    opaque_kind (item.Function x) s path place set r h = absurd h

    enum_kind : (i : Item) (s : Setting) (path : List (List ℕ)) (place : ItemPlace) (set : Attrs) (r : LoweringReport) → EnumAt s path place set i r → item_kind i ≡ kind.Enum
    enum_kind (item.Struct x) s path place set r h = absurd h
    enum_kind (item.Opaque x) s path place set r h = absurd h
    enum_kind (item.Enum x) s path place set r h = refl
    enum_kind (item.Trait x) s path place set r h = absurd h
    enum_kind (item.Function x) s path place set r h = absurd h

    trait_kind : (i : Item) (s : Setting) (path : List (List ℕ)) (place : ItemPlace) (set : Attrs) (r : LoweringReport) → TraitAt s path place set i r → item_kind i ≡ kind.Trait
    trait_kind (item.Struct x) s path place set r h = absurd h
    trait_kind (item.Opaque x) s path place set r h = absurd h
    trait_kind (item.Enum x) s path place set r h = absurd h
    trait_kind (item.Trait x) s path place set r h = refl
    trait_kind (item.Function x) s path place set r h = absurd h

    function_kind : (i : Item) (s : Setting) (path : List (List ℕ)) (place : ItemPlace) (set : Attrs) (r : LoweringReport) → FunctionAt s path place set i r → item_kind i ≡ kind.Function
    function_kind (item.Struct x) s path place set r h = absurd h
    function_kind (item.Opaque x) s path place set r h = absurd h
    function_kind (item.Enum x) s path place set r h = absurd h
    function_kind (item.Trait x) s path place set r h = absurd h
    function_kind (item.Function x) s path place set r h = refl

    -- from all to the kind
    place_in : (K : AtKind) (k : Kind) (place : ItemPlace) (found : Module × Item) (r : LoweringReport) → found_at it.modules place ≡ Some found → item_kind found.1 ≡ k → At K place found r → OfKind K k r
    place_in K k place found r h same b = (place, (kind_is place found k h same, (found, (h, b))))

    its_kind : (r : LoweringReport) → ItemsBreak it r → AnyKind r
    its_kind r h =
        let place = h.0 in
        let found = h.1.0 in
        let s = setting_in it place.«module» in
        let set = module_marks it.backend it.modules found.0 in
        elim (of_kind s found.0.path place set found.1 r h.1.1.1) [
          | inl b ↦ inl (place_in OutStructAt kind.OutStruct place found r h.1.1.0 (out_kind found.1 s found.0.path place set r b) b)
          | inr c ↦ (elim c [
            | inl b ↦ inr (inl (place_in StructAt kind.Struct place found r h.1.1.0 (struct_kind found.1 s found.0.path place set r b) b))
            | inr d ↦ (elim d [
              | inl b ↦ inr (inr (inl (place_in OpaqueAt kind.Opaque place found r h.1.1.0 (opaque_kind found.1 s found.0.path place set r b) b)))
              | inr e ↦ (elim e [
                | inl b ↦ inr (inr (inr (inl (place_in EnumAt kind.Enum place found r h.1.1.0 (enum_kind found.1 s found.0.path place set r b) b))))
                | inr f ↦ (elim f [
                  | inl b ↦ inr (inr (inr (inr (inl (place_in TraitAt kind.Trait place found r h.1.1.0 (trait_kind found.1 s found.0.path place set r b) b)))))
                  | inr b ↦ inr (inr (inr (inr (inr (place_in FunctionAt kind.Function place found r h.1.1.0 (function_kind found.1 s found.0.path place set r b) b)))))
                ])
              ])
            ])
          ])
        ]

    items_same : (r : LoweringReport) → AnyKind r ↔ ItemsBreak it r
    items_same r = (
      λ h. elim h [
        | inl b ↦ any_item OutStructAt kind.OutStruct out_struct_any r b
        | inr c ↦ (elim c [
          | inl b ↦ any_item StructAt kind.Struct struct_any r b
          | inr d ↦ (elim d [
            | inl b ↦ any_item OpaqueAt kind.Opaque opaque_any r b
            | inr e ↦ (elim e [
              | inl b ↦ any_item EnumAt kind.Enum enum_any r b
              | inr f ↦ (elim f [ inl b ↦ any_item TraitAt kind.Trait trait_any r b | inr b ↦ any_item FunctionAt kind.Function function_any r b ])
            ])
          ])
        ])
      ],
      λ h. its_kind r h,
    )

    -- all that is told while declarations are lowered
    pub lowering_told : TellsPlaces where_told (lowering_reports it) (LoweringBreaks it)
    lowering_told =
        places_both where_told (all_module_reports it.backend it.modules) (item_reports_in_order it) (ModulesBreak it) (ItemsBreak it) (modules_told it)
        (places_as where_told (item_reports_in_order it) AnyKind (ItemsBreak it) items_same kinds_told)
