-- Nothing is reported while the made declarations are lowered.
use Rattle.std.proofs.Common.{◌≡◌, ℕ, ◌^◌, ◌<◌, true, List, [], ◌++◌, Option, Some, None, refl, sym, ap, subst, ◌∙◌}
use Rattle.bridge_ast.specs.declared.place.ItemPlace.{ItemPlace}
use Rattle.bridge_decl.specs.declared.modules.Item.{Item}
use Rattle.bridge_decl.specs.declared.modules.Item.TheVariants as item
use Rattle.bridge_decl.specs.declared.modules.Module.{Module}
use Rattle.bridge_generate.specs.Generated.{function_numbered, generated_module, struct_numbered, the_opaque}
use Rattle.bridge_places.specs.Places.{places_of}
use Rattle.bridge_places.specs.declared.kinds.Kind.TheVariants as kind
use Rattle.hir_attrs.specs.declared.attrs.Attrs.{Attrs}
use Rattle.hir_backends.specs.Backend.{Backend}
use Rattle.hir_items.specs.Setting.{Setting}
use Rattle.hir_lowering.specs.Interface.{Interface, setting_in}
use Rattle.hir_lowering.specs.Kinds.{ItemTelling, told_of_enum, told_of_function, told_of_opaque, told_of_out_struct, told_of_struct, told_of_trait}
use Rattle.hir_lowering.specs.Lowered.{item_reports_in_order, lowering_reports}
use Rattle.hir_lowering.specs.Placing.{each_report, found_at, reports_at, reports_of}
use Rattle.hir_mentions.specs.Mentions.{where_any}
use Rattle.hir_modules.specs.ModuleMarks.{all_module_reports, module_marks}
use Rattle.bridge_measure.specs.Measured.{measured}
use Rattle.bridge_measure.specs.inside.Made.{AreAsMade, IsMadeAt}
use Rattle.bridge_measure.proofs.EmptyLemmas.{both_empty, each_empty}
use Rattle.bridge_measure.proofs.ItemLemmas.{function_unreported, opaque_unreported, struct_unreported}
use Rattle.bridge_measure.proofs.PlaceLemmas.{in_root}

-- what is found at a place is one of the items that are made there, in the one module
abbrev pub AreFound : ℕ → Type 0
AreFound count = (place : ItemPlace) (found : Module × Item) → found_at (measured count) place ≡ Some found
    → (found.0 ≡ generated_module count) × IsMadeAt count place found.1

-- of the modules
modules_unreported : (count : ℕ) (backend : Backend) → all_module_reports backend (measured count) ≡ []
modules_unreported count backend = refl

-- ---- of an item

module _ (count : ℕ) (fits : count < 2 ^ 64) where
  -- nothing is told so of items that are made, where the functions are supported and the paths mean what they are meant to
  abbrev TellsNothing : ItemTelling → Type 0
  TellsNothing told =
      (s : Setting) → AreAsMade count s.names s.catalog → s.support.free_functions ≡ true
      → (path : List (List ℕ)) (place : ItemPlace) (set : Attrs) (i : Item)
      → IsMadeAt count place i → told s path place set i ≡ []

  -- by the items themselves
  by_items : (told : ItemTelling)
      → ((s : Setting) (path : List (List ℕ)) (place : ItemPlace) (set : Attrs) → told s path place set (item.Opaque the_opaque) ≡ [])
      → ((s : Setting) → AreAsMade count s.names s.catalog → (path : List (List ℕ)) (place : ItemPlace) (set : Attrs) (k : ℕ) → k < count
      → told s path place set (item.Struct (struct_numbered k)) ≡ [])
      → ((s : Setting) → AreAsMade count s.names s.catalog → s.support.free_functions ≡ true
      → (path : List (List ℕ)) (place : ItemPlace) (set : Attrs) (k : ℕ) → k < count
      → told s path place set (item.Function (function_numbered k)) ≡ [])
      → TellsNothing told
  by_items told opaque struct function s known on path place set i (IsMadeAt.opaque there is) =
      ap (told s path place set) is ∙ opaque s path place set
  by_items told opaque struct function s known on path place set i (IsMadeAt.struct k within there is) =
      ap (told s path place set) is ∙ struct s known path place set k within
  by_items told opaque struct function s known on path place set i (IsMadeAt.function k within there is) =
      ap (told s path place set) is ∙ function s known on path place set k within

  out_structs : TellsNothing told_of_out_struct
  out_structs = by_items told_of_out_struct (λ s path place set. refl) (λ s known path place set k within. refl) (λ s known on path place set k within. refl)

  structs : TellsNothing told_of_struct
  structs = by_items told_of_struct (λ s path place set. refl)
      (λ s known path place set k within. struct_unreported count s known fits path set k within place) (λ s known on path place set k within. refl)

  opaques : TellsNothing told_of_opaque
  opaques = by_items told_of_opaque opaque_unreported (λ s known path place set k within. refl) (λ s known on path place set k within. refl)

  enums : TellsNothing told_of_enum
  enums = by_items told_of_enum (λ s path place set. refl) (λ s known path place set k within. refl) (λ s known on path place set k within. refl)

  traits : TellsNothing told_of_trait
  traits = by_items told_of_trait (λ s path place set. refl) (λ s known path place set k within. refl) (λ s known on path place set k within. refl)

  functions : TellsNothing told_of_function
  functions = by_items told_of_function (λ s path place set. refl) (λ s known path place set k within. refl)
      (λ s known on path place set k within. function_unreported count s known fits path set k within on)

  -- ---- of all

  module _ (it : Interface) (made_so : it.modules ≡ measured count) (known : AreAsMade count (it.names 0) it.catalog)
      (on : it.backend.supports.free_functions ≡ true) (found : AreFound count)
    where
      found_unreported : (told : ItemTelling) → TellsNothing told → (place : ItemPlace) (m : Module × Item) → IsMadeAt count place m.1
          → reports_of it told place m ≡ []
      found_unreported told nothing place m is =
          nothing (setting_in it place.«module») (subst (λ n. AreAsMade count (it.names n) it.catalog) (sym (in_root count place m.1 is)) known) on
          m.0.path place (module_marks it.backend it.modules m.0) m.1 is

      at_place : (told : ItemTelling) → TellsNothing told → (place : ItemPlace) (o : Option (Module × Item)) → found_at (measured count) place ≡ o
          → where_any (reports_of it told place) o ≡ []
      at_place told nothing place None is = refl
      at_place told nothing place (Some m) is = found_unreported told nothing place m (found place m is).1

      place_unreported : (told : ItemTelling) → TellsNothing told → (place : ItemPlace) → reports_at it told place ≡ []
      place_unreported told nothing place =
          ap (λ modules. where_any (reports_of it told place) (found_at modules place)) made_so
          ∙ at_place told nothing place (found_at (measured count) place) refl

      kind_unreported : (told : ItemTelling) → TellsNothing told → (places : List ItemPlace) → each_report it told places ≡ []
      kind_unreported told nothing places = each_empty (reports_at it told) (place_unreported told nothing) places

      items_unreported : item_reports_in_order it ≡ []
      items_unreported =
          let outs = each_report it told_of_out_struct (places_of it.modules kind.OutStruct) in
          let ins = each_report it told_of_struct (places_of it.modules kind.Struct) in
          let lent = each_report it told_of_opaque (places_of it.modules kind.Opaque) in
          let chosen = each_report it told_of_enum (places_of it.modules kind.Enum) in
          let given = each_report it told_of_trait (places_of it.modules kind.Trait) in
          let called = each_report it told_of_function (places_of it.modules kind.Function) in
          both_empty ((((outs ++ ins) ++ lent) ++ chosen) ++ given) called
          (both_empty (((outs ++ ins) ++ lent) ++ chosen) given
          (both_empty ((outs ++ ins) ++ lent) chosen
          (both_empty (outs ++ ins) lent
          (both_empty outs ins (kind_unreported told_of_out_struct out_structs (places_of it.modules kind.OutStruct))
          (kind_unreported told_of_struct structs (places_of it.modules kind.Struct)))
          (kind_unreported told_of_opaque opaques (places_of it.modules kind.Opaque)))
          (kind_unreported told_of_enum enums (places_of it.modules kind.Enum)))
          (kind_unreported told_of_trait traits (places_of it.modules kind.Trait)))
          (kind_unreported told_of_function functions (places_of it.modules kind.Function))

      pub nothing_reported : lowering_reports it ≡ []
      nothing_reported =
          both_empty (all_module_reports it.backend it.modules) (item_reports_in_order it)
          (ap (all_module_reports it.backend) made_so ∙ modules_unreported count it.backend) items_unreported
