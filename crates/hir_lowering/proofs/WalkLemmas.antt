-- Reports that are added one list after another.
use Rattle.std.proofs.Common.{IfOk, OnOk, Result, Ok, Err, ◌≡◌, ◌<◌, ◌+◌, ℕ, List, [], ◌∷◌, ◌++◌, Option, append_assoc, ap, get_or, length, sym, take, ◌∙◌}
use Rattle.std.specs.List.{cons_option, filter_map, flat_map}
use Rattle.std.proofs.lemmas.List.{take_more}
use Rattle.std.proofs.lemmas.List.Elements.{filter_map-append}
use Rattle.bridge_decl.specs.declared.modules.Module.{Module}
use Rattle.bridge_order.specs.declared.catalog.Catalog.{Catalog}
use Rattle.bridge_places.specs.Entries.{IsCatalog}
use Rattle.hir_backends.specs.Backend.{Backend}
use Rattle.hir_config.specs.declared.config.LoweringConfig.{LoweringConfig}
use Rattle.hir_mentions.proofs.Listing.{next_listed}
use Rattle.hir_modules.specs.Holding.{HoldsStill}
use Rattle.hir_modules.specs.ModuleMarks.{all_module_reports}
use Rattle.hir_number.specs.Naming.{Naming}
use Rattle.hir_reports.specs.Store.{Held}
use Rattle.hir_usage_notes.specs.declared.definitions.LoweredDefinitions.{LoweredDefinitions}
use Rattle.hir_lowering.specs.Lowered.{AreLowered, item_reports_in_order}
use Rattle.hir_lowering.specs.Walks.{Walks, interface_of}

-- one list behind others
pub told_next :
    {X A : Type 0} (f : X → List A) (xs : List X) (i : ℕ) (x : X) (before now new : List A)
    → i < length xs → x ≡ get_or xs i x → now ≡ before ++ flat_map f (take i xs) → new ≡ now ++ f x
    → new ≡ before ++ flat_map f (take (i + 1) xs)
told_next f xs i x before now new within is so_far next =
    next
    ∙ ap (λ rs. rs ++ f x) so_far
    ∙ append_assoc before (flat_map f (take i xs)) (f x)
    ∙ ap (λ rs. before ++ rs) (next_listed f xs i x within is)

-- what is made of one more
pub made_next :
    {X A : Type 0} (f : X → Option A) (xs : List X) (i : ℕ) (x : X) (now new : List A)
    → i < length xs → x ≡ get_or xs i x → now ≡ filter_map f (take i xs) → new ≡ now ++ cons_option (f x) []
    → new ≡ filter_map f (take (i + 1) xs)
made_next f xs i x now new within is so_far next =
    next
    ∙ ap (λ ys. ys ++ cons_option (f x) []) so_far
    ∙ sym (filter_map-append f (take i xs) (x ∷ []))
    ∙ ap (λ y. filter_map f (take i xs ++ y ∷ [])) is
    ∙ ap (λ ys. filter_map f ys) (sym (take_more xs i x within))

-- a list behind others, as one
pub told_behind : {A : Type 0} (r x y now new : List A) → now ≡ r ++ x → new ≡ now ++ y → new ≡ r ++ (x ++ y)
told_behind r x y now new so_far next = next ∙ ap (λ rs. rs ++ y) so_far ∙ append_assoc r x y

-- what was held is still held after two steps
pub holds_both : (a b c : Held) → HoldsStill a b → HoldsStill b c → HoldsStill a c
holds_both a b c first second = record {
  more = first.more ++ second.more;
  reports = second.reports ∙ ap (λ rs. rs ++ second.more) first.reports ∙ append_assoc a.reports first.more second.more;
}

-- the modules, and then all items
pub walks_on :
    {E : Type 0} (modules : List Module) (backend : Backend) (config : LoweringConfig) (names : ℕ → Naming) (old mid new : Held) (catalog : Catalog)
    (result : Result LoweredDefinitions E) → IsCatalog modules catalog → mid.reports ≡ old.reports ++ all_module_reports backend modules
    → OnOk result (new.reports ≡ mid.reports ++ item_reports_in_order (interface_of modules backend config names catalog))
    → IfOk result (AreLowered (interface_of modules backend config names catalog)) → Walks modules backend config names old new result
walks_on modules backend config names old mid new catalog (Ok d) is of_modules of_items made = record {
  catalog = catalog;
  is = is;
  told = told_behind old.reports (all_module_reports backend modules) (item_reports_in_order (interface_of modules backend config names catalog))
      mid.reports new.reports of_modules of_items;
  made = made;
}
walks_on modules backend config names old mid new catalog (Err e) is of_modules of_items made = tt
