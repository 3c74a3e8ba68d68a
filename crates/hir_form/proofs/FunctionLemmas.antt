-- Only a function has the shape of one.
use Rattle.std.proofs.Common.{Option, Some, None}
use Rattle.bridge_decl.specs.declared.types.StdlibOrDiplomat.{StdlibOrDiplomat}
use Rattle.bridge_order.specs.Catalog.{entry_at}
use Rattle.bridge_rules.specs.Shapes.{box_shape, item_shape, lent_for, level_option, named_entry, option_of_box, option_of_item, option_of_reference, reference_shape, shape_of_level}
use Rattle.bridge_order.specs.declared.catalog.Catalog.{Catalog}
use Rattle.bridge_order.specs.declared.catalog.Entry.{Entry}
use Rattle.bridge_order.specs.declared.catalog.Entry.TheVariants as entry
use Rattle.hir_ids.specs.declared.owners.Borrow.{Borrow}
use Rattle.hir_number.specs.declared.numbered.NumberedType.{NumberedType, out-NumberedType}
use Rattle.hir_number.specs.declared.numbered.NumberedType.TheOpen.{NumberedType-F}
use Rattle.std.specs.Prelude.{⊤}
use Rattle.hir_form.proofs.InLemmas.{IsNoFunction}

item_no : (e : Entry) → IsNoFunction (item_shape e)
item_no (entry.Struct _ _) = tt
item_no (entry.OutStruct _ _) = tt
item_no (entry.Opaque _ _) = tt
item_no (entry.Enum _) = tt
item_no (entry.Trait _) = tt
item_no (entry.Function _) = tt

reference_no : (b : Borrow) (e : Option Entry) → IsNoFunction (reference_shape b e)
reference_no b (Some (entry.Struct _ _)) = tt
reference_no b (Some (entry.OutStruct _ _)) = tt
reference_no b (Some (entry.Opaque _ _)) = tt
reference_no b (Some (entry.Enum _)) = tt
reference_no b (Some (entry.Trait _)) = tt
reference_no b (Some (entry.Function _)) = tt
reference_no b None = tt

box_no : (e : Option Entry) → IsNoFunction (box_shape e)
box_no (Some (entry.Struct _ _)) = tt
box_no (Some (entry.OutStruct _ _)) = tt
box_no (Some (entry.Opaque _ _)) = tt
box_no (Some (entry.Enum _)) = tt
box_no (Some (entry.Trait _)) = tt
box_no (Some (entry.Function _)) = tt
box_no None = tt

option_item_no : (e : Entry) (d : StdlibOrDiplomat) → IsNoFunction (option_of_item e d)
option_item_no (entry.Struct _ _) d = tt
option_item_no (entry.OutStruct _ _) d = tt
option_item_no (entry.Opaque _ _) d = tt
option_item_no (entry.Enum _) d = tt
option_item_no (entry.Trait _) d = tt
option_item_no (entry.Function _) d = tt

option_reference_no : (b : Borrow) (e : Option Entry) (d : StdlibOrDiplomat) → IsNoFunction (option_of_reference b e d)
option_reference_no b (Some (entry.Struct _ _)) d = tt
option_reference_no b (Some (entry.OutStruct _ _)) d = tt
option_reference_no b (Some (entry.Opaque _ _)) d = tt
option_reference_no b (Some (entry.Enum _)) d = tt
option_reference_no b (Some (entry.Trait _)) d = tt
option_reference_no b (Some (entry.Function _)) d = tt
option_reference_no b None d = tt

option_box_no : (e : Option Entry) (d : StdlibOrDiplomat) → IsNoFunction (option_of_box e d)
option_box_no (Some (entry.Struct _ _)) d = tt
option_box_no (Some (entry.OutStruct _ _)) d = tt
option_box_no (Some (entry.Opaque _ _)) d = tt
option_box_no (Some (entry.Enum _)) d = tt
option_box_no (Some (entry.Trait _)) d = tt
option_box_no (Some (entry.Function _)) d = tt
option_box_no None d = tt

option_no : (catalog : Catalog) (d : StdlibOrDiplomat) (x : NumberedType-F NumberedType) → IsNoFunction (level_option catalog d x)
option_no catalog d (NumberedType-F.Named t) = option_item_no (entry_at catalog t.place) d
option_no catalog d (NumberedType-F.SelfType t) = option_item_no (entry_at catalog t.place) d
option_no catalog d (NumberedType-F.Reference l m t) = option_reference_no (lent_for l m) (named_entry catalog t) d
option_no catalog d (NumberedType-F.Box t) = option_box_no (named_entry catalog t) d
option_no catalog d _ = tt

abbrev pub IsOther : NumberedType-F NumberedType → Type 0
IsOther (NumberedType-F.Function _ _ _) = ⊥
IsOther _ = ⊤

pub level_no : (catalog : Catalog) (x : NumberedType-F NumberedType) → IsOther x → IsNoFunction (shape_of_level catalog x)
level_no catalog (NumberedType-F.Named t) n = item_no (entry_at catalog t.place)
level_no catalog (NumberedType-F.SelfType t) n = item_no (entry_at catalog t.place)
level_no catalog (NumberedType-F.Reference l m t) n = reference_no (lent_for l m) (named_entry catalog t)
level_no catalog (NumberedType-F.Box t) n = box_no (named_entry catalog t)
level_no catalog (NumberedType-F.Option t d) n = option_no catalog d (out-NumberedType t)
level_no catalog (NumberedType-F.Function _ _ _) n = absurd n
level_no catalog _ n = tt
