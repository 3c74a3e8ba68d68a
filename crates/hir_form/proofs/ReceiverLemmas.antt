-- A receiver of which nothing is wrong stands for something.
use Rattle.std.proofs.Common.{◌≡◌, [], true, Option, Some, None, is_some, refl}
use Rattle.bridge_decl.specs.declared.types.Mutability.{Mutability}
use Rattle.bridge_grid.specs.Items.{lent_receiver_faults, own_receiver_faults, receiver_faults}
use Rattle.bridge_order.specs.Catalog.{entry_at}
use Rattle.bridge_rules.specs.Shapes.{lent_for}
use Rattle.bridge_order.specs.declared.catalog.Catalog.{Catalog}
use Rattle.bridge_order.specs.declared.catalog.Entry.{Entry}
use Rattle.bridge_order.specs.declared.catalog.Entry.TheVariants as entry
use Rattle.hir_backends.specs.declared.support.BackendAttrSupport.{BackendAttrSupport}
use Rattle.hir_ids.specs.declared.owners.Borrow.{Borrow}
use Rattle.hir_life.specs.declared.maybe_static.MaybeStatic.{MaybeStatic}
use Rattle.hir_number.specs.declared.numbered.Target.{Target}
use Rattle.std.specs.Prelude.{ℕ}
use Rattle.hir_form.specs.Forms.{Generics}
use Rattle.hir_form.specs.ReceiverForms.{entry_receiver, receiver_form}
use Rattle.hir_form.proofs.EmptyLemmas.{no_cons}

own_given : (ls : Generics) (e : Entry) → own_receiver_faults e ≡ [] → is_some (entry_receiver ls None e) ≡ true
own_given ls (entry.Struct _ _) h = refl
own_given ls (entry.OutStruct _ _) h = absurd (no_cons h)
own_given ls (entry.Opaque _ _) h = absurd (no_cons h)
own_given ls (entry.Enum _) h = refl
own_given ls (entry.Trait _) h = refl
own_given ls (entry.Function _) h = refl

lent_given : (support : BackendAttrSupport) (m : Mutability) (b : Borrow) (ls : Generics) (e : Entry)
    → lent_receiver_faults support m e ≡ [] → is_some (entry_receiver ls (Some b) e) ≡ true
lent_given support m b ls (entry.Struct _ _) h = refl
lent_given support m b ls (entry.OutStruct _ _) h = absurd (no_cons h)
lent_given support m b ls (entry.Opaque _ _) h = refl
lent_given support m b ls (entry.Enum _) h = refl
lent_given support m b ls (entry.Trait _) h = refl
lent_given support m b ls (entry.Function _) h = refl

pub receiver_given : (support : BackendAttrSupport) (catalog : Catalog) (borrow : Option (MaybeStatic ℕ × Mutability)) (target : Target)
    → receiver_faults support catalog borrow target.place ≡ [] → is_some (receiver_form catalog borrow target) ≡ true
receiver_given support catalog (Some b) target h = lent_given support b.1 (lent_for b.0 b.1) target.lifetimes (entry_at catalog target.place) h
receiver_given support catalog None target h = own_given target.lifetimes (entry_at catalog target.place) h
