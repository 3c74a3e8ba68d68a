-- The same of `All`.
use Rattle.std.proofs.Common.{ℕ, List, ◌++◌, Option, Some, None}
use Rattle.std.specs.Prelude.{IfSome}
use Rattle.std.specs.List.{All}
use Rattle.bridge_decl.specs.declared.types.Mutability.{Mutability}
use Rattle.bridge_order.specs.Catalog.{id_of}
use Rattle.bridge_order.specs.declared.catalog.Catalog.{Catalog}
use Rattle.bridge_order.specs.declared.catalog.Entry.{Entry}
use Rattle.hir_elide.proofs.BelowLemmas.{Each, each_all}
use Rattle.hir_fitting.specs.Fitting.{Fits}
use Rattle.hir_fitting.specs.declared.census.Census.{Census}
use Rattle.hir_form.specs.Forms.{Generics, trait_path}
use Rattle.hir_form.specs.ReceiverForms.{receiver_form}
use Rattle.hir_life.specs.declared.maybe_static.MaybeStatic.{MaybeStatic}
use Rattle.hir_mentions.specs.Mentions.{Mentioned}
use Rattle.hir_mentions.specs.Types.{receiver_mentions, trait_path_mentions}
use Rattle.hir_number.specs.declared.numbered.NumberedType.{NumberedType}
use Rattle.hir_number.specs.declared.numbered.Target.{Target}
use Rattle.hir_fitting_forms.specs.Names.{borrow_names, names_in_type, own_names}
use Rattle.hir_fitting_forms.specs.NumberedFits.{NameFits, PathFits, ReceiverFits, TypeFits, trait_entered}
use Rattle.hir_fitting_forms.proofs.Formed.{Fitting}
use Rattle.hir_fitting_forms.proofs.Lists.{each_back, each_from_all, each_front}
use Rattle.hir_fitting_forms.proofs.Positions.{receiver_made}
use Rattle.hir_fitting_forms.proofs.Shaped.{AllKnown, Known, trait_fits}

module _ (census : Census) (count : ℕ) where
  pub settled : {A : Type 0} (parts : A → List Mentioned) (x : Option A) → IfSome x (λ a. Each (Fitting census count) (parts a)) → IfSome x (λ a. All (Fits census (Some count)) (parts a))
  settled parts (Some a) h = each_all (Fits census (Some count)) (parts a) h
  settled parts None h = tt

  -- of what is made of a type
  pub type_settled : {A : Type 0} (catalog : Catalog) (form : NumberedType → Option A) (parts : A → List Mentioned)
      → ((ty : NumberedType) → AllKnown census count catalog ty → IfSome (form ty) (λ a. Each (Fitting census count) (parts a)))
      → (ty : NumberedType) → TypeFits census catalog count ty → IfSome (form ty) (λ a. All (Fits census (Some count)) (parts a))
  type_settled catalog form parts makes ty all = settled parts (form ty) (makes ty (each_from_all (NameFits census catalog count) (names_in_type ty) all))

  pub receiver_settled : (catalog : Catalog) (borrow : Option (MaybeStatic ℕ × Mutability)) (target : Target) → ReceiverFits census catalog count borrow target
      → IfSome (receiver_form catalog borrow target) (λ r. All (Fits census (Some count)) (receiver_mentions r))
  receiver_settled catalog borrow target all =
      let known = Known census count catalog in
      let each = each_from_all known (borrow_names borrow ++ own_names (Some target)) all in
      settled receiver_mentions (receiver_form catalog borrow target)
      (receiver_made census count catalog borrow target (each_front known (borrow_names borrow) (own_names (Some target)) each) (each_back known (borrow_names borrow) (own_names (Some target)) each))

  -- the path of a trait's receiver
  pub trait_settled : (ls : Generics) (e : Entry) → PathFits census count (trait_entered e) ls → All (Fits census (Some count)) (trait_path_mentions (trait_path ls (id_of e)))
  trait_settled ls e h = each_all (Fits census (Some count)) (trait_path_mentions (trait_path ls (id_of e))) (trait_fits census count ls e h, tt)
