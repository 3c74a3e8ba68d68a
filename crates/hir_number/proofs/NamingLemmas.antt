-- What is found of a path is what the naming has.
use Rattle.std.proofs.Common.{◌≡◌, ◌⊎◌, inl, inr, ℕ, List, Bool, true, false, Option, Some, None, refl, sym, ap, subst, ◌∙◌}
use Rattle.std.specs.Prelude.{◌↔◌, option_map}
use Rattle.bridge_decl.specs.declared.modules.Module.{Module}
use Rattle.bridge_decl.specs.declared.modules.Item.{Item}
use Rattle.bridge_decl.specs.declared.traits.Trait.{Trait as TraitDeclaration}
use Rattle.bridge_decl.specs.declared.modules.Item.TheVariants as item
use Rattle.bridge_ast.specs.declared.place.ItemPlace.{ItemPlace}
use Rattle.bridge_ast.specs.Paths.{NamesItem}
use Rattle.bridge_ast.specs.Types.{NamesTrait, NamesType, is_type, item_of}
use Rattle.hir_number.specs.Naming.{IsNaming, Naming}

-- an answer that is found exactly where something is so, and what is known to be so exactly where it is that
pub same_found : {X Y Z : Type 0} (f : X → Y × Z) (found : Option X) (known : Option (Y × Z)) (P : Y → Z → Type 0)
    → ((y : Y) (z : Z) → (option_map f found ≡ Some (y, z)) ↔ P y z)
    → ((found ≡ None) ↔ ((y : Y) (z : Z) → ¬ P y z))
    → ((y : Y) (z : Z) → (known ≡ Some (y, z)) ↔ P y z)
    → option_map f found ≡ known
same_found f (Some x) known P some none is = sym ((is (f x).0 (f x).1).1 ((some (f x).0 (f x).1).0 refl))
same_found f None None P some none is = refl
same_found f None (Some both) P some none is = absurd (none.0 refl both.0 both.1 ((is both.0 both.1).0 refl))

-- ---- a naming

abbrev if_type : Bool → Item → ItemPlace → Option (Item × ItemPlace)
if_type true found place = Some (found, place)
if_type false found place = None

abbrev typed : ItemPlace → Option Item → Option (Item × ItemPlace)
typed place None = None
typed place (Some found) = if_type (is_type found) found place

abbrev traited : ItemPlace → Option Item → Option (TraitDeclaration × ItemPlace)
traited place (Some (item.Trait found)) = Some (found, place)
traited place _ = None

abbrev Decided : List Module → ℕ → List (List ℕ) → Type 0
Decided modules number path = ((place : ItemPlace) × NamesItem modules number path place) ⊎ ((place : ItemPlace) → ¬ NamesItem modules number path place)

abbrev pair_or : {A B : Type 0} → A × B → Option (A × B) → A × B
pair_or d (Some both) = both
pair_or d None = d

module _ (modules : List Module) (number : ℕ) (once : (path : List (List ℕ)) (one other : ItemPlace) → NamesItem modules number path one → NamesItem modules number path other → one ≡ other) where
  abbrev type_by : {path : List (List ℕ)} → Decided modules number path → Option (Item × ItemPlace)
  type_by (inl found) = typed found.0 (item_of modules found.0)
  type_by (inr none) = None

  abbrev trait_by : {path : List (List ℕ)} → Decided modules number path → Option (TraitDeclaration × ItemPlace)
  trait_by (inl found) = traited found.0 (item_of modules found.0)
  trait_by (inr none) = None

  typed_is : (place : ItemPlace) (o : Option Item) (found : Item) (at : ItemPlace) → typed place o ≡ Some (found, at) → (place ≡ at) × (o ≡ Some found) × (is_type found ≡ true)
  typed_is place None found at h = absurd cc
  typed_is place (Some it) found at h = by (is_type it) refl h
    where
      by : (b : Bool) → is_type it ≡ b → if_type b it place ≡ Some (found, at) → (place ≡ at) × (Some it ≡ Some found) × (is_type found ≡ true)
      by false kind k = absurd cc
      by true kind k =
          let same : (it, place) ≡ (found, at) = ap (λ o. pair_or (it, place) o) k in
          (ap (λ p. p.1) same, ap (λ p. Some p.0) same, ap (λ p. is_type p.0) (sym same) ∙ kind)

  typed_so : (found : Item) (at : ItemPlace) → is_type found ≡ true → typed at (Some found) ≡ Some (found, at)
  typed_so found at kind = ap (λ b. if_type b found at) kind

  types_so : (path : List (List ℕ)) (d : Decided modules number path) (found : Item) (at : ItemPlace) → (type_by d ≡ Some (found, at)) ↔ NamesType modules number path found at
  types_so path (inl here) found at = (
    λ h.
        let parts = typed_is here.0 (item_of modules here.0) found at h in
        record { names = subst (λ p. NamesItem modules number path p) parts.0 here.1; stands = ap (item_of modules) (sym parts.0) ∙ parts.1; kind = parts.2 },
    λ named.
        let same = once path here.0 at here.1 named.names in
        ap (λ p. typed p (item_of modules p)) same ∙ ap (typed at) named.stands ∙ typed_so found at named.kind,
  )
  types_so path (inr none) found at = (λ h. absurd cc, λ named. absurd (none at named.names))

  traited_is : (place : ItemPlace) (o : Option Item) (found : TraitDeclaration) (at : ItemPlace) → traited place o ≡ Some (found, at) → (place ≡ at) × (o ≡ Some (item.Trait found))
  traited_is place None found at h = absurd cc
  traited_is place (Some (item.Struct it)) found at h = absurd cc
  traited_is place (Some (item.Opaque it)) found at h = absurd cc
  traited_is place (Some (item.Enum it)) found at h = absurd cc
  traited_is place (Some (item.Function it)) found at h = absurd cc
  traited_is place (Some (item.Trait it)) found at h =
      let same : (it, place) ≡ (found, at) = ap (λ o. pair_or (it, place) o) h in
      (ap (λ p. p.1) same, ap (λ p. Some (item.Trait p.0)) same)

  traits_so : (path : List (List ℕ)) (d : Decided modules number path) (found : TraitDeclaration) (at : ItemPlace) → (trait_by d ≡ Some (found, at)) ↔ NamesTrait modules number path found at
  traits_so path (inl here) found at = (
    λ h.
        let parts = traited_is here.0 (item_of modules here.0) found at h in
        record { names = subst (λ p. NamesItem modules number path p) parts.0 here.1; stands = ap (item_of modules) (sym parts.0) ∙ parts.1 },
    λ named.
        let same = once path here.0 at here.1 named.names in
        ap (λ p. traited p (item_of modules p)) same ∙ ap (traited at) named.stands,
  )
  traits_so path (inr none) found at = (λ h. absurd cc, λ named. absurd (none at named.names))

  -- where it is decided what each path names, there is a naming
  pub naming : ((path : List (List ℕ)) → Decided modules number path) → (names : Naming) × IsNaming modules number names
  naming decided = (
    record { type_at = λ path. type_by (decided path); trait_at = λ path. trait_by (decided path) },
    record { types = λ path. types_so path (decided path); traits = λ path. traits_so path (decided path) },
  )
