-- What paths mean is a naming, and the only one.
use Rattle.std.proofs.Common.{◌≡◌, ◌↔◌, ℕ, ◌<◌, Bool, true, false, cond, List, length, Option, Some, None, refl, sym, ap, ◌∙◌}
use Rattle.std.specs.Prelude.{option_and_then}
use Rattle.bridge_decl.specs.declared.modules.Item.{Item}
use Rattle.bridge_decl.specs.declared.modules.Item.TheVariants as item
use Rattle.bridge_decl.specs.declared.modules.Module.{Module}
use Rattle.bridge_decl.specs.declared.traits.Trait.{Trait as TraitDeclaration}
use Rattle.bridge_ast.specs.Paths.{NamesItem}
use Rattle.bridge_ast.specs.Sound.{AreSound}
use Rattle.bridge_ast.specs.Types.{NamesTrait, NamesType, is_type, item_of}
use Rattle.bridge_ast.specs.declared.place.ItemPlace.{ItemPlace}
use Rattle.bridge_ast.proofs.FittingLemmas.{order_of_sound}
use Rattle.bridge_ast.proofs.NamedLemmas.{pair_parts}
use Rattle.bridge_ast.proofs.PathNameLemmas.{names_where_led}
use Rattle.bridge_ast.proofs.TrailLemmas.{within_module}
use Rattle.hir_number.specs.Naming.{IsNaming, Naming}
use Rattle.hir_naming.specs.Meaning.{if_trait, if_type, item_meant, naming_of, read_at}
use Rattle.hir_naming.proofs.FollowingLemmas.{meant_same}
use Rattle.hir_naming.proofs.ModulePathLemmas.{paths_of_fitting}

-- ---- what is read of an item

-- what is read of the item at a place that is found
read_from : {Y : Type 0} (read : ItemPlace → Item → Option Y) (items : ItemPlace → Option Item) (found : Option ItemPlace) (y : Y)
    → option_and_then (λ place. option_and_then (read place) (items place)) found ≡ Some y
    → (place : ItemPlace) × (it : Item) × (found ≡ Some place) × (items place ≡ Some it) × (read place it ≡ Some y)
read_from read items None y h = absurd cc
read_from read items (Some place) y h = by (items place) refl h
  where
    by : (o : Option Item) → items place ≡ o → option_and_then (read place) o ≡ Some y
        → (there : ItemPlace) × (it : Item) × (Some place ≡ Some there) × (items there ≡ Some it) × (read there it ≡ Some y)
    by None e g = absurd cc
    by (Some it) e g = (place, it, refl, e, g)

type_read : (at : ItemPlace) (it found : Item) (place : ItemPlace) → if_type at it ≡ Some (found, place)
    → (it ≡ found) × (at ≡ place) × (is_type found ≡ true)
type_read at it found place h = by (is_type it) refl h
  where
    by : (kind : Bool) → is_type it ≡ kind → cond {A = Option (Item × ItemPlace)} kind (Some (it, at)) None ≡ Some (found, place)
        → (it ≡ found) × (at ≡ place) × (is_type found ≡ true)
    by true kind h = let parts = pair_parts it found at place h in (parts.0, parts.1, ap is_type (sym parts.0) ∙ kind)
    by false kind h = absurd cc

type_kept : (place : ItemPlace) (it : Item) → is_type it ≡ true → if_type place it ≡ Some (it, place)
type_kept place it kind = ap (λ b. cond {A = Option (Item × ItemPlace)} b (Some (it, place)) None) kind

trait_read : (at : ItemPlace) (it : Item) (found : TraitDeclaration) (place : ItemPlace) → if_trait at it ≡ Some (found, place)
    → (it ≡ item.Trait found) × (at ≡ place)
trait_read at (item.Struct it) found place h = absurd cc
trait_read at (item.Opaque it) found place h = absurd cc
trait_read at (item.Enum it) found place h = absurd cc
trait_read at (item.Trait it) found place h = let parts = pair_parts it found at place h in (ap (λ t. item.Trait t) parts.0, parts.1)
trait_read at (item.Function it) found place h = absurd cc

-- ---- the meaning of paths is a naming

module _ (modules : List Module) (sound : AreSound modules) (number : ℕ) (within : number < length modules) where
  -- a path means the item that it names
  meant_where_named : (path : List (List ℕ)) (place : ItemPlace)
      → (item_meant modules number path ≡ Some place) ↔ NamesItem modules number path place
  meant_where_named path place =
      let fit = order_of_sound modules sound in
      let named = names_where_led modules (paths_of_fitting modules fit) fit place number path (within_module modules number within) in
      (λ h. named.0 (sym (meant_same modules number path) ∙ h), λ names. meant_same modules number path ∙ named.1 names)

  type_meant : (path : List (List ℕ)) (found : Item) (place : ItemPlace)
      → (read_at if_type modules number path ≡ Some (found, place)) ↔ NamesType modules number path found place
  type_meant path found place = (
    λ h.
        let (at, it, meant, stands, read) = read_from if_type (item_of modules) (item_meant modules number path) (found, place) h in
        let (same, there, kind) = type_read at it found place read in
        record {
          names = (meant_where_named path place).0 (meant ∙ ap Some there);
          stands = ap (item_of modules) (sym there) ∙ stands ∙ ap Some same;
          kind = kind;
        },
    λ names.
        ap (λ o. option_and_then (λ at. option_and_then (if_type at) (item_of modules at)) o) ((meant_where_named path place).1 names.names)
        ∙ ap (λ o. option_and_then (if_type place) o) names.stands
        ∙ type_kept place found names.kind,
  )

  trait_meant : (path : List (List ℕ)) (found : TraitDeclaration) (place : ItemPlace)
      → (read_at if_trait modules number path ≡ Some (found, place)) ↔ NamesTrait modules number path found place
  trait_meant path found place = (
    λ h.
        let (at, it, meant, stands, read) = read_from if_trait (item_of modules) (item_meant modules number path) (found, place) h in
        let (same, there) = trait_read at it found place read in
        record {
          names = (meant_where_named path place).0 (meant ∙ ap Some there);
          stands = ap (item_of modules) (sym there) ∙ stands ∙ ap Some same;
        },
    λ names.
        ap (λ o. option_and_then (λ at. option_and_then (if_trait at) (item_of modules at)) o) ((meant_where_named path place).1 names.names)
        ∙ ap (λ o. option_and_then (if_trait place) o) names.stands,
  )

  pub meaning_is_naming : IsNaming modules number (naming_of modules number)
  meaning_is_naming = record { types = type_meant; traits = trait_meant }

-- ---- and the only one

-- two answers that are found exactly where the same is so are one
same_answer : {Y Z : Type 0} (one other : Option (Y × Z)) (P : Y → Z → Type 0) → ((y : Y) (z : Z) → (one ≡ Some (y, z)) ↔ P y z)
    → ((y : Y) (z : Z) → (other ≡ Some (y, z)) ↔ P y z) → one ≡ other
same_answer (Some (y, z)) other P is also = sym ((also y z).1 ((is y z).0 refl))
same_answer None None P is also = refl
same_answer None (Some (y, z)) P is also = (is y z).1 ((also y z).0 refl)

-- what two namings of a module have of each path is the same
pub types_agree : (modules : List Module) (number : ℕ) (one other : Naming) → IsNaming modules number one
    → IsNaming modules number other → (path : List (List ℕ)) → one.type_at path ≡ other.type_at path
types_agree modules number one other is also path =
    same_answer (one.type_at path) (other.type_at path) (NamesType modules number path) (is.types path) (also.types path)

pub traits_agree : (modules : List Module) (number : ℕ) (one other : Naming) → IsNaming modules number one
    → IsNaming modules number other → (path : List (List ℕ)) → one.trait_at path ≡ other.trait_at path
traits_agree modules number one other is also path =
    same_answer (one.trait_at path) (other.trait_at path) (NamesTrait modules number path) (is.traits path) (also.traits path)
