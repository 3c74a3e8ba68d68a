-- Loops that test items, methods and aliases.
use Rattle.std.proofs.Common.{◌≡◌, ℕ, ◌+◌, ◌<◌, List, [], ◌∷◌, ◌++◌, length, map, take, get_or, sym, ap, ◌∙◌, subst, append_assoc}
use Rattle.std.proofs.Common.{None, Some}
use Rattle.std.specs.BTreeMap.{BTreeMap}
use Rattle.bridge_decl.specs.declared.lifetimes.LifetimeNode.{LifetimeNode}
use Rattle.bridge_decl.specs.declared.modules.Alias.{Alias}
use Rattle.bridge_decl.specs.declared.modules.Item.{Item}
use Rattle.bridge_ast.specs.declared.fault.EnvFault.{EnvFault}
use Rattle.bridge_ast.specs.declared.fault.EnvFaultKind.TheVariants.{DuplicateItem}
use Rattle.bridge_ast.specs.declared.fault.EnvPart.{EnvPart}
use Rattle.bridge_ast.specs.declared.fault.EnvPart.TheVariants as part
use Rattle.bridge_ast.specs.Each.{each}
use Rattle.bridge_ast.specs.EnvFaults.{IsFirst, repeats_name, lifetime_faults, method_faults, item_faults, alias_faults}
use Rattle.bridge_ast.specs.EnvFaults.{items_named, aliases_named, nodes_of, method_nodes_of}
use Rattle.bridge_text.specs.NameIndex.{HasMeanings}
use Rattle.bridge_decl.specs.Names.{item_name}
use Rattle.bridge_ast.proofs.EachLemmas.{counted_kept, counted_stopped, numbered_more, mapped}

-- one method, of a list of any kind of methods
module _ {A : Type 0} (number item : ℕ) (nodes_in : A → List LifetimeNode) (methods : List A) (i : ℕ) (x : A)
    (nodes : List LifetimeNode) where
  pub method_kept : i < length methods → x ≡ get_or methods i x → nodes ≡ nodes_in x
      → each (method_faults number item) (take i (map nodes_in methods)) ≡ []
      → lifetime_faults number item (Some i) nodes ≡ [] → each (method_faults number item)
      (take (i + 1) (map nodes_in methods)) ≡ []
  method_kept within is these before none =
      let there = mapped nodes_in methods i x within is in
      counted_kept (λ n _ ns. lifetime_faults number item (Some n) ns) (map nodes_in methods) i
      (nodes_in x) there.0 there.1 before
      (subst (λ ns. lifetime_faults number item (Some i) ns ≡ []) these none)

  pub method_stopped : (fault : EnvFault) → i < length methods → x ≡ get_or methods i x → nodes ≡ nodes_in x
      → each (method_faults number item) (take i (map nodes_in methods)) ≡ []
      → IsFirst fault (lifetime_faults number item (Some i) nodes) → IsFirst fault
      (each (method_faults number item) (map nodes_in methods))
  method_stopped fault within is these before first =
      let there = mapped nodes_in methods i x within is in
      counted_stopped (λ n _ ns. lifetime_faults number item (Some n) ns) (map nodes_in methods) i
      (nodes_in x) fault there.0 there.1 before
      (subst (λ ns. IsFirst fault (lifetime_faults number item (Some i) ns)) these first)

-- the faults of an item of a number
abbrev pub item_faults_at : ℕ → ℕ → List Item → Item → List EnvFault
item_faults_at number n before item =
    repeats_name DuplicateItem number (items_named before) (item_name item) (part.Item n)
    ++ (lifetime_faults number n None (nodes_of item) ++ each (method_faults number n) (method_nodes_of item))

module _ (number : ℕ) (items : List Item) (i : ℕ) (x : Item) where
  pub item_kept : i < length items → x ≡ get_or items i x → each (item_faults number) (take i items) ≡ []
      → item_faults_at number i (take i items) x ≡ [] → each (item_faults number) (take (i + 1) items) ≡ []
  item_kept within is before none = counted_kept (item_faults_at number) items i x within is before none

  pub item_stopped : (fault : EnvFault) → i < length items → x ≡ get_or items i x → each (item_faults number) (take i items) ≡ []
      → IsFirst fault (item_faults_at number i (take i items) x) → IsFirst fault (each (item_faults number) items)
  item_stopped fault within is before first = counted_stopped (item_faults_at number) items i x fault within is before first

  pub items_named_more : (index : BTreeMap (List ℕ) EnvPart) → i < length items → x ≡ get_or items i x
      → HasMeanings index (items_named (take i items) ++ (item_name x, part.Item i) ∷ [])
      → HasMeanings index (items_named (take (i + 1) items))
  items_named_more index within is indexed =
      subst (HasMeanings index) (sym (numbered_more (λ n item. (item_name item, part.Item n)) items i x within is)) indexed

-- the faults of an alias of a number
abbrev pub alias_faults_at : ℕ → List Item → ℕ → List Alias → Alias → List EnvFault
alias_faults_at number items n before alias =
    repeats_name DuplicateItem number (items_named items ++ aliases_named before) alias.name (part.Alias n)

module _ (number : ℕ) (items : List Item) (aliases : List Alias) (i : ℕ) (x : Alias) where
  pub alias_kept : i < length aliases → x ≡ get_or aliases i x → each (alias_faults number items) (take i aliases) ≡ []
      → alias_faults_at number items i (take i aliases) x ≡ [] → each (alias_faults number items) (take (i + 1) aliases) ≡ []
  alias_kept within is before none = counted_kept (alias_faults_at number items) aliases i x within is before none

  pub alias_stopped : (fault : EnvFault) → i < length aliases → x ≡ get_or aliases i x
      → each (alias_faults number items) (take i aliases) ≡ [] → IsFirst fault (alias_faults_at number items i (take i aliases) x)
      → IsFirst fault (each (alias_faults number items) aliases)
  alias_stopped fault within is before first =
      counted_stopped (alias_faults_at number items) aliases i x fault within is before first

  pub aliases_named_more : (index : BTreeMap (List ℕ) EnvPart) → i < length aliases → x ≡ get_or aliases i x
      → HasMeanings index ((items_named items ++ aliases_named (take i aliases)) ++ (x.name, part.Alias i) ∷ [])
      → HasMeanings index (items_named items ++ aliases_named (take (i + 1) aliases))
  aliases_named_more index within is indexed =
      subst (HasMeanings index)
      (append_assoc (items_named items) (aliases_named (take i aliases)) ((x.name, part.Alias i) ∷ [])
      ∙ ap (λ ns. items_named items ++ ns) (sym (numbered_more (λ n alias. (alias.name, part.Alias n)) aliases i x within is)))
      indexed
