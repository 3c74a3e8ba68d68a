-- A loop that tests lifetimes.
use Rattle.std.proofs.Common.{◌≡◌, ℕ, ◌+◌, ◌<◌, List, [], ◌∷◌, ◌++◌, length, take, get_or, sym, subst, Option}
use Rattle.std.specs.BTreeMap.{BTreeMap}
use Rattle.bridge_decl.specs.declared.lifetimes.LifetimeNode.{LifetimeNode}
use Rattle.bridge_ast.specs.declared.fault.EnvFault.{EnvFault}
use Rattle.bridge_ast.specs.declared.fault.EnvFaultKind.TheVariants.{DuplicateLifetime}
use Rattle.bridge_ast.specs.declared.fault.EnvPart.{EnvPart}
use Rattle.bridge_ast.specs.declared.fault.EnvPart.TheVariants as part
use Rattle.bridge_ast.specs.declared.fault.EnvPlace.{EnvPlace}
use Rattle.bridge_ast.specs.Each.{each}
use Rattle.bridge_ast.specs.EnvFaults.{IsFirst, place, repeats_name, bound_faults, node_faults, lifetime_faults, nodes_named}
use Rattle.bridge_text.specs.NameIndex.{HasMeanings}
use Rattle.bridge_ast.proofs.EachLemmas.{counted_kept, counted_stopped, numbered_more}

-- the faults of a node of a number
abbrev pub faults_at : EnvPlace → Option ℕ → ℕ → List LifetimeNode → ℕ → List LifetimeNode → LifetimeNode → List EnvFault
faults_at here method item nodes n before node =
    repeats_name DuplicateLifetime here.«module» (nodes_named item method before) node.name here.part
    ++ bound_faults here nodes n node

module _ (number item : ℕ) (method : Option ℕ) (nodes : List LifetimeNode) (i : ℕ) (x : LifetimeNode) (here : EnvPlace) where
  pub node_kept : i < length nodes → x ≡ get_or nodes i x → here ≡ place number (part.Node item method i)
      → each (node_faults number item method nodes) (take i nodes) ≡ []
      → faults_at here method item nodes i (take i nodes) x ≡ [] → each (node_faults number item method nodes)
      (take (i + 1) nodes) ≡ []
  node_kept within is stands before none =
      counted_kept (λ n earlier node. faults_at (place number (part.Node item method n)) method item nodes n earlier node) nodes i
      x within is before
      (subst (λ p. faults_at p method item nodes i (take i nodes) x ≡ []) stands none)

  pub node_stopped : (fault : EnvFault) → i < length nodes → x ≡ get_or nodes i x → here ≡ place number (part.Node item method i)
      → each (node_faults number item method nodes) (take i nodes) ≡ []
      → IsFirst fault (faults_at here method item nodes i (take i nodes) x)
      → IsFirst fault (lifetime_faults number item method nodes)
  node_stopped fault within is stands before first =
      counted_stopped (λ n earlier node. faults_at (place number (part.Node item method n)) method item nodes n earlier node)
      nodes i x fault within is before
      (subst (λ p. IsFirst fault (faults_at p method item nodes i (take i nodes) x)) stands first)

  pub nodes_named_more : (index : BTreeMap (List ℕ) EnvPart) → i < length nodes → x ≡ get_or nodes i x
      → here ≡ place number (part.Node item method i)
      → HasMeanings index (nodes_named item method (take i nodes) ++ (x.name, here.part) ∷ [])
      → HasMeanings index (nodes_named item method (take (i + 1) nodes))
  nodes_named_more index within is stands indexed =
      subst (HasMeanings index) (sym (numbered_more (λ n node. (node.name, part.Node item method n)) nodes i x within is))
      (subst (λ (p : EnvPlace). HasMeanings index (nodes_named item method (take i nodes) ++ (x.name, p.part) ∷ [])) stands indexed)
