-- A search for a name from the front of a list.
use Rattle.std.proofs.Common.{◌≡◌, ℕ, suc, ◌+◌, ◌<◌, true, false, cond, List, length, map, drop, get_or, Option, Some, None, refl, ap, sym, ◌∙◌, arith}
use Rattle.std.specs.Prelude.{option_map}
use Rattle.std.proofs.lemmas.List.{drop_more}
use Rattle.std.specs.Str.{bytes_eq}
use Rattle.bridge_decl.specs.declared.lifetimes.LifetimeNode.{LifetimeNode}
use Rattle.bridge_text.specs.NameIndex.{number_of}

-- a place in the rest of a list, as one of the whole
abbrev pub shifted : ℕ → Option ℕ → Option ℕ
shifted n None = None
shifted n (Some k) = Some (n + k)

step_past : (n : ℕ) (o : Option ℕ) → shifted n (option_map suc o) ≡ shifted (n + 1) o
step_past n None = refl
step_past n (Some k) = ap Some (omega arith)

rest_of : (nodes : List LifetimeNode) (i : ℕ) (node : LifetimeNode) (name : List ℕ) → i < length nodes → node ≡ get_or nodes i node
    → number_of (map (λ n. n.name) (drop i nodes)) name ≡ cond (bytes_eq node.name name) (Some 0) (option_map suc (number_of (map (λ n. n.name) (drop (i + 1) nodes)) name))
rest_of nodes i node name within is =
    ap (λ ns. number_of (map (λ n. n.name) ns) name) (drop_more nodes i node within)
    ∙ ap (λ (n : LifetimeNode). cond (bytes_eq n.name name) (Some 0) (option_map suc (number_of (map (λ n. n.name) (drop (i + 1) nodes)) name))) (sym is)

pub here : (nodes : List LifetimeNode) (i : ℕ) (node : LifetimeNode) (name : List ℕ) (o : Option ℕ) → i < length nodes → node ≡ get_or nodes i node
    → o ≡ shifted i (number_of (map (λ n. n.name) (drop i nodes)) name) → bytes_eq node.name name ≡ true → Some i ≡ o
here nodes i node name o within is so_far same =
    ap Some (omega arith) ∙ ap (λ b. shifted i (cond b (Some 0) (option_map suc (number_of (map (λ n. n.name) (drop (i + 1) nodes)) name)))) (sym same)
    ∙ ap (shifted i) (sym (rest_of nodes i node name within is)) ∙ sym so_far

pub past : (nodes : List LifetimeNode) (i : ℕ) (node : LifetimeNode) (name : List ℕ) (o : Option ℕ) → i < length nodes → node ≡ get_or nodes i node
    → o ≡ shifted i (number_of (map (λ n. n.name) (drop i nodes)) name) → bytes_eq node.name name ≡ false
    → o ≡ shifted (i + 1) (number_of (map (λ n. n.name) (drop (i + 1) nodes)) name)
past nodes i node name o within is so_far differs =
    so_far ∙ ap (shifted i) (rest_of nodes i node name within is)
    ∙ ap (λ b. shifted i (cond b (Some 0) (option_map suc (number_of (map (λ n. n.name) (drop (i + 1) nodes)) name)))) differs
    ∙ step_past i (number_of (map (λ n. n.name) (drop (i + 1) nodes)) name)
