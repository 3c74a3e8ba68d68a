-- Each module of an input stands after the one that it is in.
use Rattle.std.proofs.Common.{◌≡◌, ℕ, zero, suc, Bool, true, false, cond, List, [], ◌∷◌, ◌++◌, Option, Some, None, append_assoc, refl, sym, ap, subst, arith}
use Rattle.std.specs.Prelude.{IsSome, not, length, ◌&&◌, option_map}
use Rattle.std.specs.List.{All}
use Rattle.std.proofs.lemmas.Bool.{false≢true}
use Rattle.std.proofs.lemmas.List.{append-nil}
use Rattle.std.proofs.lemmas.List.Elements.{All-append}
use Rattle.serde_json.specs.Data.{Data, null, boolean, number, string, array, object, Items, no_items, item}
use Rattle.bridge_decl.specs.declared.lifetimes.LifetimeNode.{LifetimeNode}
use Rattle.bridge_decl.specs.declared.modules.Alias.{Alias}
use Rattle.bridge_decl.specs.declared.modules.Item.{Item}
use Rattle.bridge_decl.specs.declared.modules.Module.{Module}
use Rattle.bridge_ast.specs.declared.bounds.Side.TheVariants.{Longer, Shorter}
use Rattle.bridge_ast.specs.declared.fault.EnvFault.{EnvFault}
use Rattle.bridge_ast.specs.declared.fault.EnvFault.TheVariants.{Bad}
use Rattle.bridge_ast.specs.declared.fault.EnvFaultKind.{EnvFaultKind}
use Rattle.bridge_ast.specs.declared.fault.EnvFaultKind.TheVariants.{DuplicateModule, ParentMissing, DuplicateItem, DuplicateLifetime, BoundOutOfRange, BoundOneSided}
use Rattle.bridge_ast.specs.declared.fault.EnvPart.{EnvPart}
use Rattle.bridge_ast.specs.declared.fault.EnvPart.TheVariants as part
use Rattle.bridge_ast.specs.declared.fault.EnvPlace.{EnvPlace}
use Rattle.bridge_text.specs.NameIndex.{meaning_of}
use Rattle.bridge_ast.specs.Bounds.{in_range, answered}
use Rattle.bridge_ast.specs.Each.{each, each_after}
use Rattle.bridge_ast.specs.EnvFaults.{Named, aliases_named, items_named, named_at, nodes_named, path_eq, place, module_at, parent_and_last, where_so, repeats, repeats_name, bound_faults, node_faults, lifetime_faults, method_nodes_of, nodes_of, method_faults, item_faults, alias_faults, faults_under, parent_faults, content_faults, module_faults, faults_of, path_faults}
use Rattle.bridge_decl.specs.Names.{item_name}
use Rattle.bridge_ast.proofs.PathLemmas.{parent_and_last-snoc, path_itself}
use Rattle.bridge_read.specs.declared.input.Declared.{Declared}
use Rattle.bridge_form.specs.declared.keys.Key.TheVariants as key
use Rattle.bridge_read.specs.declared.modules.Contents.{Contents}
use Rattle.bridge_form.specs.Form.{Each, IsList, NeededAt, HeldAt}
use Rattle.bridge_read.specs.Parents.{LacksParent}
use Rattle.bridge_form.specs.Reading.{under}
use Rattle.bridge_read.specs.forms.Inputs.{no_backend, whole}
use Rattle.bridge_read.specs.forms.Modules.{any_text, contents, in_a_row, module_of, module_within, name_of, nested_in, path_in, root}
use Rattle.bridge_read.specs.forms.Settings.{backend, config, no_config, urls, no_urls}
use Rattle.bridge_read.proofs.CountLemmas.{given_is, held_gives, needed_grows}
use Rattle.bridge_read.proofs.forms.Modules.{contents_lawful}

-- no parent is missing among the faults
abbrev Without : List EnvFault → Type 0
Without faults = All (λ fault. ¬ LacksParent fault) faults

both_without : (xs ys : List EnvFault) → Without xs → Without ys → Without (xs ++ ys)
both_without xs ys = All-append (λ fault. ¬ LacksParent fault) xs ys

nothing : Without []
nothing k d lt = absurd (omega (arith, lt))

one : (fault : EnvFault) → ¬ LacksParent fault → Without (fault ∷ [])
one fault apart zero d lt = apart
one fault apart (suc k) d lt = absurd (omega (arith, lt))

each_without : {X : Type 0} (f : List X → X → List EnvFault) → ((before : List X) (x : X) → Without (f before x)) → (before xs : List X) → Without (each_after f before xs)
each_without f step before [] = nothing
each_without f step before (x ∷ xs) =
    both_without (f before x) (each_after f (before ++ x ∷ []) xs) (step before x) (each_without f step (before ++ x ∷ []) xs)

-- ---- faults of other kinds

repeats_without : (kind : EnvFaultKind) → ¬ (kind ≡ ParentMissing) → (here : EnvPlace) (earlier : Option EnvPlace) → Without (repeats kind here earlier)
repeats_without kind apart here None = nothing
repeats_without kind apart here (Some earlier) = one _ apart

where_without : (b : Bool) (fault : EnvFault) → ¬ LacksParent fault → Without (where_so b fault)
where_without true fault apart = one fault apart
where_without false fault apart = nothing

not_module : ¬ (DuplicateModule ≡ ParentMissing)
not_module e = cc

not_item : ¬ (DuplicateItem ≡ ParentMissing)
not_item e = cc

not_lifetime : ¬ (DuplicateLifetime ≡ ParentMissing)
not_lifetime e = cc

not_range : ¬ (BoundOutOfRange ≡ ParentMissing)
not_range e = cc

not_side : ¬ (BoundOneSided ≡ ParentMissing)
not_side e = cc

named_without : (kind : EnvFaultKind) → ¬ (kind ≡ ParentMissing) → (inside : ℕ) (earlier : List Named) (name : List ℕ) (what : EnvPart)
    → Without (repeats_name kind inside earlier name what)
named_without kind apart inside earlier name what = repeats_without kind apart (place inside what) (option_map (place inside) (meaning_of earlier name))

bound_without : (here : EnvPlace) (nodes : List LifetimeNode) (n : ℕ) (node : LifetimeNode) → Without (bound_faults here nodes n node)
bound_without here nodes n node =
    let range : Bool = not (in_range Longer nodes node && in_range Shorter nodes node) in
    let side : Bool = not (answered Longer nodes n node && answered Shorter nodes n node) in
    both_without (where_so range (Bad BoundOutOfRange here None)) (where_so side (Bad BoundOneSided here None))
    (where_without range (Bad BoundOutOfRange here None) not_range) (where_without side (Bad BoundOneSided here None) not_side)

node_without : (inside holder : ℕ) (method : Option ℕ) (nodes before : List LifetimeNode) (node : LifetimeNode) → Without (node_faults inside holder method nodes before node)
node_without inside holder method nodes before node =
    let at : EnvPart = part.Node holder method (length before) in
    both_without (repeats_name DuplicateLifetime inside (nodes_named holder method before) node.name at) (bound_faults (place inside at) nodes (length before) node)
    (named_without DuplicateLifetime not_lifetime inside (nodes_named holder method before) node.name at) (bound_without (place inside at) nodes (length before) node)

lifetimes_without : (inside holder : ℕ) (method : Option ℕ) (nodes : List LifetimeNode) → Without (lifetime_faults inside holder method nodes)
lifetimes_without inside holder method nodes = each_without (node_faults inside holder method nodes) (node_without inside holder method nodes) [] nodes

methods_without : (inside holder : ℕ) (methods : List (List LifetimeNode)) → Without (each (method_faults inside holder) methods)
methods_without inside holder methods =
    each_without (method_faults inside holder) (λ before nodes. lifetimes_without inside holder (Some (length before)) nodes) [] methods

item_without : (inside : ℕ) (before : List Item) (it : Item) → Without (item_faults inside before it)
item_without inside before it =
    let n : ℕ = length before in
    both_without (repeats_name DuplicateItem inside (items_named before) (item_name it) (part.Item n))
    (lifetime_faults inside n None (nodes_of it) ++ each (method_faults inside n) (method_nodes_of it))
    (named_without DuplicateItem not_item inside (items_named before) (item_name it) (part.Item n))
    (both_without (lifetime_faults inside n None (nodes_of it)) (each (method_faults inside n) (method_nodes_of it))
    (lifetimes_without inside n None (nodes_of it)) (methods_without inside n (method_nodes_of it)))

alias_without : (inside : ℕ) (items : List Item) (before : List Alias) (alias : Alias) → Without (alias_faults inside items before alias)
alias_without inside items before alias =
    named_without DuplicateItem not_item inside (items_named items ++ aliases_named before) alias.name (part.Alias (length before))

content_without : (inside : ℕ) (m : Module) → Without (content_faults inside m)
content_without inside m =
    both_without (each (item_faults inside) m.items) (each (alias_faults inside m.items) m.aliases)
    (each_without (item_faults inside) (item_without inside) [] m.items) (each_without (alias_faults inside m.items) (alias_without inside m.items) [] m.aliases)

-- ---- modules whose parents stand before them

abbrev IsRooted : List Module → Option (List (List ℕ) × List ℕ) → Type 0
IsRooted before None = Unit {0}
IsRooted before (Some (parent, name)) = IsSome (module_at before parent)

abbrev AreRooted : List Module → List Module → Type 0
AreRooted before [] = Unit {0}
AreRooted before (m ∷ ms) = IsRooted before (parent_and_last m.path) × AreRooted (before ++ m ∷ []) ms

under_without : (before : List Module) (found : Option ℕ) (name : List ℕ) → IsSome found → Without (faults_under before found name)
under_without before None name some = absurd (false≢true some)
under_without before (Some above) name some =
    repeats_without DuplicateItem not_item (place (length before) part.Module) (option_map (place above) (meaning_of (named_at before above) name))

parent_without : (before : List Module) (split : Option (List (List ℕ) × List ℕ)) → IsRooted before split → Without (parent_faults before split)
parent_without before None is = nothing
parent_without before (Some (parent, name)) is = under_without before (module_at before parent) name is

path_without : (before : List Module) (path : List (List ℕ)) → IsRooted before (parent_and_last path) → Without (path_faults before path)
path_without before path is =
    let earlier : Option EnvPlace = option_map (λ n. place n part.Module) (module_at before path) in
    both_without (repeats DuplicateModule (place (length before) part.Module) earlier) (parent_faults before (parent_and_last path))
    (repeats_without DuplicateModule not_module (place (length before) part.Module) earlier) (parent_without before (parent_and_last path) is)

module_without : (before : List Module) (m : Module) → IsRooted before (parent_and_last m.path) → Without (module_faults before m)
module_without before m is =
    both_without (path_faults before m.path) (content_faults (length before) m) (path_without before m.path is) (content_without (length before) m)

rooted_without : (before ms : List Module) → AreRooted before ms → Without (each_after module_faults before ms)
rooted_without before [] are = nothing
rooted_without before (m ∷ ms) are =
    both_without (module_faults before m) (each_after module_faults (before ++ m ∷ []) ms) (module_without before m are.0) (rooted_without (before ++ m ∷ []) ms are.1)

rooted_both : (before xs ys : List Module) → AreRooted before xs → AreRooted (before ++ xs) ys → AreRooted before (xs ++ ys)
rooted_both before [] ys first others = subst (λ all. AreRooted all ys) (append-nil before) others
rooted_both before (x ∷ xs) ys first others =
    (first.0, rooted_both (before ++ x ∷ []) xs ys first.1 (subst (λ all. AreRooted all ys) (sym (append_assoc before (x ∷ []) xs)) others))

-- ---- the module of a path, with more modules after it

one_more : (found : Option ℕ) → IsSome found → IsSome (option_map suc found)
one_more None some = absurd (false≢true some)
one_more (Some n) some = refl

some_more : (first : Bool) (found more : Option ℕ) → (IsSome found → IsSome more) → IsSome (cond first (Some 0) (option_map suc found)) → IsSome (cond first (Some 0) (option_map suc more))
some_more true found more grows some = refl
some_more false None more grows some = absurd (false≢true some)
some_more false (Some n) more grows some = one_more more (grows refl)

found_more : (modules others : List Module) (path : List (List ℕ)) → IsSome (module_at modules path) → IsSome (module_at (modules ++ others) path)
found_more [] others path some = absurd (false≢true some)
found_more (m ∷ modules) others path some =
    some_more (path_eq m.path path) (module_at modules path) (module_at (modules ++ others) path) (found_more modules others path) some

first_or : (first : Bool) (found : Option ℕ) → IsSome found → IsSome (cond first (Some 0) (option_map suc found))
first_or true found some = refl
first_or false found some = one_more found some

found_last : (modules : List Module) (m : Module) → IsSome (module_at (modules ++ m ∷ []) m.path)
found_last [] m = subst (λ b. IsSome (cond b (Some 0) (option_map suc None))) (sym (path_itself m.path)) refl
found_last (first ∷ modules) m = first_or (path_eq first.path m.path) (module_at (modules ++ m ∷ []) m.path) (found_last modules m)

-- ---- modules as they are spelled

module _ (levels : ℕ) (ones : (before : List Module) (parent : List (List ℕ)) → IsSome (module_at before parent) → (d : Data) (ms : List Module) → (module_within levels parent).Spells d ms → AreRooted before ms) where
  each_rooted : (before : List Module) (path : List (List ℕ)) → IsSome (module_at before path) → (ds : Items) (lists : List (List Module)) → Each (module_within levels path).Spells ds lists
      → AreRooted before (in_a_row lists)
  each_rooted before path found no_items [] h = tt
  each_rooted before path found no_items (x ∷ xs) h = absurd h
  each_rooted before path found (item d ds) [] h = absurd h
  each_rooted before path found (item d ds) (x ∷ xs) h =
      rooted_both before x (in_a_row xs) (ones before path found d x h.0) (each_rooted (before ++ x) path (found_more before x path found) ds xs h.1)

  list_rooted : (before : List Module) (path : List (List ℕ)) → IsSome (module_at before path) → (d : Data) (lists : List (List Module)) → IsList (module_within levels path).Spells d lists
      → AreRooted before (in_a_row lists)
  list_rooted before path found null lists h = absurd h
  list_rooted before path found (boolean b) lists h = absurd h
  list_rooted before path found (number n) lists h = absurd h
  list_rooted before path found (string s) lists h = absurd h
  list_rooted before path found (array ds) lists h = each_rooted before path found ds lists h
  list_rooted before path found (object ms) lists h = absurd h

  nested_rooted : (before : List Module) (path : List (List ℕ)) → IsSome (module_at before path) → (d : Data) (ms : List Module) → (nested_in levels path).Spells d ms → AreRooted before ms
  nested_rooted before path found d ms h = subst (AreRooted before) (given_is (in_a_row h.0) ms h.2) (list_rooted before path found d h.0 h.1)

  module_rooted : (before : List Module) (own : List (List ℕ)) → IsRooted before (parent_and_last own) → (holds : Contents) (o : Option Data) (ms : List Module)
      → HeldAt (nested_in levels own) [] o (λ inner. module_of own holds inner ≡ ms) → AreRooted before ms
  module_rooted before own rooted holds None ms h = subst (AreRooted before) h (rooted, tt)
  module_rooted before own rooted holds (Some d) ms h =
      let m : Module = record { path = own; attrs = holds.attrs; items = holds.items; aliases = holds.aliases } in
      subst (AreRooted before) h.2 (rooted, nested_rooted (before ++ m ∷ []) own (found_last before m) d h.0 h.1)

  contents_rooted : (before : List Module) (own : List (List ℕ)) → IsRooted before (parent_and_last own) → (d : Data) (ms : List Module)
      → contents.Spell d (λ holds. HeldAt (nested_in levels own) [] (under key.Modules d) (λ inner. module_of own holds inner ≡ ms)) → AreRooted before ms
  contents_rooted before own rooted d ms h =
      contents_lawful.reaches d (AreRooted before ms) (contents_lawful.grows d (λ holds. HeldAt (nested_in levels own) [] (under key.Modules d) (λ inner. module_of own holds inner ≡ ms)) (λ holds. AreRooted before ms)
      (λ holds k. module_rooted before own rooted holds (under key.Modules d) ms k) h)

  named_rooted : (before : List Module) (parent : List (List ℕ)) → IsSome (module_at before parent) → (d : Data) (o : Option Data) (ms : List Module)
      → NeededAt any_text o (λ named. contents.Spell d (λ holds. HeldAt (nested_in levels (path_in parent d)) [] (under key.Modules d) (λ inner. module_of (path_in parent d) holds inner ≡ ms)))
      → AreRooted before ms
  named_rooted before parent found d None ms h = absurd h
  named_rooted before parent found d (Some name) ms h =
      contents_rooted before (path_in parent d) (subst (IsRooted before) (sym (parent_and_last-snoc parent (name_of d))) found) d ms h.2

rooted : (levels : ℕ) (before : List Module) (parent : List (List ℕ)) → IsSome (module_at before parent) → (d : Data) (ms : List Module) → (module_within levels parent).Spells d ms → AreRooted before ms
rooted zero before parent found d ms h = absurd h
rooted (suc levels) before parent found d ms h = named_rooted levels (rooted levels) before parent found d (under key.Name d) ms h.1

root_rooted : (d : Data) (ms : List Module) → root.Spells d ms → AreRooted [] ms
unfolding root
root_rooted d ms h = contents_rooted 64 (rooted 64) [] [] tt d ms h.1

in_root_without : (o : Option Data) (declared : Declared) → NeededAt root o (λ ms. ms ≡ declared.modules) → Without (faults_of declared.modules)
in_root_without None declared h = absurd h
in_root_without (Some d) declared h = subst (λ ms. Without (faults_of ms)) h.2 (rooted_without [] h.0 (root_rooted d h.0 h.1))

-- no module that a value declares lacks its parent
pub none_lacks_its_parent : (d : Data) (declared : Declared) → whole.Spells d declared → All (λ fault. ¬ LacksParent fault) (faults_of declared.modules)
unfolding whole
none_lacks_its_parent d declared h =
    in_root_without (under key.Root d) declared (needed_grows root (under key.Root d) _ (λ ms. ms ≡ declared.modules)
    (λ ms k. held_gives backend no_backend (under key.Backend d) _ (ms ≡ declared.modules)
    (λ b l. held_gives config no_config (under key.Config d) _ (ms ≡ declared.modules)
    (λ c m. held_gives urls no_urls (under key.Docs d) _ (ms ≡ declared.modules) (λ u e. ap (λ (x : Declared). x.modules) e) m) l) k) h.1)
