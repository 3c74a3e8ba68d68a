-- Modules fit together exactly where each of their parts fits what stands before it.
use Rattle.std.proofs.Common.{◌≡◌, ◌≢◌, ℕ, zero, suc, ◌<◌, true, false, List, [], ◌∷◌, ◌++◌, length, map, take, get_or, sym, refl, ap, ◌∙◌, arith, subst, inl, inr, Option, Some, None, append_assoc, length-take}
use Rattle.std.specs.Prelude.{◌⊎◌, slice_get, option_map}
use Rattle.std.specs.List.{All, AllPairs, Contains}
use Rattle.std.proofs.lemmas.List.{append-nil, get_or-map, length-map}
use Rattle.std.proofs.lemmas.List.Elements.{All-from_recursion, All-contains}
use Rattle.std.proofs.lemmas.Option.{slice_get_within, get_or_from_slice_get, slice_get-get_or}
use Rattle.std.proofs.lemmas.List.Quantifiers.{all_pairs_push}
use Rattle.bridge_ast.specs.declared.fault.EnvPart.TheVariants as part
use Rattle.bridge_decl.specs.declared.modules.Alias.{Alias}
use Rattle.bridge_decl.specs.declared.modules.Item.{Item}
use Rattle.bridge_decl.specs.declared.modules.Module.{Module}
use Rattle.bridge_decl.specs.declared.lifetimes.LifetimeEnv.{LifetimeEnv}
use Rattle.bridge_ast.specs.EnvFaults.{items_named, aliases_named, named_in, named_at, module_at, path_eq, parent_and_last}
use Rattle.bridge_ast.specs.Sound.{AreSound, HasParent, HasSoundLifetimes, lifetimes_of, names_in}
use Rattle.bridge_decl.specs.Names.{item_name}
use Rattle.bridge_ast.specs.inside.Fitting.{AllAfter, FitsItem, FitsAlias, FitsModule, FitsUnder, FitInOrder, IsFree}
use Rattle.bridge_decl.specs.Lifetimes.{IsSoundEnvironment}
use Rattle.bridge_text.specs.NameIndex.{AreDistinct, meaning_of}
use Rattle.bridge_ast.proofs.NamedLemmas.{all_at, whole, in_front, free_under}
use Rattle.bridge_ast.proofs.PathLemmas.{path_itself, parent_and_last-snoc, none_before_and_after, module_at_some, named_at_module}
use Rattle.bridge_ast.proofs.DistinctLemmas.{after_from, each_holds, contains_at, recursion_from_All, absent_from, none_of_names, names_after, distinct_after, named_apart, distinct_left}
use Rattle.bridge_ast.proofs.FittingItemLemmas.{item_from, own_to, theirs_to, item_absent, names_of_both, alias_absent}

-- ---- modules

names_from : (before : List Module) (m : Module) → FitsModule before m → AreDistinct (names_in m)
names_from before m fits =
    distinct_after (λ (a : Alias). a.name) (map item_name m.items) (FitsAlias m.items) (alias_absent m.items) [] m.aliases
    (subst AreDistinct (sym (append-nil (map item_name m.items)))
    (distinct_after item_name [] FitsItem item_absent [] m.items (λ i j d less lt. absurd (omega arith)) fits.items))
    fits.aliases

items_from : (before : List Module) (m : Module) → FitsModule before m → All HasSoundLifetimes m.items
items_from before m fits =
    All-from_recursion HasSoundLifetimes m.items
    (each_holds FitsItem HasSoundLifetimes (λ earlier item h. All-from_recursion IsSoundEnvironment (lifetimes_of item) (item_from earlier item h)) [] m.items fits.items)

items_to : (m : Module) → AreDistinct (names_in m) → All HasSoundLifetimes m.items → AllAfter FitsItem [] m.items
items_to m distinct sound =
    after_from FitsItem [] m.items
    (λ n item h.
    let lifetimes = recursion_from_All IsSoundEnvironment (lifetimes_of item)
    (All-contains HasSoundLifetimes m.items item sound (contains_at m.items n item h)) in
    record {
      new =
          none_of_names (items_named (take n m.items)) (item_name item)
          (subst (λ names. ¬ Contains names (item_name item)) (sym (names_after item_name (λ k. part.Item k) [] (take n m.items)))
          (named_apart item_name [] m.items n item (distinct_left (map item_name m.items) (map (λ (a : Alias). a.name) m.aliases) distinct) h));
      lifetimes = own_to (length (take n m.items)) item lifetimes;
      methods = theirs_to (length (take n m.items)) item lifetimes;
    })

aliases_to : (m : Module) → AreDistinct (names_in m) → AllAfter (FitsAlias m.items) [] m.aliases
aliases_to m distinct =
    after_from (FitsAlias m.items) [] m.aliases
    (λ n alias h. none_of_names (items_named m.items ++ aliases_named (take n m.aliases)) alias.name
    (subst (λ names. ¬ Contains names alias.name) (sym (names_of_both m.items (take n m.aliases)))
    (named_apart (λ (a : Alias). a.name) (map item_name m.items) m.aliases n alias distinct h)))

-- a module of a path is found
module_there : (before : List Module) (k : ℕ) (x : Module) (path : List (List ℕ)) → slice_get before k ≡ Some x → x.path ≡ path
    → module_at before path ≡ None → ⊥
module_there [] k x path h same none = absurd cc
module_there (y ∷ ys) zero x path h same none =
    let here : y ≡ x = cc in
    let e : path_eq y.path path ≡ true = subst (λ p. path_eq y.path p ≡ true) (ap (λ (z : Module). z.path) here ∙ same) (path_itself y.path) in
    let f : path_eq y.path path ≡ false = (none_before_and_after (path_eq y.path path) (module_at ys path) none).0 in
    cc
module_there (y ∷ ys) (suc k) x path h same none =
    module_there ys k x path h same (none_before_and_after (path_eq y.path path) (module_at ys path) none).1

abbrev AreApart : Module → Module → Type 0
AreApart earlier later = earlier.path ≢ later.path

paths_after : (before xs : List Module) → AllPairs AreApart before → AllAfter FitsModule before xs → AllPairs AreApart (before ++ xs)
paths_after before [] pairs all = subst (AllPairs AreApart) (sym (append-nil before)) pairs
paths_after before (x ∷ xs) pairs all =
    subst (AllPairs AreApart) (append_assoc before (x ∷ []) xs)
    (paths_after (before ++ x ∷ []) xs
    (all_pairs_push AreApart before x pairs
    (λ k d within same. module_there before k (get_or before k d) x.path (slice_get-get_or before k d within) same all.0.new))
    all.1)

no_last : (path : List (List ℕ)) → parent_and_last path ≡ None → path ≡ []
no_last [] h = refl
no_last (s ∷ []) h = absurd cc
no_last (s ∷ t ∷ path) h = by (parent_and_last (t ∷ path)) (no_last (t ∷ path)) refl h
  where
    by : (split : Option (List (List ℕ) × List ℕ)) → (parent_and_last (t ∷ path) ≡ None → t ∷ path ≡ []) → parent_and_last (t ∷ path) ≡ split
        → option_map {U = List (List ℕ) × List ℕ} (λ (p : List (List ℕ) × List ℕ). (s ∷ p.0, p.1)) split ≡ None → s ∷ t ∷ path ≡ []
    by None shorter e g = absurd (let nil = shorter e in cc)
    by (Some p) shorter e g = absurd cc

parent_of : (before : List Module) (path : List (List ℕ)) (split : Option (List (List ℕ) × List ℕ)) → parent_and_last path ≡ split
    → FitsUnder before split → (path ≡ []) ⊎ HasParent before path
parent_of before path None e fits = inl (no_last path e)
parent_of before path (Some (parent, name)) e fits =
    let (k, at_path, absent) = free_under before parent name (module_at before parent) refl fits in
    let there = module_at_some before parent k at_path in
    inr (record {
      parent = there.0;
      name = name;
      stands = contains_at before k there.0 there.1;
      ends = whole path parent name e ∙ ap (λ p. p ++ name ∷ []) (sym there.2);
      free =
          subst (λ names. ¬ Contains names name) (names_of_both there.0.items there.0.aliases)
          (absent_from (named_in there.0) name (ap (λ ns. meaning_of ns name) (sym (named_at_module before k there.0 there.1)) ∙ absent));
    })

-- modules that pass the tests fit together
pub sound_in_order : (modules : List Module) → FitInOrder modules → AreSound modules
sound_in_order modules fit = record {
  paths = paths_after [] modules (λ i j d less lt. absurd (omega arith)) fit;
  parents = λ n m h.
      parent_of (take n modules) m.path (parent_and_last m.path) refl (all_at FitsModule [] modules n m fit h).parent;
  names =
      All-from_recursion (λ m. AreDistinct (names_in m)) modules
      (each_holds FitsModule (λ m. AreDistinct (names_in m)) names_from [] modules fit);
  lifetimes =
      All-from_recursion (λ m. All HasSoundLifetimes m.items) modules
      (each_holds FitsModule (λ m. All HasSoundLifetimes m.items) items_from [] modules fit);
}

module _ (modules : List Module) (sound : AreSound modules) where
  not_later : (i j : ℕ) (x y : Module) → slice_get modules i ≡ Some x → slice_get modules j ≡ Some y → x.path ≡ y.path → i < j → ⊥
  not_later i j x y first second same less =
      sound.paths i j x less (slice_get_within modules j y second)
      (ap (λ (m : Module). m.path) (get_or_from_slice_get modules i x x first) ∙ same
      ∙ sym (ap (λ (m : Module). m.path) (get_or_from_slice_get modules j y x second)))

  same_place : (i j : ℕ) (x y : Module) → slice_get modules i ≡ Some x → slice_get modules j ≡ Some y → x.path ≡ y.path → i ≡ j
  same_place i j x y first second same =
      let later = not_later i j x y first second same in
      let earlier = not_later j i y x second first (sym same) in
      omega (arith, later, earlier)

  module _ (n : ℕ) (m : Module) (h : slice_get modules n ≡ Some m) where
    new_path : (found : Option ℕ) → module_at (take n modules) m.path ≡ found → module_at (take n modules) m.path ≡ None
    new_path None e = e
    new_path (Some k) e =
        let there = module_at_some (take n modules) m.path k e in
        let less : k < length (take n modules) = slice_get_within (take n modules) k there.0 there.1 in
        let same : k ≡ n = same_place k n there.0 m (in_front modules n k there.0 there.1) h there.2 in
        absurd (omega (arith, length-take n modules))

    free_to : (name : List ℕ) (parent : Module) (k : ℕ) → slice_get (take n modules) k ≡ Some parent → ¬ Contains (names_in parent) name
        → (found : Option ℕ) → module_at (take n modules) parent.path ≡ found → IsFree (take n modules) found name
    free_to name parent k stands free None e = absurd (module_there (take n modules) k parent parent.path stands refl e)
    free_to name parent k stands free (Some j) e =
        let there = module_at_some (take n modules) parent.path j e in
        let same : j ≡ k = same_place j k there.0 parent (in_front modules n j there.0 there.1) (in_front modules n k parent stands) there.2 in
        ap (λ i. meaning_of (named_at (take n modules) i) name) same
        ∙ ap (λ ns. meaning_of ns name) (named_at_module (take n modules) k parent stands)
        ∙ none_of_names (named_in parent) name
        (subst (λ names. ¬ Contains names name) (sym (names_of_both parent.items parent.aliases)) free)

    parent_to : (m.path ≡ []) ⊎ HasParent (take n modules) m.path → FitsUnder (take n modules) (parent_and_last m.path)
    parent_to (inl root) = subst (λ path. FitsUnder (take n modules) (parent_and_last path)) (sym root) tt
    parent_to (inr has) =
        subst (FitsUnder (take n modules)) (sym (ap parent_and_last has.ends ∙ parent_and_last-snoc has.parent.path has.name))
        (free_to has.name has.parent has.stands.0
        (slice_get-get_or (take n modules) has.stands.0 has.parent has.stands.1 ∙ ap Some has.stands.2) has.free
        (module_at (take n modules) has.parent.path) refl)

    module_to : FitsModule (take n modules) m
    module_to =
        let here = contains_at modules n m h in
        let distinct = All-contains (λ x. AreDistinct (names_in x)) modules m sound.names here in
        record {
          new = new_path (module_at (take n modules) m.path) refl;
          parent = parent_to (sound.parents n m h);
          items = items_to m distinct (All-contains (λ x. All HasSoundLifetimes x.items) modules m sound.lifetimes here);
          aliases = aliases_to m distinct;
        }

-- and modules that fit together pass the tests
pub order_of_sound : (modules : List Module) → AreSound modules → FitInOrder modules
order_of_sound modules sound = after_from FitsModule [] modules (λ n m h. module_to modules sound n m h)

-- ---- the lifetimes of one declaration

-- each environment that modules declare is one of lifetimes that fit together
pub environment_fits : (modules : List Module) → AreSound modules → (m : Module) (item : Item) (env : LifetimeEnv) → Contains modules m
    → Contains m.items item → Contains (lifetimes_of item) env → IsSoundEnvironment env
environment_fits modules sound m item env here inside declared =
    All-contains IsSoundEnvironment (lifetimes_of item) env
    (All-contains HasSoundLifetimes m.items item (All-contains (λ x. All HasSoundLifetimes x.items) modules m sound.lifetimes here) inside)
    declared

-- the environments of methods, by the methods
pub methods_fit : {M : Type 0} (lifetimes : M → LifetimeEnv) (methods : List M) → All IsSoundEnvironment (map lifetimes methods)
    → All (λ method. IsSoundEnvironment (lifetimes method)) methods
methods_fit lifetimes methods sound k d within =
    subst IsSoundEnvironment (get_or-map lifetimes methods k d (lifetimes d) within)
    (sound k (lifetimes d) (omega (arith, length-map methods lifetimes)))

-- and those after that of the item itself
pub rest_fits : (env : LifetimeEnv) (envs : List LifetimeEnv) → All IsSoundEnvironment (env ∷ envs) → All IsSoundEnvironment envs
rest_fits env envs sound k d within = sound (suc k) d (omega arith)
