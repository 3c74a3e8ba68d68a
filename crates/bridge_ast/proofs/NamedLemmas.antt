-- What stands under a name in modules that fit together.
use Rattle.std.proofs.Common.{◌≡◌, ℕ, zero, suc, ◌+◌, Bool, true, false, cond, List, [], ◌∷◌, ◌++◌, length, length-append, append_assoc, take, drop, take-append-drop, get_or, Option, Some, None, refl, sym, ap, ◌∙◌, arith, subst, inl, inr, ◌⊎◌}
use Rattle.std.specs.Prelude.{option_map, option_and_then, slice_get, map}
use Rattle.std.proofs.lemmas.List.{append-nil}
use Rattle.std.proofs.lemmas.Option.{slice_get-map, get_or_from_slice_get}
use Rattle.std.specs.Str.{bytes_eq}
use Rattle.bridge_decl.specs.declared.modules.Alias.{Alias}
use Rattle.bridge_decl.specs.declared.modules.Item.{Item}
use Rattle.bridge_decl.specs.declared.modules.Module.{Module}
use Rattle.bridge_ast.specs.declared.fault.EnvPart.{EnvPart}
use Rattle.bridge_ast.specs.declared.fault.EnvPart.TheVariants as part
use Rattle.bridge_text.specs.NameIndex.{meaning_of}
use Rattle.bridge_ast.specs.Each.{each_after}
use Rattle.bridge_ast.specs.EnvFaults.{Named, module_at, named_at, named_in, items_named, aliases_named, parent_and_last}
use Rattle.bridge_decl.specs.Names.{item_name}
use Rattle.bridge_ast.specs.Paths.{IsSubmodule, HasItem, HasAlias}
use Rattle.bridge_ast.specs.inside.Resolution.{path_at, target_at}
use Rattle.bridge_ast.specs.inside.Scopes.{ArePaths}
use Rattle.bridge_ast.specs.inside.Fitting.{AllAfter, FitsItem, FitsModule, IsFree, FitsUnder, FitInOrder}
use Rattle.bridge_ast.specs.inside.Trails.{IsModule}
use Rattle.bridge_ast.proofs.EachLemmas.{each-append}
use Rattle.bridge_text.proofs.NameIndexLemmas.{same_text, text_itself}
use Rattle.bridge_ast.proofs.PathLemmas.{parent_and_last-snoc, module_at_some, named_at_module, slice_get_left}
use Rattle.bridge_ast.proofs.TrailLemmas.{path_at_module}

-- ---- lists of names

-- what holds of each element after those before it, at one
pub all_at : {X : Type 0} (P : List X → X → Type 0) (before xs : List X) (n : ℕ) (x : X) → AllAfter P before xs → slice_get xs n ≡ Some x → P (before ++ take n xs) x
all_at P before [] n x all h = absurd cc
all_at P before (y ∷ xs) zero x all h =
    let same : y ≡ x = cc in
    subst (λ b. P b x) (sym (append-nil before)) (subst (P before) same all.0)
all_at P before (y ∷ xs) (suc n) x all h = subst (λ b. P b x) (append_assoc before (y ∷ []) (take n xs)) (all_at P (before ++ y ∷ []) xs n x all.1 h)

all_map : {X : Type 0} (P Q : List X → X → Type 0) → ((before : List X) (x : X) → P before x → Q before x) → (before xs : List X) → AllAfter P before xs → AllAfter Q before xs
all_map P Q f before [] all = tt
all_map P Q f before (x ∷ xs) all = (f before x all.0, all_map P Q f (before ++ x ∷ []) xs all.1)

cond_parts : {V : Type 0} (b : Bool) (u p : V) (o : Option V) → cond b (Some u) o ≡ Some p → ((b ≡ true) × (p ≡ u)) ⊎ (o ≡ Some p)
cond_parts true u p o h = inl (refl, cc)
cond_parts false u p o h = inr h

cond_none : {V : Type 0} (b : Bool) (u : V) (o : Option V) → cond b (Some u) o ≡ None → (b ≡ false) × (o ≡ None)
cond_none true u o h = absurd cc
cond_none false u o h = (refl, h)

named_later : (names others : List Named) (q : List ℕ) → meaning_of names q ≡ None → meaning_of (names ++ others) q ≡ meaning_of others q
named_later [] others q h = refl
named_later (n ∷ names) others q h =
    let parts = cond_none (bytes_eq n.0 q) n.1 (meaning_of names q) h in
    ap (λ b. cond b (Some n.1) (meaning_of (names ++ others) q)) parts.0 ∙ named_later names others q parts.1

named_earlier : (names others : List Named) (q : List ℕ) (p : EnvPart) → meaning_of names q ≡ Some p → meaning_of (names ++ others) q ≡ Some p
named_earlier [] others q p h = absurd cc
named_earlier (n ∷ names) others q p h = by (bytes_eq n.0 q) (named_earlier names others q p) h
  where
    by : (b : Bool) → (meaning_of names q ≡ Some p → meaning_of (names ++ others) q ≡ Some p) → cond b (Some n.1) (meaning_of names q) ≡ Some p → cond b (Some n.1) (meaning_of (names ++ others) q) ≡ Some p
    by true later e = e
    by false later e = later e

named_either : (names others : List Named) (q : List ℕ) (p : EnvPart) → meaning_of (names ++ others) q ≡ Some p → (meaning_of names q ≡ Some p) ⊎ (meaning_of others q ≡ Some p)
named_either [] others q p h = inr h
named_either (n ∷ names) others q p h = by (bytes_eq n.0 q) (named_either names others q p) h
  where
    by : (b : Bool) → (meaning_of (names ++ others) q ≡ Some p → (meaning_of names q ≡ Some p) ⊎ (meaning_of others q ≡ Some p)) → cond b (Some n.1) (meaning_of (names ++ others) q) ≡ Some p
        → (cond b (Some n.1) (meaning_of names q) ≡ Some p) ⊎ (meaning_of others q ≡ Some p)
    by true later e = inl e
    by false later e = later e

module _ {X : Type 0} (name : X → List ℕ) (f : ℕ → EnvPart) where
  abbrev entries : List X → List X → List Named
  entries before xs = each_after (λ b x. (name x, f (length b)) ∷ []) before xs

  -- an element that a name stands for
  element_of : (before xs : List X) (q : List ℕ) (p : EnvPart) → meaning_of (entries before xs) q ≡ Some p → (i : ℕ) × (x : X) × (slice_get xs i ≡ Some x) × (p ≡ f (length before + i)) × (name x ≡ q)
  element_of before [] q p h = absurd cc
  element_of before (x ∷ xs) q p h =
      elim (cond_parts (bytes_eq (name x) q) (f (length before)) p (meaning_of (entries (before ++ x ∷ []) xs) q) h) [
        | inl w ↦ (0, x, refl, w.1 ∙ ap f (let e : length before ≡ length before + 0 = omega arith in e), same_text (name x) q w.0)
        | inr later ↦
            let (i, y, at_place, is, named) = element_of (before ++ x ∷ []) xs q p later in
            (suc i, y, at_place, is ∙ ap f (let e : length (before ++ x ∷ []) + i ≡ length before + suc i = omega (arith, length-append before (x ∷ [])) in e), named)
      ]

  -- a name stands for the element that has it, where no earlier one has it
  part_of_element : (front : List Named) (before xs : List X) (i : ℕ) (x : X) → AllAfter (λ b y. meaning_of (front ++ entries [] b) (name y) ≡ None) before xs → slice_get xs i ≡ Some x
      → meaning_of (front ++ entries [] (before ++ xs)) (name x) ≡ Some (f (length before + i))
  part_of_element front before [] i x all h = absurd cc
  part_of_element front before (y ∷ xs) zero x all h =
      let same : y ≡ x = cc in
      ap (λ ns. meaning_of (front ++ ns) (name x)) (each-append (λ b z. (name z, f (length b)) ∷ []) [] before (y ∷ xs))
      ∙ ap (λ ns. meaning_of ns (name x)) (sym (append_assoc front (entries [] before) (entries before (y ∷ xs))))
      ∙ named_later (front ++ entries [] before) (entries before (y ∷ xs)) (name x) (subst (λ z. meaning_of (front ++ entries [] before) (name z) ≡ None) same all.0)
      ∙ ap (λ b. cond b (Some (f (length before))) (meaning_of (entries (before ++ y ∷ []) xs) (name x))) (ap (λ z. bytes_eq (name z) (name x)) same ∙ text_itself (name x))
      ∙ ap (λ n. Some (f n)) (let e : length before ≡ length before + 0 = omega arith in e)
  part_of_element front before (y ∷ xs) (suc i) x all h =
      ap (λ zs. meaning_of (front ++ entries [] zs) (name x)) (sym (append_assoc before (y ∷ []) xs))
      ∙ part_of_element front (before ++ y ∷ []) xs i x all.1 h
      ∙ ap (λ n. Some (f n)) (let e : length (before ++ y ∷ []) + i ≡ length before + suc i = omega (arith, length-append before (y ∷ [])) in e)

  -- the same of a whole list
  pub element_at : (xs : List X) (q : List ℕ) (p : EnvPart) → meaning_of (entries [] xs) q ≡ Some p → (i : ℕ) × (x : X) × (slice_get xs i ≡ Some x) × (p ≡ f i) × (name x ≡ q)
  element_at xs q p h =
      let (i, x, at_place, is, named) = element_of [] xs q p h in
      (i, x, at_place, is ∙ ap f (let e : length {A = X} [] + i ≡ i = omega arith in e), named)

  pub part_at : (front : List Named) (xs : List X) (i : ℕ) (x : X) → AllAfter (λ b y. meaning_of (front ++ entries [] b) (name y) ≡ None) [] xs → slice_get xs i ≡ Some x
      → meaning_of (front ++ entries [] xs) (name x) ≡ Some (f i)
  part_at front xs i x all h = part_of_element front [] xs i x all h ∙ ap (λ n. Some (f n)) (let e : length {A = X} [] + i ≡ i = omega arith in e)

-- ---- one module

module _ (m : Module) where
  item_in : (name : List ℕ) (item : ℕ) → meaning_of (named_in m) name ≡ Some (part.Item item) → (x : Item) × (slice_get m.items item ≡ Some x) × (item_name x ≡ name)
  item_in name item h =
      elim (named_either (items_named m.items) (aliases_named m.aliases) name (part.Item item) h) [
        | inl found ↦
            let (i, x, at_place, is, named) = element_at item_name (λ n. part.Item n) m.items name (part.Item item) found in
            let same : i ≡ item = cc in
            (x, subst (λ n. slice_get m.items n ≡ Some x) same at_place, named)
        | inr found ↦ let (i, x, at_place, is, named) = element_at (λ (a : Alias). a.name) (λ n. part.Alias n) m.aliases name (part.Item item) found in absurd cc
      ]

  alias_in : (name : List ℕ) (alias : ℕ) → meaning_of (named_in m) name ≡ Some (part.Alias alias) → (x : Alias) × (slice_get m.aliases alias ≡ Some x) × (x.name ≡ name)
  alias_in name alias h =
      elim (named_either (items_named m.items) (aliases_named m.aliases) name (part.Alias alias) h) [
        | inl found ↦ let (i, x, at_place, is, named) = element_at item_name (λ n. part.Item n) m.items name (part.Alias alias) found in absurd cc
        | inr found ↦
            let (i, x, at_place, is, named) = element_at (λ (a : Alias). a.name) (λ n. part.Alias n) m.aliases name (part.Alias alias) found in
            let same : i ≡ alias = cc in
            (x, subst (λ n. slice_get m.aliases n ≡ Some x) same at_place, named)
      ]

  module _ (before : List Module) (sound : FitsModule before m) where
    item_stands : (item : ℕ) (x : Item) → slice_get m.items item ≡ Some x → meaning_of (named_in m) (item_name x) ≡ Some (part.Item item)
    item_stands item x h =
        named_earlier (items_named m.items) (aliases_named m.aliases) (item_name x) (part.Item item)
        (part_at item_name (λ n. part.Item n) [] m.items item x
        (all_map FitsItem (λ b y. meaning_of (items_named b) (item_name y) ≡ None) (λ b y s. s.new) [] m.items sound.items) h)

    alias_stands : (alias : ℕ) (x : Alias) → slice_get m.aliases alias ≡ Some x → meaning_of (named_in m) x.name ≡ Some (part.Alias alias)
    alias_stands alias x h = part_at (λ (a : Alias). a.name) (λ n. part.Alias n) (items_named m.items) m.aliases alias x sound.aliases h

-- ---- all modules

pub pair_parts : {A B : Type 0} (a c : A) (b d : B) → ◌≡◌ {A = Option (A × B)} (Some (a, b)) (Some (c, d)) → (a ≡ c) × (b ≡ d)
pair_parts {A = A} {B = B} a c b d h = let pair : ◌≡◌ {A = A × B} (a, b) (c, d) = cc in (ap (λ (p : A × B). p.0) pair, ap (λ (p : A × B). p.1) pair)

-- a path with a last segment is that of its parent with the segment
pub whole : (path parent : List (List ℕ)) (last : List ℕ) → parent_and_last path ≡ Some (parent, last) → path ≡ parent ++ last ∷ []
whole [] parent last h = absurd cc
whole (s ∷ []) parent last h = let (p, l) = pair_parts [] parent s last h in ap (λ x. x ∷ []) l ∙ ap (λ xs. xs ++ last ∷ []) p
whole (s ∷ t ∷ path) parent last h = by (parent_and_last (t ∷ path)) (whole (t ∷ path)) refl h
  where
    by : (o : Option (List (List ℕ) × List ℕ)) → ((above : List (List ℕ)) (l : List ℕ) → parent_and_last (t ∷ path) ≡ Some (above, l) → t ∷ path ≡ above ++ l ∷ []) → parent_and_last (t ∷ path) ≡ o
        → option_map {U = List (List ℕ) × List ℕ} (λ (split : List (List ℕ) × List ℕ). (s ∷ split.0, split.1)) o ≡ Some (parent, last) → s ∷ t ∷ path ≡ parent ++ last ∷ []
    by None shorter e g = absurd cc
    by (Some (above, l)) shorter e g =
        let (p, same) = pair_parts (s ∷ above) parent l last g in
        ap (λ xs. s ∷ xs) (shorter above l e) ∙ ap (λ x. s ∷ above ++ x ∷ []) same ∙ ap (λ xs. xs ++ last ∷ []) p

pub in_front : {X : Type 0} (xs : List X) (n k : ℕ) (x : X) → slice_get (take n xs) k ≡ Some x → slice_get xs k ≡ Some x
in_front xs n k x h = ap (λ ys. slice_get ys k) (sym (take-append-drop n xs)) ∙ slice_get_left (take n xs) (drop n xs) k x h

pub free_under : (before : List Module) (path : List (List ℕ)) (name : List ℕ) (found : Option ℕ) → module_at before path ≡ found → IsFree before found name
    → (k : ℕ) × (module_at before path ≡ Some k) × (meaning_of (named_at before k) name ≡ None)
free_under before path name None e free = absurd free
free_under before path name (Some k) e free = (k, e, free)

target_at_alias : (modules : List Module) (number alias : ℕ) (m : Module) (a : Alias) → slice_get modules number ≡ Some m → slice_get m.aliases alias ≡ Some a → target_at modules number alias ≡ a.target
target_at_alias modules number alias m a h g =
    ap (λ (targets : List (List (List ℕ))). get_or targets alias [])
    (get_or_from_slice_get (map (λ (x : Module). map (λ (y : Alias). y.target) x.aliases) modules) number (map (λ (y : Alias). y.target) m.aliases) []
    (slice_get-map (λ (x : Module). map (λ (y : Alias). y.target) x.aliases) modules number ∙ ap (option_map (λ (x : Module). map (λ (y : Alias). y.target) x.aliases)) h))
    ∙ get_or_from_slice_get (map (λ (y : Alias). y.target) m.aliases) alias a.target [] (slice_get-map (λ (y : Alias). y.target) m.aliases alias ∙ ap (option_map (λ (y : Alias). y.target)) g)

module _ (modules : List Module) (are : ArePaths modules) (sound : FitInOrder modules) where
  -- submodules and parents

  pub submodule_found : (outer : ℕ) (name : List ℕ) (inner : ℕ) → IsSubmodule modules outer name inner → module_at modules (path_at modules outer ++ name ∷ []) ≡ Some inner
  submodule_found outer name inner sub =
      ap (λ p. module_at modules (p ++ name ∷ [])) (path_at_module modules outer sub.parent sub.outer_is) ∙ ap (module_at modules) (sym sub.ends) ∙ are.distinct inner sub.child sub.inner_is

  pub submodule_from : (outer : ℕ) (name : List ℕ) (inner : ℕ) → IsModule modules outer → module_at modules (path_at modules outer ++ name ∷ []) ≡ Some inner → IsSubmodule modules outer name inner
  submodule_from outer name inner (m, h) found =
      let there = module_at_some modules (path_at modules outer ++ name ∷ []) inner found in
      record { parent = m; child = there.0; outer_is = h; inner_is = there.1; ends = there.2 ∙ ap (λ p. p ++ name ∷ []) (path_at_module modules outer m h) }

  pub parent_found : (above : ℕ) (last : List ℕ) (number : ℕ) → IsSubmodule modules above last number → option_and_then (λ split. module_at modules split.0) (parent_and_last (path_at modules number)) ≡ Some above
  parent_found above last number sub =
      ap (option_and_then (λ (split : List (List ℕ) × List ℕ). module_at modules split.0))
      (ap parent_and_last (path_at_module modules number sub.child sub.inner_is ∙ sub.ends) ∙ parent_and_last-snoc sub.parent.path last)
      ∙ are.distinct above sub.parent sub.outer_is

  pub parent_from : (above number : ℕ) → IsModule modules number → option_and_then (λ split. module_at modules split.0) (parent_and_last (path_at modules number)) ≡ Some above → (last : List ℕ) × IsSubmodule modules above last number
  parent_from above number (m, h) found = by (parent_and_last (path_at modules number)) refl found
    where
      by : (split : Option (List (List ℕ) × List ℕ)) → parent_and_last (path_at modules number) ≡ split → option_and_then (λ (s : List (List ℕ) × List ℕ). module_at modules s.0) split ≡ Some above → (last : List ℕ) × IsSubmodule modules above last number
      by None e g = absurd cc
      by (Some (parent, last)) e g =
          let there = module_at_some modules parent above g in
          (last, record { parent = there.0; child = m; outer_is = there.1; inner_is = h; ends = sym (path_at_module modules number m h) ∙ whole (path_at modules number) parent last e ∙ ap (λ p. p ++ last ∷ []) (sym there.2) })

  -- a name of a submodule is that of no item and no alias

  free : (number : ℕ) (name : List ℕ) (below : ℕ) → IsSubmodule modules number name below → meaning_of (named_at modules number) name ≡ None
  free number name below sub =
      let child = all_at FitsModule [] modules below sub.child sound sub.inner_is in
      let has = subst (FitsUnder (take below modules)) (ap parent_and_last sub.ends ∙ parent_and_last-snoc sub.parent.path name) child.parent in
      let (k, at_path, absent) = free_under (take below modules) sub.parent.path name (module_at (take below modules) sub.parent.path) refl has in
      let there = module_at_some (take below modules) sub.parent.path k at_path in
      let stands = in_front modules below k there.0 there.1 in
      let both : Some k ≡ Some number = sym (are.distinct k there.0 stands) ∙ ap (module_at modules) there.2 ∙ are.distinct number sub.parent sub.outer_is in
      let same : k ≡ number = cc in
      ap (λ n. meaning_of (named_at modules n) name) (sym same)
      ∙ ap (λ ns. meaning_of ns name) (named_at_module modules k there.0 stands ∙ sym (named_at_module (take below modules) k there.0 there.1))
      ∙ absent

  no_submodule : (number : ℕ) (name : List ℕ) (p : EnvPart) → IsModule modules number → meaning_of (named_at modules number) name ≡ Some p → module_at modules (path_at modules number ++ name ∷ []) ≡ None
  no_submodule number name p is_module named = by (module_at modules (path_at modules number ++ name ∷ [])) refl
    where
      by : (found : Option ℕ) → module_at modules (path_at modules number ++ name ∷ []) ≡ found → module_at modules (path_at modules number ++ name ∷ []) ≡ None
      by None e = e
      by (Some below) e = absurd (let none : Some p ≡ None = sym named ∙ free number name below (submodule_from number name below is_module e) in cc)

  -- items

  pub item_found : (number : ℕ) (name : List ℕ) (item : ℕ) → HasItem modules number name item → (module_at modules (path_at modules number ++ name ∷ []) ≡ None) × (meaning_of (named_at modules number) name ≡ Some (part.Item item))
  item_found number name item has =
      let named : meaning_of (named_at modules number) name ≡ Some (part.Item item) =
      (ap (λ ns. meaning_of ns name) (named_at_module modules number has.owner has.owner_is) ∙ ap (meaning_of (named_in has.owner)) (sym has.name_is)
      ∙ item_stands has.owner (take number modules) (all_at FitsModule [] modules number has.owner sound has.owner_is) item has.found has.found_is)
      in
      (no_submodule number name (part.Item item) (has.owner, has.owner_is) named, named)

  pub item_from : (number : ℕ) (name : List ℕ) (item : ℕ) → IsModule modules number → meaning_of (named_at modules number) name ≡ Some (part.Item item) → HasItem modules number name item
  item_from number name item (m, h) named =
      let (x, at_place, is) = item_in m name item (ap (λ ns. meaning_of ns name) (sym (named_at_module modules number m h)) ∙ named) in
      record { owner = m; found = x; owner_is = h; found_is = at_place; name_is = is }

  -- aliases

  pub alias_found : (number : ℕ) (name : List ℕ) (target : List (List ℕ)) → HasAlias modules number name target
      → (alias : ℕ) × (module_at modules (path_at modules number ++ name ∷ []) ≡ None) × (meaning_of (named_at modules number) name ≡ Some (part.Alias alias)) × (target_at modules number alias ≡ target)
  alias_found number name target has =
      let named : meaning_of (named_at modules number) name ≡ Some (part.Alias has.alias) =
      (ap (λ ns. meaning_of ns name) (named_at_module modules number has.owner has.owner_is) ∙ ap (meaning_of (named_in has.owner)) (sym has.name_is)
      ∙ alias_stands has.owner (take number modules) (all_at FitsModule [] modules number has.owner sound has.owner_is) has.alias has.found has.found_is)
      in
      (has.alias, no_submodule number name (part.Alias has.alias) (has.owner, has.owner_is) named, named, target_at_alias modules number has.alias has.owner has.found has.owner_is has.found_is ∙ has.target_is)

  pub alias_from : (number : ℕ) (name : List ℕ) (alias : ℕ) → IsModule modules number → meaning_of (named_at modules number) name ≡ Some (part.Alias alias) → HasAlias modules number name (target_at modules number alias)
  alias_from number name alias (m, h) named =
      let (x, at_place, is) = alias_in m name alias (ap (λ ns. meaning_of ns name) (sym (named_at_module modules number m h)) ∙ named) in
      record { owner = m; alias = alias; found = x; owner_is = h; found_is = at_place; name_is = is; target_is = sym (target_at_alias modules number alias m x h at_place) }
