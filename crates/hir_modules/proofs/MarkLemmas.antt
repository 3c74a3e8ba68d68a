-- The marks around a module are those of the module around it, and all modules are read in order.
use Rattle.std.proofs.Common.{◌≡◌, ◌≢◌, ◌⊎◌, inl, inr, ℕ, zero, suc, ◌+◌, ◌<◌, ◌≤◌, Bool, true, false, List, [], ◌∷◌, ◌++◌, length, map, take, get_or, set, Option, Some, None, refl, sym, ap, subst, ◌∙◌, arith}
use Rattle.std.specs.Prelude.{AllPairs, Contains, if◌then◌else◌, option_map, slice_get, slice_set}
use Rattle.std.proofs.lemmas.Bool.Decides.{eqb_tells}
use Rattle.std.proofs.lemmas.List.{append-nil, append_assoc, get_or-set_other, get_or-set_same, length-append, length-set, take_more}
use Rattle.std.proofs.lemmas.Grind.{flat_map-append}
use Rattle.std.specs.List.{flat_map}
use Rattle.std.proofs.lemmas.List.Elements.{Contains-append_cases}
use Rattle.std.proofs.lemmas.Option.{get_or_from_slice_get, slice_get_within}
use Rattle.bridge_ast.specs.EnvFaults.{module_at, path_eq}
use Rattle.bridge_ast.specs.Paths.{IsSubmodule}
use Rattle.bridge_ast.specs.Sound.{AreSound}
use Rattle.bridge_ast.proofs.PathLemmas.{module_at_some, path_itself}
use Rattle.bridge_decl.specs.declared.modules.Module.{Module}
use Rattle.bridge_order.specs.Order.{module_order, of_found}
use Rattle.bridge_order.proofs.OrderLemmas.{all_ordered, get_there}
use Rattle.hir_attrs.specs.Attrs.{empty_attrs}
use Rattle.hir_attrs.specs.declared.attrs.Attrs.{Attrs}
use Rattle.hir_backends.specs.Backend.{Backend}
use Rattle.hir_attrs.specs.Reading.{marks_errors, marks_of}
use Rattle.hir_modules.proofs.EarlierLemmas.{depth_at, earlier_in_order, ordered_inside, path_length}
use Rattle.hir_modules.specs.Holding.{HoldsStill}
use Rattle.hir_modules.specs.ModuleMarks.{marks_along, marks_around, module_marks, module_with_path, module_reports, numbered_module, numbered_reports, own_marks}
use Rattle.hir_reports.specs.Store.{Held, at_place, told_at}
use Rattle.hir_reports.specs.declared.report.LoweringReport.{LoweringReport}
use Rattle.hir_modules.specs.inside.Walk.{AreRead, HasAround, IsRead}

-- ---- a module is found by its path

first_or_later : (first : Bool) (others : Option ℕ) (k : ℕ) → others ≡ Some k
    → (n : ℕ) × ((if first then Some 0 else option_map suc others) ≡ Some n)
first_or_later true others k e = (0, refl)
first_or_later false others k e = (suc k, ap (option_map suc) e)

is_found : (modules : List Module) (n : ℕ) (m : Module) → slice_get modules n ≡ Some m → (k : ℕ) × (module_at modules m.path ≡ Some k)
is_found [] n m stands = absurd cc
is_found (first ∷ modules) zero m stands =
    let same : first ≡ m = cc in
    (0, subst (λ (x : Module). module_at (first ∷ modules) x.path ≡ Some 0) same (ap (λ b. if b then Some 0 else option_map suc (module_at modules first.path)) (path_itself first.path)))
is_found (first ∷ modules) (suc n) m stands =
    let rest = is_found modules n m stands in
    first_or_later (path_eq first.path m.path) (module_at modules m.path) rest.0 rest.1

apart : (i j : ℕ) → (i ≡ j) ⊎ ((i < j) ⊎ (j < i))
apart zero zero = inl refl
apart zero (suc j) = inr (inl (omega arith))
apart (suc i) zero = inr (inr (omega arith))
apart (suc i) (suc j) = elim (apart i j) [ inl e ↦ inl (ap suc e) | inr d ↦ inr (elim d [ inl lt ↦ inl (omega arith) | inr gt ↦ inr (omega arith) ]) ]

module _ (modules : List Module) (paths : AllPairs (λ (earlier : Module) (later : Module). earlier.path ≢ later.path) modules) where
  differ : (i j : ℕ) (one other : Module) → i < j → slice_get modules i ≡ Some one → slice_get modules j ≡ Some other → one.path ≢ other.path
  differ i j one other lt first second =
      let ends : j < length modules = slice_get_within modules j other second in
      let different = paths i j one lt ends in
      λ e. different (ap (λ (x : Module). x.path) (get_or_from_slice_get modules i one one first) ∙ e
      ∙ sym (ap (λ (x : Module). x.path) (get_or_from_slice_get modules j other one second)))

  one_path : (i j : ℕ) (one other : Module) → slice_get modules i ≡ Some one → slice_get modules j ≡ Some other → one.path ≡ other.path → i ≡ j
  one_path i j one other first second e =
      elim (apart i j) [
        | inl same ↦ same
        | inr d ↦ elim d [ inl lt ↦ absurd (differ i j one other lt first second e) | inr gt ↦ absurd (differ j i other one gt second first (sym e)) ]
      ]

  own_module : (n : ℕ) (m : Module) → slice_get modules n ≡ Some m → module_with_path modules m.path ≡ Some m
  own_module n m stands =
      let found = is_found modules n m stands in
      let there = module_at_some modules m.path found.0 found.1 in
      let same : found.0 ≡ n = one_path found.0 n there.0 m there.1 stands there.2 in
      ap (numbered_module modules) found.1 ∙ ap (slice_get modules) same ∙ stands

-- ---- the marks around a module

along_more : (backend : Backend) (modules : List Module) (gone : List (List ℕ)) (met : Attrs) (path : List (List ℕ)) (name : List ℕ)
    → marks_along backend modules gone met (path ++ name ∷ [])
    ≡ own_marks backend (module_with_path modules (gone ++ path)) (marks_along backend modules gone met path)
along_more backend modules gone met [] name = ap (λ way. own_marks backend (module_with_path modules way) met) (sym (append-nil gone))
along_more backend modules gone met (first ∷ path) name =
    let next = own_marks backend (module_with_path modules gone) met in
    along_more backend modules (gone ++ first ∷ []) next path name
    ∙ ap (λ way. own_marks backend (module_with_path modules way) (marks_along backend modules (gone ++ first ∷ []) next path)) (append_assoc gone (first ∷ []) path)

pub around_inner : (backend : Backend) (modules : List Module) → AreSound modules → (outer number : ℕ) (name : List ℕ) (m above : Module)
    → IsSubmodule modules outer name number → slice_get modules number ≡ Some m → slice_get modules outer ≡ Some above
    → marks_around backend modules m.path ≡ module_marks backend modules above
around_inner backend modules sound outer number name m above sub stands around =
    let child : m ≡ sub.child = some_same m sub.child (sym stands ∙ sub.inner_is) in
    let parent : sub.parent ≡ above = some_same sub.parent above (sym sub.outer_is ∙ around) in
    let ends : m.path ≡ above.path ++ name ∷ [] = ap (λ (x : Module). x.path) child ∙ sub.ends ∙ ap (λ (x : Module). x.path ++ name ∷ []) parent in
    ap (marks_around backend modules) ends
    ∙ along_more backend modules [] empty_attrs above.path name
    ∙ ap (λ found. own_marks backend found (marks_around backend modules above.path)) (own_module modules sound.paths outer above around)
  where
    some_same : {A : Type 0} (x y : A) → Some x ≡ Some y → x ≡ y
    some_same x y e = cc

pub around_root : (backend : Backend) (modules : List Module) (m : Module) → m.path ≡ [] → marks_around backend modules m.path ≡ empty_attrs
around_root backend modules m e = ap (marks_around backend modules) e

-- ---- one module more

pub told_here : (backend : Backend) (modules : List Module) (number : ℕ) (m : Module) (around : Attrs) (old new : List LoweringReport)
    → slice_get modules number ≡ Some m → around ≡ marks_around backend modules m.path
    → new ≡ old ++ map (told_at (at_place m.path [] None)) (marks_errors backend m.attrs around)
    → new ≡ old ++ numbered_reports backend modules number
told_here backend modules number m around old new stands at e =
    e ∙ ap (λ set. old ++ map (told_at (at_place m.path [] None)) (marks_errors backend m.attrs set)) at
    ∙ ap (λ found. old ++ of_found (module_reports backend modules) found) (sym stands)

set_here : {A : Type 0} (xs : List A) (i : ℕ) (x : A) → i < length xs → slice_get (slice_set xs i x) i ≡ Some x
set_here xs i x lt =
    get_there (slice_set xs i x) i x (omega (arith, lt, length-set xs i x)) ∙ ap Some (get_or-set_same xs i x x lt)

set_elsewhere : {A : Type 0} (xs : List A) (i j : ℕ) (x y : A) → (j ≢ i) → slice_get xs j ≡ Some y → slice_get (slice_set xs i x) j ≡ Some y
set_elsewhere xs i j x y apart_from stands =
    let lt = slice_get_within xs j y stands in
    get_there (slice_set xs i x) j y (omega (arith, lt, length-set xs i x))
    ∙ ap Some (get_or-set_other xs i j x y apart_from ∙ get_or_from_slice_get xs j y y stands)

module _ (backend : Backend) (modules : List Module) (marks : List Attrs) (done : List ℕ) (number : ℕ) (m : Module) (own : Attrs) where
  read_itself : length marks ≡ length modules → slice_get modules number ≡ Some m → own ≡ module_marks backend modules m
      → (k : ℕ) → k ≡ number → IsRead backend modules (slice_set marks number own) k
  read_itself count stands is k same x found =
      let lt : number < length marks = omega (arith, count, slice_get_within modules number m stands) in
      let this : slice_get modules k ≡ Some m = ap (slice_get modules) same ∙ stands in
      ap (slice_get (slice_set marks number own)) same ∙ set_here marks number own lt ∙ ap Some is
      ∙ ap (option_map (module_marks backend modules)) (sym this ∙ found)

  read_still : AreRead backend modules marks done → (k : ℕ) → k ≢ number → Contains done k
      → IsRead backend modules (slice_set marks number own) k
  read_still read k differs here x found =
      set_elsewhere marks number k own (module_marks backend modules x) differs (read.each k here x found)

  pub read_more : AreRead backend modules marks done → slice_get modules number ≡ Some m → own ≡ module_marks backend modules m
      → AreRead backend modules (slice_set marks number own) (done ++ number ∷ [])
  read_more read stands is = record {
    count = length-set marks number own ∙ read.count;
    each = λ k here. elim (eqb_tells k number) [
      | inl (_, same) ↦ read_itself read.count stands is k same
      | inr (_, differs) ↦ elim (Contains-append_cases done (number ∷ []) k here) [
        | inl there ↦ read_still read k differs there
        | inr last ↦ absurd (differs (only_one number k last))
      ]
    ];
  }
    where
      only_one : (n k : ℕ) → Contains (n ∷ []) k → k ≡ n
      only_one n k (i, lt, at) = let first : i ≡ 0 = omega (arith, lt) in sym at ∙ ap (λ j. get_or (n ∷ []) j k) first

-- ---- all modules

module _ (modules : List Module) where
  deeper : (outer number : ℕ) (name : List ℕ) → IsSubmodule modules outer name number → depth_at modules outer < depth_at modules number
  deeper outer number name sub =
      let above : depth_at modules outer ≡ length sub.parent.path = ap path_length sub.outer_is in
      let below : depth_at modules number ≡ length sub.child.path = ap path_length sub.inner_is in
      let more : length sub.child.path ≡ length sub.parent.path + 1 = ap length sub.ends ∙ length-append sub.parent.path (name ∷ []) in
      omega (arith, above, below, more)

  pub around_is_read : (backend : Backend) (marks : List Attrs) (i : ℕ) → i < length (module_order modules)
      → AreRead backend modules marks (take i (module_order modules)) → HasAround backend modules marks (get_or (module_order modules) i 0)
  around_is_read backend marks i lt read outer name sub =
      read.each outer (earlier_in_order modules i outer lt
      (all_ordered modules outer sub.parent (slice_get_within modules outer sub.parent sub.outer_is))
      (deeper outer (get_or (module_order modules) i 0) name sub))

  pub number_inside : (i : ℕ) → i < length (module_order modules) → get_or (module_order modules) i 0 < length modules
  number_inside i lt = ordered_inside modules i 0 lt

  by_places : {A B : Type 0} (f : A → B) (xs : List A) (ys : List B) → length ys ≡ length xs
      → ((n : ℕ) (x : A) → slice_get xs n ≡ Some x → slice_get ys n ≡ Some (f x)) → ys ≡ map f xs
  by_places f [] [] count each = refl
  by_places f [] (y ∷ ys) count each = absurd (omega (arith, count))
  by_places f (x ∷ xs) [] count each = absurd (omega (arith, count))
  by_places f (x ∷ xs) (y ∷ ys) count each =
      let first : y ≡ f x = same_one y (f x) (each 0 x refl) in
      ap (λ z. z ∷ ys) first ∙ ap (λ zs. f x ∷ zs) (by_places f xs ys (omega (arith, count)) (λ n. each (suc n)))
    where
      same_one : {A : Type 0} (x y : A) → Some x ≡ Some y → x ≡ y
      same_one x y e = cc

  pub all_read : (backend : Backend) (marks : List Attrs) → AreRead backend modules marks (module_order modules)
      → marks ≡ map (module_marks backend modules) modules
  all_read backend marks read =
      by_places (module_marks backend modules) modules marks read.count
      (λ n m stands. read.each n (all_ordered modules n m (slice_get_within modules n m stands)) m stands)

-- ---- what is told so far

pub told_more : (f : ℕ → List LoweringReport) (numbers : List ℕ) (i : ℕ) (old middle new : List LoweringReport) → i < length numbers
    → middle ≡ old ++ flat_map f (take i numbers) → new ≡ middle ++ f (get_or numbers i 0) → new ≡ old ++ flat_map f (take (i + 1) numbers)
told_more f numbers i old middle new lt before e =
    let last = get_or numbers i 0 in
    let all : flat_map f (take (i + 1) numbers) ≡ flat_map f (take i numbers) ++ f last =
    ap (flat_map f) (take_more numbers i 0 lt) ∙ flat_map-append f (take i numbers) (last ∷ [])
    ∙ ap (λ l. flat_map f (take i numbers) ++ l) (append-nil (f last)) in
    e ∙ ap (λ l. l ++ f last) before ∙ append_assoc old (flat_map f (take i numbers)) (f last) ∙ ap (λ l. old ++ l) (sym all)

pub module_here : (modules lent : List Module) (i : ℕ) (m : Module) → lent ≡ modules → i < length modules → m ≡ get_or lent i m
    → slice_get modules i ≡ Some m
module_here modules lent i m same lt is = get_there modules i m lt ∙ ap Some (sym (is ∙ ap (λ ms. get_or ms i m) same))

-- ---- what a store holds still

pub holds_more : (old new : Held) (more : List LoweringReport) → new.reports ≡ old.reports ++ more → HoldsStill old new
holds_more old new more e = record { more = more; reports = e }

pub holds_after : (old middle new : Held) (more : List LoweringReport) → middle.reports ≡ old.reports ++ more → HoldsStill middle new → HoldsStill old new
holds_after old middle new more e kept = record {
  more = more ++ kept.more;
  reports = kept.reports ∙ ap (λ l. l ++ kept.more) e ∙ append_assoc old.reports more kept.more;
}
