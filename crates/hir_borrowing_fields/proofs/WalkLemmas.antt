-- A walk goes on from field to field.
use Rattle.std.proofs.Common.{◌≡◌, ◌<◌, ◌≤◌, ◌+◌, ◌-◌, ℕ, zero, suc, option_map, List, [], ◌∷◌, ◌++◌, length, map, get_or, take, Some, refl, sym, ap, subst, ◌∙◌, append_assoc, length-append, length-take-le, arith}
use Rattle.std.specs.List.{All, enumerate_from, flat_map}
use Rattle.std.proofs.lemmas.List.{append-nil, length-map, map-append, take_more}
use Rattle.std.proofs.lemmas.List.Elements.{All-cons, All-head, All-nil, All-tail}
use Rattle.std.proofs.lemmas.Grind.{flat_map-append}
use Rattle.std.proofs.lemmas.List.FromFn.{length-map-range_with_len}
use Rattle.std.proofs.lemmas.Option.{same_Some}
use Rattle.std.proofs.Math.Seq.{get_or-append_seam}
use Rattle.hir_life.specs.declared.maybe_static.MaybeStatic.TheVariants.{NonStatic}
use Rattle.hir_life.specs.Substitution.{identity}
use Rattle.hir_life.specs.declared.maybe_static.MaybeStatic.{MaybeStatic}
use Rattle.hir_ids.specs.declared.ids.TypeId.{TypeId}
use Rattle.hir_context.specs.declared.parts.Definitions.{Definitions}
use Rattle.hir_skeleton.specs.Skeletons.{Skeleton}
use Rattle.hir_context.specs.Lookups.{InputStruct}
use Rattle.hir_skeleton.specs.Lowered.{field_skeleton}
use Rattle.hir_skeleton.specs.Inputs.{input_struct}
use Rattle.hir_skeleton.specs.NamedLeaves.{NamedLeaf}
use Rattle.hir_borrowing_fields.specs.declared.walk.LeafWalk.{LeafWalk}
use Rattle.hir_borrowing_fields.specs.inside.Findings.{Extends, Findings, FindsMore}
use Rattle.hir_borrowing_fields.specs.inside.InputFits.{FieldsFit, SkeletonFits, TakesSoMany}
use Rattle.hir_borrowing_fields.specs.inside.Places.{Step, steps_at}
use Rattle.hir_borrowing_fields.specs.inside.Walks.{GoesOn, InputField, NamedSkeleton, behind, leaves_from, named_fields_in, step_into, walked_struct, walked_type}
use Rattle.hir_borrowing_fields.proofs.FindingLemmas.{extends_on, finds_on, steps_stay}

-- what comes behind a step comes behind all steps up to it
map_behind : {A : Type 0} (f : Step → A) (front : List Step) (step : Step) (rest : List A) → map f (front ++ step ∷ []) ++ rest ≡ map f front ++ f step ∷ rest
map_behind f front step rest = ap (λ steps. steps ++ rest) (map-append f front (step ∷ [])) ∙ append_assoc (map f front) (f step ∷ []) rest

behind_both : (front : List Step) (step : Step) (leaves : List NamedLeaf) → map (behind (front ++ step ∷ [])) leaves ≡ map (behind front) (map (behind (step ∷ [])) leaves)
behind_both front step [] = refl
behind_both front step (leaf ∷ leaves) =
    λ i. record {
      path = map_behind (λ (s : Step). s.number) front step leaf.path i;
      names = map_behind (λ (s : Step). s.name) front step leaf.names i;
      carried = leaf.carried;
    } ∷ behind_both front step leaves i

-- numbers go on behind some
numbered_on : {A : Type 0} (m : ℕ) (xs ys : List A) → enumerate_from m (xs ++ ys) ≡ enumerate_from m xs ++ enumerate_from (m + length xs) ys
numbered_on m [] ys =
    let same : m ≡ m + 0 = omega arith in
    ap (λ n. enumerate_from n ys) same
numbered_on m (x ∷ xs) ys =
    let same : m + 1 + length xs ≡ m + suc (length xs) = omega arith in
    ap (λ rest. (m, x) ∷ rest) (numbered_on (m + 1) xs ys)
    ∙ ap (λ n. (m, x) ∷ enumerate_from (m + 1) xs ++ enumerate_from n ys) same

-- the leaves of some and of others behind them
from_both : (m : ℕ) (f : Skeleton TypeId → List NamedLeaf) (first second : List (NamedSkeleton TypeId)) → leaves_from m f (first ++ second) ≡ leaves_from m f first ++ leaves_from (m + length first) f second
from_both m f first second =
    let h : ℕ × NamedSkeleton TypeId → List NamedLeaf = λ one. map (behind (step_into one ∷ [])) (f one.1.skeleton) in
    ap (flat_map h) (numbered_on m first second) ∙ flat_map-append h (enumerate_from m first) (enumerate_from (m + length first) second)

module _ {X : Type 0} (named : X → NamedSkeleton TypeId) (f : Skeleton TypeId → List NamedLeaf) (xs : List X) (i : ℕ) (x : X) (within : i < length xs) (is : x ≡ get_or xs i x) (m number : ℕ) (counts : number ≡ m + i) where
  -- the step into one more
  abbrev next_step : Step
  next_step = step_into (number, named x)

  -- the leaves of one more, with theirs behind the step into it
  each_more : leaves_from m f (map named (take (i + 1) xs)) ≡ leaves_from m f (map named (take i xs)) ++ map (behind (next_step ∷ [])) (f (named x).skeleton)
  each_more =
      let long = length-map (take i xs) named in
      let taken = length-take-le i xs (omega (arith, within)) in
      let same : m + length (map named (take i xs)) ≡ number = omega (arith, long, taken, counts) in
      ap (λ some. leaves_from m f (map named some)) (take_more xs i x within)
      ∙ ap (λ one. leaves_from m f (map named (take i xs ++ one ∷ []))) (sym is)
      ∙ ap (leaves_from m f) (map-append named (take i xs) (x ∷ []))
      ∙ from_both m f (map named (take i xs)) (named x ∷ [])
      ∙ ap (λ n. leaves_from m f (map named (take i xs)) ++ leaves_from n f (named x ∷ [])) same
      ∙ ap (λ leaves. leaves_from m f (map named (take i xs)) ++ leaves) (append-nil (map (behind (next_step ∷ [])) (f (named x).skeleton)))

  pub goes_on : (defs : Definitions) (old mid new : LeafWalk) (front : List Step)
      → GoesOn defs old mid (map (behind front) (leaves_from m f (map named (take i xs))))
      → GoesOn defs mid new (map (behind (front ++ next_step ∷ [])) (f (named x).skeleton))
      → GoesOn defs old new (map (behind front) (leaves_from m f (map named (take (i + 1) xs))))
  goes_on defs old mid new front first second =
      let before = leaves_from m f (map named (take i xs)) in
      let here = f (named x).skeleton in
      record {
        finds =
            subst (FindsMore old.found new.found)
            (ap (λ ys. map (behind front) before ++ ys) (behind_both front next_step here)
            ∙ sym (map-append (behind front) before (map (behind (next_step ∷ [])) here))
            ∙ ap (map (behind front)) (sym each_more))
            (finds_on old.found mid.found new.found _ _ first.finds second.finds);
        bare = second.bare;
      }

-- what is found behind the steps to a place, where that was there before
pub goes_behind : (defs : Definitions) (old mid new : LeafWalk) (at : ℕ) (step : Step) (leaves : List NamedLeaf) → at < length old.found.places → Extends old.found.places mid.found.places
    → GoesOn defs mid new (map (behind (steps_at mid.found.places (Some at) ++ step ∷ [])) leaves) → GoesOn defs mid new (map (behind (steps_at old.found.places (Some at) ++ step ∷ [])) leaves)
goes_behind defs old mid new at step leaves there stay goes =
    subst (λ front. GoesOn defs mid new (map (behind (front ++ step ∷ [])) leaves)) (steps_stay old.found.places mid.found.places at stay there) goes

-- the leaves of one alone, behind the step into it and nothing else
pub behind_one : (step : Step) (leaves : List NamedLeaf) → map (behind (step ∷ [])) leaves ≡ map (behind []) (map (behind (step ∷ [])) leaves ++ [])
behind_one step leaves = behind_both [] step leaves ∙ ap (map (behind [])) (sym (append-nil (map (behind (step ∷ [])) leaves)))

pub goes_both : (defs : Definitions) (old mid new : LeafWalk) (f : Skeleton TypeId → List NamedLeaf) (first second : List (NamedSkeleton TypeId)) → GoesOn defs old mid (map (behind []) (leaves_from 0 f first))
    → GoesOn defs mid new (map (behind []) (leaves_from (length first) f second)) → GoesOn defs old new (map (behind []) (leaves_from 0 f (first ++ second)))
goes_both defs old mid new f first second one two = record {
  finds =
      subst (FindsMore old.found new.found)
      (let same : 0 + length first ≡ length first = omega arith in
      sym (map-append (behind []) (leaves_from 0 f first) (leaves_from (length first) f second))
      ∙ ap (map (behind [])) (sym (from_both 0 f first second ∙ ap (λ n. leaves_from 0 f first ++ leaves_from n f second) same)))
      (finds_on old.found mid.found new.found _ _ one.finds two.finds);
  bare = two.bare;
}

-- behind nothing they are the same
pub behind_none : (leaves : List NamedLeaf) → map (behind []) leaves ≡ leaves
behind_none [] = refl
behind_none (leaf ∷ leaves) = ap (λ rest. leaf ∷ rest) (behind_none leaves)

-- a place that was added has the steps that were added
added_steps : (places : List (List Step)) (at : ℕ) (steps : List Step) (new : List (List Step)) → at ≡ length places → new ≡ places ++ steps ∷ [] → get_or new at [] ≡ steps
added_steps places at steps new is grown =
    ap (λ all. get_or all at []) grown ∙ ap (λ k. get_or (places ++ steps ∷ []) k []) is ∙ get_or-append_seam places steps [] []

found_within : (old placed new : Findings) (at : ℕ) (steps : List Step) (leaves : List NamedLeaf) → at ≡ length old.places → placed.places ≡ old.places ++ steps ∷ [] → placed.leaves ≡ old.leaves
    → FindsMore placed new (map (behind (get_or placed.places at [])) leaves) → FindsMore old new (map (behind steps) leaves)
found_within old placed new at steps leaves is grown same finds = record {
  leaves =
      finds.leaves ∙ ap (λ before. before ++ map (behind (get_or placed.places at [])) leaves) same
      ∙ ap (λ front. old.leaves ++ map (behind front) leaves) (added_steps old.places at steps placed.places is grown);
  places = extends_on old.places placed.places new.places (steps ∷ [], grown) finds.places;
}

one_level : (defs : Definitions) (levels : ℕ) (key : TypeId) (args : List (MaybeStatic ℕ)) → 0 < levels → leaves_from 0 (walked_type defs (levels - 1) args) (named_fields_in defs key) ≡ walked_struct defs levels key args
one_level defs zero key args some = absurd (omega (arith, some))
one_level defs (suc levels) key args some =
    let below : suc levels - 1 ≡ levels = omega arith in
    ap (λ n. leaves_from 0 (walked_type defs n args) (named_fields_in defs key)) below

-- a struct at a place that is added: its leaves are those of its fields, behind the steps to the place
pub found_struct : (defs : Definitions) (old placed new : Findings) (at : ℕ) (steps : List Step) (levels : ℕ) (key : TypeId) (args : List (MaybeStatic ℕ)) → 0 < levels → at ≡ length old.places → placed.places ≡ old.places ++ steps ∷ []
    → placed.leaves ≡ old.leaves → FindsMore placed new (map (behind (steps_at placed.places (Some at))) (leaves_from 0 (walked_type defs (levels - 1) args) (named_fields_in defs key)))
    → FindsMore old new (map (behind steps) (walked_struct defs levels key args))
found_struct defs old placed new at steps levels key args some is grown same finds =
    subst (λ leaves. FindsMore old new (map (behind steps) leaves)) (one_level defs levels key args some)
    (found_within old placed new at steps (leaves_from 0 (walked_type defs (levels - 1) args) (named_fields_in defs key)) is grown same finds)

-- where no leaf was added there are none
pub found_nothing : (old new : Findings) (steps : List Step) (leaves : List NamedLeaf) → FindsMore old new (map (behind steps) leaves) → length new.leaves ≤ length old.leaves → length leaves ≡ 0
found_nothing old new steps leaves finds few =
    let all = ap length finds.leaves in
    let long = length-append old.leaves (map (behind steps) leaves) in
    let same = length-map leaves (behind steps) in
    omega (arith, all, long, same, few)

-- the fields of a struct fit where its lifetimes are as many as it is given
pub fields_taken : (defs : Definitions) (key : TypeId) (n : ℕ) (def : InputStruct) (fields : List InputField) → FieldsFit defs → TakesSoMany defs key n → input_struct defs key ≡ Some def → fields ≡ def.fields
    → All (λ f. SkeletonFits defs n (field_skeleton f.ty)) fields
fields_taken defs key n def fields fit takes is same =
    let count : def.lifetimes.count ≡ n = same_Some def.lifetimes.count n (ap (option_map (λ (d : InputStruct). d.lifetimes.count)) (sym is) ∙ takes) in
    subst (λ k. All (λ f. SkeletonFits defs k (field_skeleton f.ty)) fields) count
    (subst (All (λ f. SkeletonFits defs def.lifetimes.count (field_skeleton f.ty))) (sym same) (fit key def is))

all_of_map : {X Y : Type 0} (P : Y → Type 0) (f : X → Y) (xs : List X) → All P (map f xs) → All (λ x. P (f x)) xs
all_of_map P f [] all = All-nil (λ x. P (f x))
all_of_map P f (x ∷ xs) all = All-cons (λ y. P (f y)) x xs (All-head P (f x) (map f xs) all) (all_of_map P f xs (All-tail P (f x) (map f xs) all))

-- all that is said of some is said of those behind them
pub all_behind : {X Y : Type 0} (P : Y → Type 0) (f : X → Y) (before : List Y) (xs : List X) → All P (before ++ map f xs) → All (λ x. P (f x)) xs
all_behind P f [] xs all = all_of_map P f xs all
all_behind P f (y ∷ before) xs all = all_behind P f before xs (All-tail P y (before ++ map f xs) all)

pub length_identity : (n : ℕ) → length (identity n) ≡ n
length_identity n = length-map-range_with_len (λ l. NonStatic l) 0 n
