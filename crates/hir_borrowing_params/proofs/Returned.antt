-- What the return of a method that fits names are lifetimes of the method.
use Rattle.std.proofs.Common.{ℕ, List, [], ◌∷◌, ◌++◌, Option, Some, None, sym, subst}
use Rattle.std.specs.Prelude.{◌<◌, ◌↔◌, Result, Ok, Err, IfOk}
use Rattle.std.specs.List.{All, Contains, flat_map}
use Rattle.std.proofs.lemmas.List.Elements.{All-append, All-cons, All-contains, All-contains_itself, All-head, All-nil, All-tail, All-weaker}
use Rattle.hir_life.specs.Substitution.{AreBelow, IsBelow}
use Rattle.hir_life.specs.declared.maybe_static.MaybeStatic.{MaybeStatic}
use Rattle.hir_life.specs.declared.maybe_static.MaybeStatic.TheVariants.{NonStatic}
use Rattle.hir_ids.specs.Owners.{lent}
use Rattle.hir_ids.specs.declared.owners.MaybeOwn.{MaybeOwn}
use Rattle.hir_ids.specs.declared.owners.MaybeOwn.TheVariants as owner
use Rattle.hir_types.specs.Named.{ListsNumbers, Returned, ReturnedType, lifetimes_in, lifetimes_named}
use Rattle.hir_types.specs.Paths.{returnable_lifetimes}
use Rattle.hir_types.specs.Returns.{error_of, success_of, type_in}
use Rattle.hir_types.specs.Slices.{at_most_one, lifetime_of, slice_lifetimes}
use Rattle.hir_types.specs.Types.{lifetimes_step, lifetimes_within}
use Rattle.hir_types.specs.declared.callbacks.NoCallback.{NoCallback}
use Rattle.hir_types.specs.declared.paths.NoTraitPath.{NoTraitPath}
use Rattle.hir_types.specs.declared.paths.ReturnableStructPath.{ReturnableStructPath}
use Rattle.hir_types.specs.declared.paths.ReturnableStructPath.TheVariants as returnable
use Rattle.hir_types.specs.declared.positions.OutputOnly.{OutputOnly}
use Rattle.hir_types.specs.declared.slices.Slice.{Slice}
use Rattle.hir_types.specs.declared.slices.Slice.TheVariants as slice
use Rattle.hir_types.specs.declared.types.HirType.{map-HirType}
use Rattle.hir_types.specs.declared.types.HirType.TheOpen.{HirType-F}
use Rattle.hir_types.specs.declared.types.HirType.TheFolds.{fold-roll-HirType, ind-HirType}
use Rattle.hir_definitions.specs.declared.methods.Method.{Method}
use Rattle.hir_definitions.specs.declared.methods.Param.{Param}
use Rattle.hir_definitions.specs.declared.methods.ParamSelf.{ParamSelf}
use Rattle.hir_mentions.specs.Callbacks.{input_mentions, output_mentions}
use Rattle.hir_mentions.specs.Mentions.{Mentioned, borrow_mentions, owner_mentions, where_any}
use Rattle.hir_mentions.specs.Types.{mentions_step, receiver_mentions, return_mentions, returnable_mentions, slice_mentions, text_mentions}
use Rattle.hir_fitting.specs.Fitting.{Fits}
use Rattle.hir_context.specs.Fitness.{MethodFits, census_of}
use Rattle.hir_context.specs.declared.parts.Definitions.{Definitions}

-- what holds of two lists in a row holds of each
all_front : {X : Type 0} (P : X → Type 0) (xs ys : List X) → All P (xs ++ ys) → All P xs
all_front P [] ys all = All-nil P
all_front P (x ∷ xs) ys all = All-cons P x xs (All-head P x (xs ++ ys) all) (all_front P xs ys (All-tail P x (xs ++ ys) all))

all_rest : {X : Type 0} (P : X → Type 0) (xs ys : List X) → All P (xs ++ ys) → All P ys
all_rest P [] ys all = all
all_rest P (x ∷ xs) ys all = all_rest P xs ys (All-tail P x (xs ++ ys) all)

-- the slices among what is returned
abbrev ReturnedSlice : Type 0
ReturnedSlice = Slice OutputOnly NoCallback MaybeOwn ℕ ReturnableStructPath NoTraitPath

abbrev Layer : Type 0 → Type 0
Layer = HirType-F OutputOnly NoCallback MaybeOwn ℕ ReturnableStructPath NoTraitPath

-- over how many lifetimes there are
module _ (defs : Definitions) (n : ℕ) where
  abbrev pub IsFit : Mentioned → Type 0
  IsFit = Fits (census_of defs) (Some n)

  owner_below : (o : MaybeOwn) → All IsFit (owner_mentions o) → AreBelow n (at_most_one (lifetime_of o))
  owner_below owner.Own all = All-nil (IsBelow n)
  owner_below (owner.Borrow b) all = All-cons (IsBelow n) b.lifetime [] (All-head IsFit _ [] all) (All-nil (IsBelow n))

  text_below : (l : Option (MaybeStatic ℕ)) → All IsFit (where_any text_mentions l) → AreBelow n (at_most_one l)
  text_below None all = All-nil (IsBelow n)
  text_below (Some l) all = All-cons (IsBelow n) l [] (All-head IsFit _ [] all) (All-nil (IsBelow n))

  path_below : (path : ReturnableStructPath) → All IsFit (returnable_mentions path) → AreBelow n (returnable_lifetimes path)
  path_below (returnable.Struct path) all = (All-head IsFit _ (owner_mentions path.owner) all).1
  path_below (returnable.OutStruct path) all = (All-head IsFit _ (owner_mentions path.owner) all).1

  slice_below : (s : ReturnedSlice) → All IsFit (slice_mentions returnable_mentions s) → AreBelow n (slice_lifetimes returnable_lifetimes (λ _. owner.Own) s)
  slice_below (slice.Str l e) all = text_below l all
  slice_below (slice.Primitive o p) all = owner_below o all
  slice_below (slice.Strs e) all = All-nil (IsBelow n)
  slice_below (slice.Struct o path) all =
      All-append (IsBelow n) (returnable_lifetimes path ++ []) (at_most_one (lifetime_of o))
      (All-append (IsBelow n) (returnable_lifetimes path) [] (path_below path (all_front IsFit (returnable_mentions path) (owner_mentions o) all)) (All-nil (IsBelow n)))
      (owner_below o (all_rest IsFit (returnable_mentions path) (owner_mentions o) all))
  slice_below (slice.Enum o path) all = owner_below o (All-tail IsFit _ (owner_mentions o) all)
  slice_below (slice.Opaque o path) all =
      let named = All-head IsFit _ (borrow_mentions path.owner ++ owner_mentions o) all in
      let rest = All-tail IsFit _ (borrow_mentions path.owner ++ owner_mentions o) all in
      All-append (IsBelow n) (path.lifetimes ++ path.owner.lifetime ∷ []) (at_most_one (lifetime_of o))
      (All-append (IsBelow n) path.lifetimes (path.owner.lifetime ∷ []) named.1 (All-cons (IsBelow n) path.owner.lifetime [] (All-head IsFit _ (owner_mentions o) rest) (All-nil (IsBelow n))))
      (owner_below o (all_rest IsFit (borrow_mentions path.owner) (owner_mentions o) rest))

  -- what a type names, and its lifetimes
  abbrev names_layer : Layer (List Mentioned) → List Mentioned
  names_layer = mentions_step lent returnable_mentions (λ _. []) (λ _. [])

  abbrev lifetimes_of_returned : ReturnedType → List (MaybeStatic ℕ)
  lifetimes_of_returned = lifetimes_within lent returnable_lifetimes (λ _. owner.Own)

  abbrev lifetimes_layer : Layer (List (MaybeStatic ℕ)) → List (MaybeStatic ℕ)
  lifetimes_layer = lifetimes_step lent returnable_lifetimes (λ _. owner.Own)

  abbrev pub TypeBelow : ReturnedType → Type 0
  TypeBelow t = All IsFit (output_mentions t) → AreBelow n (lifetimes_of_returned t)

  abbrev LayerBelow : Layer ReturnedType → Type 0
  LayerBelow x = All IsFit (names_layer (map-HirType _ _ _ _ _ _ _ _ output_mentions x)) → AreBelow n (lifetimes_layer (map-HirType _ _ _ _ _ _ _ _ lifetimes_of_returned x))

  unfoldable Layered : Layer ((t : ReturnedType) × TypeBelow t) → Type 0
  Layered y = LayerBelow (map-HirType _ _ _ _ _ _ _ _ (λ e. e.0) y)

  layer : (y : Layer ((t : ReturnedType) × TypeBelow t)) → Layered y
  unfolding Layered
  layer (HirType-F.Primitive _) = λ all. All-nil (IsBelow n)
  layer (HirType-F.Opaque path) = λ all.
      All-append (IsBelow n) path.lifetimes (at_most_one (lifetime_of path.owner)) (All-head IsFit _ (owner_mentions path.owner) all).1
      (owner_below path.owner (All-tail IsFit _ (owner_mentions path.owner) all))
  layer (HirType-F.Struct path) = λ all. path_below path all
  layer (HirType-F.ImplTrait _) = λ all. All-nil (IsBelow n)
  layer (HirType-F.Enum _) = λ all. All-nil (IsBelow n)
  layer (HirType-F.Slice s) = λ all. slice_below s all
  layer (HirType-F.Callback _) = λ all. All-nil (IsBelow n)
  layer (HirType-F.DiplomatOption inside) = inside.1

  pub type_below : (t : ReturnedType) → TypeBelow t
  unfolding Layered
  type_below = ind-HirType _ _ _ _ _ _ TypeBelow (λ x y is. λ all.
      subst (AreBelow n) (sym (fold-roll-HirType _ _ _ _ _ _ (List (MaybeStatic ℕ)) lifetimes_layer x))
      (subst LayerBelow is (layer y) (subst (All IsFit) (fold-roll-HirType _ _ _ _ _ _ (List Mentioned) names_layer x) all)))

  in_below : (t : Option ReturnedType) → All IsFit (where_any output_mentions t) → AreBelow n (lifetimes_in t)
  in_below None all = All-nil (IsBelow n)
  in_below (Some t) all = type_below t all

  pub return_below : (r : Returned) → All IsFit (return_mentions output_mentions r) → AreBelow n (lifetimes_named r)
  return_below r all =
      let ok = where_any output_mentions (type_in (success_of r)) in
      let err = where_any output_mentions (error_of r) in
      All-append (IsBelow n) (lifetimes_in (type_in (success_of r))) (lifetimes_in (error_of r))
      (in_below (type_in (success_of r)) (all_front IsFit ok err all)) (in_below (error_of r) (all_rest IsFit ok err all))

-- the numbers of lifetimes that are below are
numbers_below : (n : ℕ) (numbers : List ℕ) (ls : List (MaybeStatic ℕ)) → ListsNumbers numbers ls → AreBelow n ls → All (λ t. t < n) numbers
numbers_below n numbers ls lists below =
    All-weaker (Contains numbers) (λ t. t < n) (λ t here. All-contains (IsBelow n) ls (NonStatic t) below ((lists.members t).0 here)) numbers (All-contains_itself numbers)

-- where a method fits, so do the numbers of what its return names
pub returned_below : (defs : Definitions) (m : Method) → MethodFits defs m → (numbers : List ℕ) → ListsNumbers numbers (lifetimes_named m.output) → All (λ t. t < m.lifetime_env.count) numbers
returned_below defs m fits numbers lists =
    let n = m.lifetime_env.count in
    let receiver = where_any (λ (r : ParamSelf). receiver_mentions r.ty) m.param_self in
    let params = flat_map (λ (p : Param). input_mentions p.ty) m.params in
    numbers_below n numbers (lifetimes_named m.output) lists
    (return_below defs n m.output (all_rest (IsFit defs n) (receiver ++ params) (return_mentions output_mentions m.output) fits))

-- what is kept of each number of a list is kept of each that Q holds of, where these are the same
pub kept_as : {V E : Type 0} (Kept : V → ℕ → Type 0) (Q : ℕ → Type 0) (numbers : List ℕ) (r : Result V E) → ((t : ℕ) → (Contains numbers t ↔ Q t)) → IfOk r (λ v. (t : ℕ) → (Kept v t ↔ Contains numbers t))
    → IfOk r (λ v. (t : ℕ) → (Kept v t ↔ Q t))
kept_as Kept Q numbers (Ok v) same is = λ t. ((λ there. (same t).0 ((is t).0 there)), (λ holds. (is t).1 ((same t).1 holds)))
kept_as Kept Q numbers (Err e) same is = tt
