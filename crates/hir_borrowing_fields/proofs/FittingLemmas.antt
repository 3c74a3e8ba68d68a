-- What fits among definitions by what it names fits by its skeleton.
use Rattle.std.proofs.Common.{ℕ, List, [], ◌∷◌, ◌++◌, map, Option, Some, None, option_map, sym, ap, subst, ◌∙◌}
use Rattle.std.specs.Coded.{Coded-set, coded_option, coded_ℕ, ×_prop, Unit-prop, le_prop}
use Rattle.std.specs.List.{All, flat_map}
use Rattle.std.proofs.Math.Logic.{∥∥₁_elim}
use Rattle.std.proofs.lemmas.List.Elements.{All-append, All-cons, All-head, All-map, All-nil, All-tail}
use Rattle.std.proofs.lemmas.Option.{none-some, slice_get-map}
use Rattle.hir_life.specs.Substitution.{AreBelow, IsBelow}
use Rattle.hir_life.specs.declared.maybe_static.MaybeStatic.{MaybeStatic}
use Rattle.hir_life.specs.declared.maybe_static.MaybeStatic.TheVariants.{Static, NonStatic}
use Rattle.hir_ids.specs.declared.ids.SymbolId.TheVariants as symbol
use Rattle.hir_ids.specs.declared.ids.TypeId.{TypeId}
use Rattle.hir_ids.specs.declared.ids.TypeId.TheVariants as type
use Rattle.hir_ids.specs.declared.owners.Borrow.{Borrow as Loan}
use Rattle.hir_ids.specs.declared.owners.MaybeOwn.{MaybeOwn}
use Rattle.hir_ids.specs.declared.owners.MaybeOwn.TheVariants as owner
use Rattle.hir_types.specs.Slices.{at_most_one, lifetime_of}
use Rattle.hir_types.specs.declared.callbacks.NoCallback.{NoCallback}
use Rattle.hir_types.specs.declared.paths.NoTraitPath.{NoTraitPath}
use Rattle.hir_types.specs.declared.paths.StructPath.{StructPath}
use Rattle.hir_types.specs.declared.positions.Everywhere.{Everywhere}
use Rattle.hir_types.specs.declared.self_types.SelfType.{SelfType}
use Rattle.hir_types.specs.declared.self_types.SelfType.TheVariants as receiver
use Rattle.hir_types.specs.declared.slices.Slice.{Slice}
use Rattle.hir_types.specs.declared.slices.Slice.TheVariants as slice
use Rattle.hir_types.specs.declared.types.HirType.{HirType, map-HirType}
use Rattle.hir_types.specs.declared.types.HirType.TheOpen.{HirType-F}
use Rattle.hir_types.specs.declared.types.HirType.TheFolds.{fold-roll-HirType, ind-HirType}
use Rattle.hir_definitions.specs.declared.methods.Method.{Method}
use Rattle.hir_definitions.specs.declared.methods.Param.{Param}
use Rattle.hir_definitions.specs.declared.methods.ParamSelf.{ParamSelf}
use Rattle.hir_mentions.specs.Callbacks.{callback_mentions, input_mentions, output_mentions}
use Rattle.hir_mentions.specs.Mentions.{Mentioned, Path, borrow_mentions, owner_mentions, where_any}
use Rattle.hir_mentions.specs.Types.{mentions_step, receiver_mentions, return_mentions, slice_mentions, struct_path_mentions, text_mentions, trait_path_mentions, type_mentions}
use Rattle.hir_fitting.specs.Fitting.{Fits}
use Rattle.hir_fitting.specs.Parts.{PartFits, parts_of_struct}
use Rattle.hir_context.specs.Fitness.{AllFit, MethodFits, census_of}
use Rattle.hir_context.specs.declared.context.TypeContext.{TypeContext}
use Rattle.hir_context.specs.declared.parts.Definitions.{Definitions}
use Rattle.hir_skeleton.specs.Skeletons.{Skeleton, Nothing, Carrier, Struct}
use Rattle.hir_context.specs.Lookups.{InputStruct}
use Rattle.hir_skeleton.specs.Lowered.{carrier_of, field_skeleton, receiver_skeleton, skeleton_of, skeleton_step, slice_carries}
use Rattle.hir_skeleton.specs.Inputs.{param_skeleton}
use Rattle.hir_borrowing_fields.specs.inside.InputFits.{FieldsFit, InputsFit, SkeletonFits}
use Rattle.hir_borrowing_fields.specs.inside.Walks.{InputField}

-- what holds of two lists in a row holds of each
all_front : {X : Type 0} (P : X → Type 0) (xs ys : List X) → All P (xs ++ ys) → All P xs
all_front P [] ys all = All-nil P
all_front P (x ∷ xs) ys all = All-cons P x xs (All-head P x (xs ++ ys) all) (all_front P xs ys (All-tail P x (xs ++ ys) all))

all_rest : {X : Type 0} (P : X → Type 0) (xs ys : List X) → All P (xs ++ ys) → All P ys
all_rest P [] ys all = all
all_rest P (x ∷ xs) ys all = all_rest P xs ys (All-tail P x (xs ++ ys) all)

-- what holds of all that each gives holds of what each gives
all_given : {X Y : Type 0} (P : Y → Type 0) (f : X → List Y) (xs : List X) → All P (flat_map f xs) → All (λ x. All P (f x)) xs
all_given P f [] all = All-nil (λ x. All P (f x))
all_given P f (x ∷ xs) all =
    All-cons (λ y. All P (f y)) x xs (all_front P (f x) (flat_map f xs) all) (all_given P f xs (all_rest P (f x) (flat_map f xs) all))

-- of each that Q holds of, R holds
all_weaker : {X : Type 0} (Q R : X → Type 0) → ((x : X) → Q x → R x) → (xs : List X) → All Q xs → All R xs
all_weaker Q R weaker [] all = All-nil R
all_weaker Q R weaker (x ∷ xs) all = All-cons R x xs (weaker x (All-head Q x xs all)) (all_weaker Q R weaker xs (All-tail Q x xs all))

-- over how many lifetimes there are
module _ (defs : Definitions) (n : ℕ) where
  -- what is mentioned fits
  abbrev pub Known : Mentioned → Type 0
  Known = Fits (census_of defs) (Some n)

  -- a struct by its path
  struct_fits : (place : ℕ) (lifetimes : List (MaybeStatic ℕ)) → Known (Path (symbol.TypeId (type.Struct place)) lifetimes) → SkeletonFits defs n (Struct (type.Struct place) lifetimes)
  struct_fits place lifetimes known =
      (sym (slice_get-map (λ (def : InputStruct). def.lifetimes.count) defs.structs.defs place) ∙ known.0, known.1)

  -- a carrier of lifetimes that are known
  carrier_fits : (lifetimes : List (MaybeStatic ℕ)) → AreBelow n lifetimes → SkeletonFits defs n (carrier_of lifetimes)
  carrier_fits [] below = (tt, tt)
  carrier_fits (l ∷ ls) below = (tt, below)

  -- the lifetime of a borrow
  owner_below : (o : MaybeOwn) → All Known (owner_mentions o) → AreBelow n (at_most_one (lifetime_of o))
  owner_below owner.Own all = All-nil (IsBelow n)
  owner_below (owner.Borrow b) all = All-cons (IsBelow n) b.lifetime [] (All-head Known _ [] all) (All-nil (IsBelow n))

  text_below : (l : Option (MaybeStatic ℕ)) → All Known (where_any text_mentions l) → AreBelow n (at_most_one l)
  text_below None all = All-nil (IsBelow n)
  text_below (Some l) all = All-cons (IsBelow n) l [] (All-head Known _ [] all) (All-nil (IsBelow n))

  -- a receiver
  pub receiver_fits : (r : SelfType) → All Known (receiver_mentions r) → SkeletonFits defs n (receiver_skeleton r)
  receiver_fits (receiver.Opaque path) all =
      let named = All-head Known _ (borrow_mentions path.owner) all in
      let borrowed = All-head Known _ [] (All-tail Known _ (borrow_mentions path.owner) all) in
      (tt, All-cons (IsBelow n) path.owner.lifetime path.lifetimes borrowed named.1)
  receiver_fits (receiver.Struct path) all = struct_fits path.tcx_id path.lifetimes (All-head Known _ (owner_mentions path.owner) all)
  receiver_fits (receiver.Enum path) all = (tt, tt)

  -- over the position of a type, and what paths to traits and callbacks name there
  module _ {P C T : Type 0} (of_trait : T → List Mentioned) (of_callback : C → List Mentioned) where
    -- the lifetimes of a slice
    slice_below : (s : Slice P C Loan ℕ StructPath T) → All Known (slice_mentions struct_path_mentions s) → AreBelow n (slice_carries (λ (path : StructPath). path.lifetimes) (λ path. path.owner) s)
    slice_below (slice.Str l e) all = All-append (IsBelow n) (at_most_one l) [] (text_below l all) (All-nil (IsBelow n))
    slice_below (slice.Primitive o p) all = All-append (IsBelow n) (at_most_one (lifetime_of o)) [] (owner_below o all) (All-nil (IsBelow n))
    slice_below (slice.Strs e) all = All-nil (IsBelow n)
    slice_below (slice.Struct o path) all =
        let element = all_front Known (struct_path_mentions path) (owner_mentions o) all in
        let named = All-head Known _ (owner_mentions path.owner) element in
        All-append (IsBelow n) (at_most_one (lifetime_of o)) (at_most_one (lifetime_of path.owner) ++ path.lifetimes) (owner_below o (all_rest Known (struct_path_mentions path) (owner_mentions o) all))
        (All-append (IsBelow n) (at_most_one (lifetime_of path.owner)) path.lifetimes (owner_below path.owner (All-tail Known _ (owner_mentions path.owner) element)) named.1)
    slice_below (slice.Enum o path) all =
        All-append (IsBelow n) (at_most_one (lifetime_of o)) [] (owner_below o (All-tail Known _ (owner_mentions o) all)) (All-nil (IsBelow n))
    slice_below (slice.Opaque o path) all =
        let named = All-head Known _ (borrow_mentions path.owner ++ owner_mentions o) all in
        let rest = All-tail Known _ (borrow_mentions path.owner ++ owner_mentions o) all in
        All-append (IsBelow n) (at_most_one (lifetime_of o)) (path.owner.lifetime ∷ path.lifetimes) (owner_below o (all_rest Known (borrow_mentions path.owner) (owner_mentions o) rest))
        (All-cons (IsBelow n) path.owner.lifetime path.lifetimes (All-head Known _ (owner_mentions o) rest) named.1)

    -- what a type names, and its skeleton
    abbrev names_in : HirType P C Loan ℕ StructPath T → List Mentioned
    names_in = type_mentions (λ b. Some b) struct_path_mentions of_trait of_callback

    abbrev names_layer : HirType-F P C Loan ℕ StructPath T (List Mentioned) → List Mentioned
    names_layer = mentions_step (λ b. Some b) struct_path_mentions of_trait of_callback

    abbrev skeleton_in : HirType P C Loan ℕ StructPath T → Skeleton TypeId
    skeleton_in = skeleton_of (λ b. Some b) (λ path. type.Struct path.tcx_id) (λ path. path.lifetimes) (λ path. path.owner)

    abbrev skeleton_layer : HirType-F P C Loan ℕ StructPath T (Skeleton TypeId) → Skeleton TypeId
    skeleton_layer = skeleton_step (λ b. Some b) (λ path. type.Struct path.tcx_id) (λ path. path.lifetimes) (λ path. path.owner)

    -- a type fits where all that it names does
    abbrev pub TypeFits : HirType P C Loan ℕ StructPath T → Type 0
    TypeFits t = All Known (names_in t) → SkeletonFits defs n (skeleton_in t)

    abbrev LayerFits : HirType-F P C Loan ℕ StructPath T (HirType P C Loan ℕ StructPath T) → Type 0
    LayerFits x = All Known (names_layer (map-HirType _ _ _ _ _ _ _ _ names_in x)) → SkeletonFits defs n (skeleton_layer (map-HirType _ _ _ _ _ _ _ _ skeleton_in x))

    unfoldable Layered : HirType-F P C Loan ℕ StructPath T ((t : HirType P C Loan ℕ StructPath T) × TypeFits t) → Type 0
    Layered y = LayerFits (map-HirType _ _ _ _ _ _ _ _ (λ e. e.0) y)

    layer : (y : HirType-F P C Loan ℕ StructPath T ((t : HirType P C Loan ℕ StructPath T) × TypeFits t)) → Layered y
    unfolding Layered
    layer (HirType-F.Primitive _) = λ all. (tt, tt)
    layer (HirType-F.Opaque path) = λ all.
        let named = All-head Known _ (borrow_mentions path.owner) all in
        let borrowed = All-head Known _ [] (All-tail Known _ (borrow_mentions path.owner) all) in
        (tt, All-cons (IsBelow n) path.owner.lifetime path.lifetimes borrowed named.1)
    layer (HirType-F.Struct path) = λ all. struct_fits path.tcx_id path.lifetimes (All-head Known _ (owner_mentions path.owner) all)
    layer (HirType-F.ImplTrait _) = λ all. (tt, tt)
    layer (HirType-F.Enum _) = λ all. (tt, tt)
    layer (HirType-F.Slice s) = λ all. carrier_fits _ (slice_below s all)
    layer (HirType-F.Callback _) = λ all. (tt, tt)
    layer (HirType-F.DiplomatOption inside) = inside.1

    pub type_fits : (t : HirType P C Loan ℕ StructPath T) → TypeFits t
    unfolding Layered
    type_fits = ind-HirType _ _ _ _ _ _ TypeFits (λ x y is. λ all.
        subst (SkeletonFits defs n) (sym (fold-roll-HirType _ _ _ _ _ _ (Skeleton TypeId) skeleton_layer x))
        (subst LayerFits is (layer y) (subst (All Known) (fold-roll-HirType _ _ _ _ _ _ (List Mentioned) names_layer x) all)))

  -- a parameter, and a field
  pub param_fits : (param : Param) → All Known (input_mentions param.ty) → SkeletonFits defs n (param_skeleton param.ty)
  param_fits param = type_fits trait_path_mentions callback_mentions param.ty

  pub field_fits : (field : InputField) → All Known (type_mentions (λ b. Some b) struct_path_mentions (λ _. []) (λ _. []) field.ty) → SkeletonFits defs n (field_skeleton field.ty)
  field_fits field = type_fits {P = Everywhere} {C = NoCallback} {T = NoTraitPath} (λ _. []) (λ _. []) field.ty

  receiver_where : (r : Option ParamSelf) → All Known (where_any (λ r. receiver_mentions r.ty) r) → All (SkeletonFits defs n) (where_any (λ r. receiver_skeleton r.ty ∷ []) r)
  receiver_where None all = All-nil (SkeletonFits defs n)
  receiver_where (Some r) all = All-cons (SkeletonFits defs n) (receiver_skeleton r.ty) [] (receiver_fits r.ty all) (All-nil (SkeletonFits defs n))

-- where a method fits, each of its inputs does
pub inputs_fit : (defs : Definitions) (m : Method) → MethodFits defs m → InputsFit defs m
inputs_fit defs m fits =
    let n = m.lifetime_env.count in
    let receiver = where_any (λ (r : ParamSelf). receiver_mentions r.ty) m.param_self in
    let params = flat_map (λ (p : Param). input_mentions p.ty) m.params in
    let inputs = all_front (Known defs n) (receiver ++ params) (return_mentions output_mentions m.output) fits in
    All-append (SkeletonFits defs n) (where_any (λ (r : ParamSelf). receiver_skeleton r.ty ∷ []) m.param_self) (map (λ (p : Param). param_skeleton p.ty) m.params)
    (receiver_where defs n m.param_self (all_front (Known defs n) receiver params inputs))
    (All-map (SkeletonFits defs n) (λ (p : Param). param_skeleton p.ty) m.params
    (all_weaker (λ p. All (Known defs n) (input_mentions p.ty)) (λ p. SkeletonFits defs n (param_skeleton p.ty)) (param_fits defs n) m.params
    (all_given (Known defs n) (λ p. input_mentions p.ty) m.params (all_rest (Known defs n) receiver params inputs))))

-- where all fits, each field of each struct does
pub fields_fit : (defs : Definitions) → AllFit defs → FieldsFit defs
fields_fit defs fits (type.Struct place) def is =
    let n = def.lifetimes.count in
    let of_type = type_mentions (λ (b : Loan). Some b) struct_path_mentions (λ (_ : NoTraitPath). []) (λ (_ : NoCallback). []) in
    let parts = fits.named (symbol.TypeId (type.Struct place)) (parts_of_struct of_type def) (slice_get-map (parts_of_struct of_type) defs.structs.defs place ∙ ap (option_map (parts_of_struct of_type)) is) in
    all_weaker (λ f. All (Known defs n) (of_type f.ty)) (λ f. SkeletonFits defs n (field_skeleton f.ty)) (field_fits defs n) def.fields
    (all_given (Known defs n) (λ f. of_type f.ty) def.fields (All-head (PartFits (census_of defs)) _ _ parts))
fields_fit defs fits (type.OutStruct place) def is = absurd (none-some def is)
fields_fit defs fits (type.Opaque place) def is = absurd (none-some def is)
fields_fit defs fits (type.Enum place) def is = absurd (none-some def is)

-- whether a skeleton fits has one proof at most
below_prop : (n : ℕ) (l : MaybeStatic ℕ) → IsProp (IsBelow n l)
below_prop n Static = Unit-prop
below_prop n (NonStatic l) = hlevel le_prop

fits_prop : (defs : Definitions) (n : ℕ) (s : Skeleton TypeId) → IsProp (SkeletonFits defs n s)
fits_prop defs n Nothing = hlevel
fits_prop defs n (Carrier ls) = hlevel (below_prop n)
fits_prop defs n (Struct id args) = ×_prop (Coded-set (coded_option coded_ℕ) _ _) (hlevel (below_prop n))

-- in a context all fits
pub context_fits : (tcx : TypeContext) → FieldsFit tcx.definitions
context_fits tcx =
    ∥∥₁_elim tcx.fits (hlevel (λ (n : ℕ) (s : Skeleton TypeId). fits_prop tcx.definitions n s)) (fields_fit tcx.definitions)
