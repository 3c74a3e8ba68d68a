-- What a type keeps of its special methods names what is there, where its methods do.
use Rattle.std.proofs.Common.{ℕ, List, [], ◌∷◌, Bool, true, false, Option, Some, None, sym, subst}
use Rattle.std.specs.Prelude.{IfSome, cond, option_and_then, option_map}
use Rattle.std.specs.List.{All, find}
use Rattle.std.proofs.lemmas.List.Elements.{All-append, All-cons, All-head, All-nil, All-tail}
use Rattle.hir_definitions.specs.declared.methods.Method.{Method}
use Rattle.hir_fitting.proofs.Deciding.{there_from_arity}
use Rattle.hir_fitting.specs.Fitting.{Fits}
use Rattle.hir_fitting.specs.Parts.{PartFits, free, method_part}
use Rattle.hir_fitting.specs.declared.census.Census.{Census}
use Rattle.hir_ids.specs.Owners.{lent}
use Rattle.hir_ids.specs.declared.ids.SymbolId.TheVariants as symbol
use Rattle.hir_ids.specs.declared.ids.TypeId.TheVariants as type
use Rattle.hir_ids.specs.declared.owners.MaybeOwn.{MaybeOwn}
use Rattle.hir_mentions.specs.Callbacks.{output_mentions}
use Rattle.hir_mentions.specs.Definitions.{opaque_alone, special_mentions}
use Rattle.hir_mentions.specs.Mentions.{Mentioned, borrow_mentions, opaque_mention, where_any}
use Rattle.hir_mentions.specs.Types.{mentions_step, returnable_mentions}
use Rattle.hir_presence.specs.Presence.{first_marked, is_lone, special_methods}
use Rattle.hir_presence.specs.Stepping.{given_opaque, opaque_layer, there_layer, value_there}
use Rattle.hir_presence.specs.declared.marked.LoneSpecial.{LoneSpecial}
use Rattle.hir_presence.specs.declared.marked.LoneSpecial.TheVariants as lone
use Rattle.hir_types.specs.Named.{ReturnedType, Success}
use Rattle.hir_types.specs.Returns.{success_of, type_in}
use Rattle.hir_types.specs.declared.callbacks.NoCallback.{NoCallback}
use Rattle.hir_types.specs.declared.paths.NoTraitPath.{NoTraitPath}
use Rattle.hir_types.specs.declared.paths.ReturnableStructPath.{ReturnableStructPath}
use Rattle.hir_types.specs.declared.positions.OutputOnly.{OutputOnly}
use Rattle.hir_types.specs.declared.returns.SuccessType.TheVariants as success
use Rattle.hir_types.specs.declared.types.HirType.{out-HirType, out-roll-HirType, roll-HirType}
use Rattle.hir_types.specs.declared.types.HirType.TheOpen.{HirType-F}
use Rattle.hir_types.specs.declared.types.HirType.TheFolds.{fold-roll-HirType, ind-HirType}
use Rattle.hir_fitting_forms.proofs.Using.{given_fits}

abbrev Level : Type 0
Level = HirType-F OutputOnly NoCallback MaybeOwn ℕ ReturnableStructPath NoTraitPath ReturnedType

-- what a level names, by what those inside do
abbrev named_step : HirType-F OutputOnly NoCallback MaybeOwn ℕ ReturnableStructPath NoTraitPath (List Mentioned) → List Mentioned
named_step = mentions_step lent returnable_mentions (λ _. []) (λ _. [])

-- the first of those that hold something holds it
first_holds : (P : Method → Type 0) (b : Bool) (m : Method) (rest : Option Method) → P m → IfSome rest P → IfSome (cond b (Some m) rest) P
first_holds P true m rest h all = h
first_holds P false m rest h all = all

found_holds : (P : Method → Type 0) (test : Method → Bool) (methods : List Method) → All P methods → IfSome (find test methods) P
found_holds P test [] all = tt
found_holds P test (m ∷ methods) all = first_holds P (test m) m (find test methods) (All-head P m methods all) (found_holds P test methods (All-tail P m methods all))

module _ (census : Census) where
  abbrev Free : Mentioned → Type 0
  Free = Fits census None

  -- ---- types

  there_level : (x : Level) → All Free (output_mentions (roll-HirType _ _ _ _ _ _ x)) → All Free (output_mentions (there_layer (roll-HirType _ _ _ _ _ _ x) x))
  there_level (HirType-F.Primitive p) h = h
  there_level (HirType-F.Opaque path) h =
      subst (All Free) (sym (fold-roll-HirType _ _ _ _ _ _ (List Mentioned) named_step (HirType-F.Opaque (record path { optional = record { 0 = false } }))))
      (subst (All Free) (fold-roll-HirType _ _ _ _ _ _ (List Mentioned) named_step (HirType-F.Opaque path)) h)
  there_level (HirType-F.Struct path) h = h
  there_level (HirType-F.ImplTrait path) h = h
  there_level (HirType-F.Enum path) h = h
  there_level (HirType-F.Slice s) h = h
  there_level (HirType-F.Callback c) h = h
  there_level (HirType-F.DiplomatOption t) h = h

  opaque_level : (x : Level) → All Free (output_mentions (roll-HirType _ _ _ _ _ _ x)) → All Free (where_any opaque_alone (opaque_layer x))
  opaque_level (HirType-F.Primitive p) h = All-nil Free
  opaque_level (HirType-F.Opaque path) h =
      let own : All Free (opaque_mention path.tcx_id path.lifetimes ∷ where_any borrow_mentions (lent path.owner)) =
      subst (All Free) (fold-roll-HirType _ _ _ _ _ _ (List Mentioned) named_step (HirType-F.Opaque path)) h in
      let path_fits = All-head Free (opaque_mention path.tcx_id path.lifetimes) (where_any borrow_mentions (lent path.owner)) own in
      All-cons Free _ [] (there_from_arity census (symbol.TypeId (type.Opaque path.tcx_id)) _ path_fits.0) (All-nil Free)
  opaque_level (HirType-F.Struct path) h = All-nil Free
  opaque_level (HirType-F.ImplTrait path) h = All-nil Free
  opaque_level (HirType-F.Enum path) h = All-nil Free
  opaque_level (HirType-F.Slice s) h = All-nil Free
  opaque_level (HirType-F.Callback c) h = All-nil Free
  opaque_level (HirType-F.DiplomatOption t) h = All-nil Free

  type_there : (t : ReturnedType) → All Free (output_mentions t) → All Free (output_mentions (there_layer t (out-HirType _ _ _ _ _ _ t)))
  type_there = ind-HirType _ _ _ _ _ _ (λ t. All Free (output_mentions t) → All Free (output_mentions (there_layer t (out-HirType _ _ _ _ _ _ t))))
      (λ x y is. λ h. subst (λ o. All Free (output_mentions (there_layer (roll-HirType _ _ _ _ _ _ x) o))) (sym (out-roll-HirType _ _ _ _ _ _ x)) (there_level x h))

  type_opaque : (t : ReturnedType) → All Free (output_mentions t) → All Free (where_any opaque_alone (opaque_layer (out-HirType _ _ _ _ _ _ t)))
  type_opaque = ind-HirType _ _ _ _ _ _ (λ t. All Free (output_mentions t) → All Free (where_any opaque_alone (opaque_layer (out-HirType _ _ _ _ _ _ t))))
      (λ x y is. λ h. subst (λ o. All Free (where_any opaque_alone (opaque_layer o))) (sym (out-roll-HirType _ _ _ _ _ _ x)) (opaque_level x h))

  -- ---- what a method gives

  value_fits : (s : Success) → All Free (where_any output_mentions (type_in s)) → All Free (where_any output_mentions (type_in (value_there s)))
  value_fits (success.OutType t) h = type_there t h
  value_fits (success.Write w) h = h
  value_fits success.Unit h = h

  opaque_fits : (s : Success) → All Free (where_any output_mentions (type_in s)) → All Free (where_any opaque_alone (given_opaque s))
  opaque_fits (success.OutType t) h = type_opaque t h
  opaque_fits (success.Write w) h = All-nil Free
  opaque_fits success.Unit h = All-nil Free

  -- ---- all of it

  abbrev Good : Method → Type 0
  Good m = PartFits census (method_part m)

  where_kept : {B : Type 0} (names : B → List Mentioned) (kept : Method → Option B) → ((m : Method) → Good m → All Free (where_any names (kept m))) → (m : Option Method) → IfSome m Good
      → All Free (where_any names (option_and_then kept m))
  where_kept names kept fits None h = All-nil Free
  where_kept names kept fits (Some m) h = fits m h

  where_made : {B : Type 0} (names : B → List Mentioned) (made : Method → B) → ((m : Method) → Good m → All Free (names (made m))) → (m : Option Method) → IfSome m Good
      → All Free (where_any names (option_map made m))
  where_made names made fits None h = All-nil Free
  where_made names made fits (Some m) h = fits m h

  pub special_fit : (methods : List Method) → All Good methods → PartFits census (free (special_mentions (special_methods methods)))
  special_fit methods all =
      let one : (it : LoneSpecial) → IfSome (first_marked it methods) Good = λ it. found_holds Good (λ m. is_lone it m.attrs.special_method) methods all in
      All-append Free (where_any (λ s. where_any output_mentions (type_in s)) (option_map (λ m. value_there (success_of m.output)) (first_marked lone.Iterator methods)))
      (where_any opaque_alone (option_and_then (λ m. given_opaque (success_of m.output)) (first_marked lone.Iterable methods)))
      (where_made (λ s. where_any output_mentions (type_in s)) (λ m. value_there (success_of m.output)) (λ m h. value_fits (success_of m.output) (given_fits census m h)) (first_marked lone.Iterator methods) (one lone.Iterator))
      (where_kept opaque_alone (λ m. given_opaque (success_of m.output)) (λ m h. opaque_fits (success_of m.output) (given_fits census m h)) (first_marked lone.Iterable methods) (one lone.Iterable))
