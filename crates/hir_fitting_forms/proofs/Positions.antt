-- What types stand for at each position names what fits, and so does what whole signatures stand for.
use Rattle.std.proofs.Common.{◌≡◌, ℕ, List, [], ◌∷◌, ◌++◌, Bool, true, false, Option, Some, None, refl}
use Rattle.std.specs.Prelude.{IfSome}
use Rattle.std.specs.List.{flat_map}
use Rattle.bridge_decl.specs.declared.types.Mutability.{Mutability}
use Rattle.bridge_decl.specs.declared.types.WriteType.{WriteType}
use Rattle.bridge_order.specs.Catalog.{entry_at}
use Rattle.bridge_order.specs.declared.catalog.Catalog.{Catalog}
use Rattle.bridge_order.specs.declared.catalog.Entry.{Entry}
use Rattle.bridge_order.specs.declared.catalog.Entry.TheVariants as entry
use Rattle.bridge_rules.specs.Shapes.{slice_borrow}
use Rattle.hir_elide.proofs.BelowLemmas.{Each}
use Rattle.hir_fitting.specs.declared.census.Census.{Census}
use Rattle.hir_form.specs.Forms.{Generics, callback_type}
use Rattle.hir_form.specs.Makers.{of_fields, of_inputs, of_outputs, struct_coming_in, struct_going_out}
use Rattle.hir_form.specs.ParamForms.{ParamType, callback_form, callback_param_form, callback_params_form, callback_return_form, field_form, input_form, level_param_form, method_return_form, nameless, nameless_callback, out_type_form, param_form, params_form}
use Rattle.hir_form.specs.ReceiverForms.{entry_receiver, opaque_receiver, receiver_form}
use Rattle.hir_form.specs.SignatureForms.{lowered_signature, output_form, own_form, signature_form}
use Rattle.hir_form.specs.ReturnForms.{both_given, unit_form}
use Rattle.hir_form.specs.declared.signatures.LoweredSignature.{LoweredSignature}
use Rattle.hir_ids.specs.Owners.{lent}
use Rattle.hir_ids.specs.declared.ids.SymbolId.TheVariants as symbol
use Rattle.hir_ids.specs.declared.ids.TypeId.TheVariants as type
use Rattle.hir_ids.specs.declared.owners.Borrow.{Borrow}
use Rattle.hir_life.specs.declared.maybe_static.MaybeStatic.{MaybeStatic}
use Rattle.hir_mentions.specs.Callbacks.{callback_mentions, callback_return_mentions, field_mentions, input_mentions, output_mentions}
use Rattle.hir_mentions.specs.Mentions.{Mentioned, Path, owner_mentions, where_any}
use Rattle.hir_mentions.specs.Types.{mentions_step, receiver_mentions, return_mentions, returnable_mentions, struct_path_mentions, trait_path_mentions}
use Rattle.hir_number.proofs.FaultLemmas.{each_both}
use Rattle.hir_number.specs.declared.numbered.NumberedType.{NumberedType, map-NumberedType, out-NumberedType}
use Rattle.hir_number.specs.declared.numbered.NumberedType.TheOpen.{NumberedType-F}
use Rattle.hir_number.specs.declared.numbered.Target.{Target}
use Rattle.hir_number.specs.declared.signature.NumberedSignature.{NumberedSignature}
use Rattle.hir_types.specs.Named.{Returned}
use Rattle.hir_types.specs.declared.callbacks.Callback.{Callback}
use Rattle.hir_types.specs.declared.callbacks.CallbackParam.{CallbackParam}
use Rattle.hir_types.specs.declared.paths.StructPath.{StructPath}
use Rattle.hir_types.specs.declared.returns.ReturnType.TheVariants as returned
use Rattle.hir_types.specs.declared.self_types.SelfType.{SelfType}
use Rattle.hir_types.specs.declared.types.HirType.TheOpen.{HirType-F}
use Rattle.hir_types.specs.declared.types.HirType.TheFolds.{fold-roll-HirType}
use Rattle.hir_fitting_forms.specs.Lowered.{signature_mentions}
use Rattle.hir_fitting_forms.specs.NumberedFits.{PathFits, type_entered}
use Rattle.hir_fitting_forms.specs.Names.{borrow_names, level_names, names_in_type, names_in_types, output_names, own_names, names_in_signature}
use Rattle.hir_fitting_forms.proofs.Formed.{Fitting, NamesTheSame, owner_known, type_made}
use Rattle.hir_fitting_forms.proofs.Lists.{all_made, each_back, each_front, if_both, if_made}
use Rattle.hir_fitting_forms.proofs.Returning.{return_made}
use Rattle.hir_fitting_forms.proofs.Shaped.{AllKnown, Known, MayLend, enum_there, known_at_level, may_lend, struct_symbol}
use Rattle.std.proofs.Common.{sym, subst}

-- the path of a struct that comes in or goes out
struct_in : (is_out : Bool) (path : StructPath) → IfSome (struct_coming_in is_out path) (λ s. struct_path_mentions s ≡ Path (struct_symbol is_out path.tcx_id) path.lifetimes ∷ owner_mentions path.owner)
struct_in true path = tt
struct_in false path = refl

struct_out : (is_out : Bool) (path : StructPath) → IfSome (struct_going_out is_out path) (λ s. returnable_mentions s ≡ Path (struct_symbol is_out path.tcx_id) path.lifetimes ∷ owner_mentions path.owner)
struct_out true path = refl
struct_out false path = refl

fields_same : NamesTheSame of_fields (λ b. Some b) struct_path_mentions (λ _. [])
fields_same = record { borrowed = λ b. refl; boxed = tt; named = struct_in; implementing = λ path. tt }

inputs_same : NamesTheSame of_inputs (λ b. Some b) struct_path_mentions trait_path_mentions
inputs_same = record { borrowed = λ b. refl; boxed = tt; named = struct_in; implementing = λ path. refl }

outputs_same : NamesTheSame of_outputs lent returnable_mentions (λ _. [])
outputs_same = record { borrowed = λ b. refl; boxed = refl; named = struct_out; implementing = λ path. tt }

-- what a receiver names, where there is one
abbrev pub in_receiver : Option SelfType → List Mentioned
in_receiver r = where_any receiver_mentions r

module _ (census : Census) (count : ℕ) (catalog : Catalog) where
  -- ---- types by themselves

  pub field_made : (ty : NumberedType) → AllKnown census count catalog ty → IfSome (field_form catalog ty) (λ t. Each (Fitting census count) (field_mentions t))
  field_made ty h = type_made census count _ _ _ of_fields (λ b. Some b) struct_path_mentions (λ _. []) (λ _. []) fields_same catalog ty h

  pub output_made : (ty : NumberedType) → AllKnown census count catalog ty → IfSome (out_type_form catalog ty) (λ t. Each (Fitting census count) (output_mentions t))
  output_made ty h = type_made census count _ _ _ of_outputs lent returnable_mentions (λ _. []) (λ _. []) outputs_same catalog ty h

  input_made : (ty : NumberedType) → AllKnown census count catalog ty → IfSome (input_form catalog ty) (λ t. Each (Fitting census count) (input_mentions t))
  input_made ty h = type_made census count _ _ _ of_inputs (λ b. Some b) struct_path_mentions trait_path_mentions callback_mentions inputs_same catalog ty h

  -- ---- returns

  pub method_return_made : (written : Option WriteType) (ty : NumberedType) → AllKnown census count catalog ty
      → IfSome (method_return_form catalog written ty) (λ r. Each (Fitting census count) (return_mentions output_mentions r))
  method_return_made written ty h = return_made census count _ _ _ _ _ _ of_outputs catalog output_mentions output_made written ty h

  pub callback_return_made : (ty : NumberedType) → AllKnown census count catalog ty → IfSome (callback_return_form catalog ty) (λ r. Each (Fitting census count) (return_mentions callback_return_mentions r))
  callback_return_made ty h =
      return_made census count _ _ _ _ _ _ of_inputs catalog callback_return_mentions
      (λ t k. type_made census count _ _ _ of_inputs (λ b. Some b) struct_path_mentions trait_path_mentions (λ _. []) inputs_same catalog t k) None ty h

  -- ---- callbacks

  abbrev in_callback_param : CallbackParam → List Mentioned
  in_callback_param p = output_mentions p.ty

  callback_param_made : (ty : NumberedType) → AllKnown census count catalog ty → IfSome (callback_param_form catalog ty) (λ p. Each (Fitting census count) (in_callback_param p))
  callback_param_made ty h =
      if_made (λ t. Each (Fitting census count) (output_mentions t)) (λ p. Each (Fitting census count) (in_callback_param p)) nameless (λ t g. g) (out_type_form catalog ty) (output_made ty h)

  callback_made : (inputs : List NumberedType) (output : NumberedType) → Each (Known census count catalog) (names_in_types inputs) → AllKnown census count catalog output
      → IfSome (callback_form catalog inputs output) (λ c. Each (Fitting census count) (callback_mentions c))
  callback_made inputs output h k =
      if_both (λ ps. Each (Fitting census count) (flat_map in_callback_param ps)) (λ r. Each (Fitting census count) (return_mentions callback_return_mentions r)) (λ c. Each (Fitting census count) (callback_mentions c))
      nameless_callback (λ ps r g l. each_both (Fitting census count) (flat_map in_callback_param ps) (return_mentions callback_return_mentions r) g l)
      (callback_params_form catalog inputs) (callback_return_form catalog output)
      (all_made (Known census count catalog) (Fitting census count) names_in_type (callback_param_form catalog) in_callback_param callback_param_made inputs h) (callback_return_made output k)

  -- ---- parameters

  callback_type_made : (c : Callback) → Each (Fitting census count) (callback_mentions c) → Each (Fitting census count) (input_mentions (callback_type c))
  callback_type_made c h =
      subst (Each (Fitting census count)) (sym (fold-roll-HirType _ _ _ _ _ _ (List Mentioned) (mentions_step (λ (b : Borrow). Some b) struct_path_mentions trait_path_mentions callback_mentions) (HirType-F.Callback c))) h

  param_level : (ty : NumberedType) (x : NumberedType-F NumberedType) → AllKnown census count catalog ty → Each (Known census count catalog) (level_names (map-NumberedType _ _ names_in_type x))
      → IfSome (level_param_form catalog ty x) (λ t. Each (Fitting census count) (input_mentions t))
  param_level ty (NumberedType-F.Function inputs output m) h k =
      if_made (λ c. Each (Fitting census count) (callback_mentions c)) (λ t. Each (Fitting census count) (input_mentions t)) callback_type callback_type_made (callback_form catalog inputs output)
      (callback_made inputs output (each_front (Known census count catalog) (names_in_types inputs) (names_in_type output) k) (each_back (Known census count catalog) (names_in_types inputs) (names_in_type output) k))
  param_level ty _ h k = input_made ty h

  pub param_made : (ty : NumberedType) → AllKnown census count catalog ty → IfSome (param_form catalog ty) (λ t. Each (Fitting census count) (input_mentions t))
  param_made ty h = param_level ty (out-NumberedType ty) h (known_at_level census count catalog ty h)

  params_made : (types : List NumberedType) → Each (Known census count catalog) (names_in_types types) → IfSome (params_form catalog types) (λ ts. Each (Fitting census count) (flat_map input_mentions ts))
  params_made types h = all_made (Known census count catalog) (Fitting census count) names_in_type (param_form catalog) input_mentions param_made types h

  -- ---- receivers

  opaque_receiver_made : (ls : Generics) (id : ℕ) (b : Option Borrow) → Fitting census count (Path (symbol.TypeId (type.Opaque id)) ls) → MayLend census count b
      → IfSome (opaque_receiver ls id b) (λ r. Each (Fitting census count) (receiver_mentions r))
  opaque_receiver_made ls id (Some b) h k = (h, (k, tt))
  opaque_receiver_made ls id None h k = tt

  entry_receiver_made : (ls : Generics) (b : Option Borrow) (e : Entry) → PathFits census count (type_entered e) ls → MayLend census count b
      → IfSome (entry_receiver ls b e) (λ r. Each (Fitting census count) (receiver_mentions r))
  entry_receiver_made ls b (entry.Struct id _) h k = (h, owner_known census count b k)
  entry_receiver_made ls b (entry.OutStruct id _) h k = tt
  entry_receiver_made ls b (entry.Opaque id _) h k = opaque_receiver_made ls id b h k
  entry_receiver_made ls b (entry.Enum id) h k = (enum_there census count id ls h, tt)
  entry_receiver_made ls b (entry.Trait id) h k = absurd h
  entry_receiver_made ls b (entry.Function id) h k = absurd h

  pub receiver_made : (borrow : Option (MaybeStatic ℕ × Mutability)) (target : Target) → Each (Known census count catalog) (borrow_names borrow) → Each (Known census count catalog) (own_names (Some target))
      → IfSome (receiver_form catalog borrow target) (λ r. Each (Fitting census count) (receiver_mentions r))
  receiver_made borrow target h k = entry_receiver_made target.lifetimes (slice_borrow borrow) (entry_at catalog target.place) k.0 (may_lend census count catalog borrow h)

  -- ---- signatures

  own_made : (borrow : Option (MaybeStatic ℕ × Mutability)) (own : Option Target) → Each (Known census count catalog) (borrow_names borrow) → Each (Known census count catalog) (own_names own)
      → IfSome (own_form catalog borrow own) (λ r. Each (Fitting census count) (in_receiver r))
  own_made borrow (Some target) h k =
      if_made (λ r. Each (Fitting census count) (receiver_mentions r)) (λ r. Each (Fitting census count) (in_receiver r)) (λ r. Some r) (λ r g. g) (receiver_form catalog borrow target) (receiver_made borrow target h k)
  own_made borrow None h k = tt

  unit_return_made : (written : Option WriteType) → Each (Fitting census count) (return_mentions output_mentions (returned.Infallible (unit_form written)))
  unit_return_made (Some w) = tt
  unit_return_made None = tt

  output_form_made : (written : Option WriteType) (output : Option NumberedType) → Each (Known census count catalog) (output_names output)
      → IfSome (output_form catalog written output) (λ r. Each (Fitting census count) (return_mentions output_mentions r))
  output_form_made written (Some ty) h = method_return_made written ty h
  output_form_made written None h = unit_return_made written

  -- a signature of parts, but for what is returned
  abbrev GoodInputs : (Returned → LoweredSignature) → Type 0
  GoodInputs make = (r : Returned) → Each (Fitting census count) (return_mentions output_mentions r) → Each (Fitting census count) (signature_mentions (make r))

  inputs_made : (receiver : Option SelfType) (params : List ParamType) → Each (Fitting census count) (in_receiver receiver) → Each (Fitting census count) (flat_map input_mentions params)
      → GoodInputs (λ r. lowered_signature receiver params r)
  inputs_made receiver params h k r l =
      each_both (Fitting census count) (in_receiver receiver ++ flat_map input_mentions params) (return_mentions output_mentions r)
      (each_both (Fitting census count) (in_receiver receiver) (flat_map input_mentions params) h k) l

  pub signature_made : (written : Option WriteType) (n : NumberedSignature) → Each (Known census count catalog) (names_in_signature n)
      → IfSome (signature_form catalog written n) (λ s. Each (Fitting census count) (signature_mentions s))
  signature_made written n h =
      let known = Known census count catalog in
      let first = borrow_names n.borrow in
      let second = own_names n.own in
      let third = names_in_types n.params in
      let last = output_names n.output in
      let inputs = each_front known ((first ++ second) ++ third) last h in
      let receiver = each_front known (first ++ second) third inputs in
      if_both GoodInputs (λ r. Each (Fitting census count) (return_mentions output_mentions r)) (λ s. Each (Fitting census count) (signature_mentions s)) (λ make output. make output) (λ make r g l. g r l)
      (both_given (λ receiver params. lowered_signature receiver params) (own_form catalog n.borrow n.own) (params_form catalog n.params)) (output_form catalog written n.output)
      (if_both (λ r. Each (Fitting census count) (in_receiver r)) (λ ts. Each (Fitting census count) (flat_map input_mentions ts)) GoodInputs (λ receiver params. lowered_signature receiver params) inputs_made
      (own_form catalog n.borrow n.own) (params_form catalog n.params) (own_made n.borrow n.own (each_front known first second receiver) (each_back known first second receiver)) (params_made n.params (each_back known (first ++ second) third inputs)))
      (output_form_made written n.output (each_back known ((first ++ second) ++ third) last h))
