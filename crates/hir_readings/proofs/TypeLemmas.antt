-- A type that stands for something has its skeleton: as a field, as a parameter and as a receiver.
use Rattle.std.proofs.Common.{◌≡◌, ℕ, false, Option, Some, None, refl, ap}
use Rattle.std.specs.Prelude.{IfSome, option_map}
use Rattle.bridge_decl.specs.declared.types.Mutability.{Mutability}
use Rattle.bridge_order.specs.Catalog.{entry_at}
use Rattle.bridge_order.specs.declared.catalog.Catalog.{Catalog}
use Rattle.bridge_order.specs.declared.catalog.Entry.{Entry}
use Rattle.bridge_order.specs.declared.catalog.Entry.TheVariants as entry
use Rattle.bridge_rules.specs.Shapes.{shape_of, slice_borrow}
use Rattle.hir_form.specs.Forms.{callback_type}
use Rattle.hir_form.specs.ParamForms.{ParamType, callback_form, field_form, input_form, level_param_form, param_form}
use Rattle.hir_form.specs.ReceiverForms.{entry_receiver, receiver_form}
use Rattle.hir_form.specs.TypeForms.{generics_in}
use Rattle.hir_life.specs.declared.maybe_static.MaybeStatic.{MaybeStatic}
use Rattle.hir_number.specs.declared.numbered.NumberedType.{NumberedType, out-NumberedType}
use Rattle.hir_number.specs.declared.numbered.NumberedType.TheOpen.{NumberedType-F}
use Rattle.hir_number.specs.declared.numbered.Target.{Target}
use Rattle.hir_skeleton.specs.Inputs.{is_slice_type, param_skeleton}
use Rattle.hir_skeleton.specs.Lowered.{field_skeleton, receiver_skeleton}
use Rattle.hir_skeleton.specs.Skeletons.{Nothing, Struct}
use Rattle.hir_types.specs.Types.{is_option}
use Rattle.hir_types.specs.declared.self_types.SelfType.{SelfType}
use Rattle.hir_types.specs.declared.types.HirType.TheOpen.{HirType-F}
use Rattle.hir_readings.specs.Inputs.{input_known_as, lowered_input, numbered_input, own_input, lowered_receiver}
use Rattle.hir_readings.specs.Knowing.{id_there, known_as, type_id_of}
use Rattle.hir_readings.specs.NumberedSkeletons.{lent_skeleton, level_in_option, level_skeleton, numbered_skeleton, own_skeleton, stands_for_slice, stands_in_option, value_skeleton}
use Rattle.hir_readings.proofs.FormedLemmas.{rolled, shape_made}
use Rattle.hir_readings.proofs.ShapedLemmas.{shape_has}
use Rattle.hir_readings.proofs.SliceLemmas.{param_slice}

-- what is known of all that there is
pub if_some : {A : Type 0} (P Q : A → Type 0) → ((a : A) → P a → Q a) → (o : Option A) → IfSome o P → IfSome o Q
if_some P Q so (Some a) h = so a h
if_some P Q so None h = tt

if_both : {A : Type 0} (P Q R : A → Type 0) → ((a : A) → P a → Q a → R a) → (o : Option A) → IfSome o P → IfSome o Q → IfSome o R
if_both P Q R so (Some a) h k = so a h k
if_both P Q R so None h k = tt

pub if_mapped : {A B : Type 0} (P : B → Type 0) (f : A → B) → ((a : A) → P (f a)) → (x : Option A) → IfSome (option_map f x) P
if_mapped P f makes (Some a) = makes a
if_mapped P f makes None = tt

module _ (catalog : Catalog) where
  -- ---- fields

  pub field_has : (ty : NumberedType) → IfSome (field_form catalog ty) (λ t. field_skeleton t ≡ known_as (id_there catalog) (numbered_skeleton catalog ty))
  field_has ty =
      if_some _ (λ t. field_skeleton t ≡ known_as (id_there catalog) (numbered_skeleton catalog ty)) (λ t has. has.0) (field_form catalog ty)
      (shape_made _ _ _ (λ _. None) (known_as (id_there catalog) (numbered_skeleton catalog ty)) (stands_in_option ty) (generics_in ty) (shape_of catalog ty) (shape_has catalog ty))

  -- ---- parameters

  -- of one whose numbered type has this level
  abbrev Alike : NumberedType-F NumberedType → ParamType → Type 0
  Alike x t = (param_skeleton t ≡ known_as (id_there catalog) (level_skeleton catalog x)) × (is_option t ≡ level_in_option x)

  param_level : (ty : NumberedType) (x : NumberedType-F NumberedType) → IfSome (input_form catalog ty) (Alike x) → IfSome (level_param_form catalog ty x) (Alike x)
  param_level ty (NumberedType-F.Function inputs output m) h =
      if_mapped (Alike (NumberedType-F.Function inputs output m)) callback_type (λ c. rolled _ _ _ (λ path. Some path) (HirType-F.Callback c) Nothing false refl refl) (callback_form catalog inputs output)
  param_level ty _ h = h

  param_alike : (ty : NumberedType) → IfSome (param_form catalog ty) (Alike (out-NumberedType ty))
  param_alike ty =
      param_level ty (out-NumberedType ty)
      (shape_made _ _ _ (λ path. Some path) (known_as (id_there catalog) (numbered_skeleton catalog ty)) (stands_in_option ty) (generics_in ty) (shape_of catalog ty) (shape_has catalog ty))

  pub param_has : (ty : NumberedType) → IfSome (param_form catalog ty) (λ t. lowered_input t ≡ input_known_as (id_there catalog) (numbered_input catalog ty))
  param_has ty =
      if_both (Alike (out-NumberedType ty)) (λ t. is_slice_type t ≡ stands_for_slice ty) (λ t. lowered_input t ≡ input_known_as (id_there catalog) (numbered_input catalog ty))
      (λ t alike same i. record { skeleton = alike.0 i; optional = alike.1 i; slice = same i }) (param_form catalog ty) (param_alike ty) (param_slice catalog ty)

  -- ---- receivers

  abbrev Received : Option (MaybeStatic ℕ × Mutability) → Entry → Target → SelfType → Type 0
  Received None e t r = receiver_skeleton r ≡ known_as (id_there catalog) (value_skeleton e t)
  Received (Some borrow) e t r = receiver_skeleton r ≡ known_as (id_there catalog) (lent_skeleton borrow.0 e t)

  entry_received : (borrow : Option (MaybeStatic ℕ × Mutability)) (e : Entry) (t : Target) → type_id_of e ≡ id_there catalog t.place → IfSome (entry_receiver t.lifetimes (slice_borrow borrow) e) (Received borrow e t)
  entry_received None (entry.Struct id has) t is = ap (λ i. Struct i t.lifetimes) is
  entry_received None (entry.OutStruct id has) t is = tt
  entry_received None (entry.Opaque id mark) t is = tt
  entry_received None (entry.Enum id) t is = refl
  entry_received None (entry.Trait id) t is = refl
  entry_received None (entry.Function id) t is = refl
  entry_received (Some borrow) (entry.Struct id has) t is = ap (λ i. Struct i t.lifetimes) is
  entry_received (Some borrow) (entry.OutStruct id has) t is = tt
  entry_received (Some borrow) (entry.Opaque id mark) t is = refl
  entry_received (Some borrow) (entry.Enum id) t is = refl
  entry_received (Some borrow) (entry.Trait id) t is = refl
  entry_received (Some borrow) (entry.Function id) t is = refl

  own_received : (borrow : Option (MaybeStatic ℕ × Mutability)) (t : Target) (r : SelfType) → Received borrow (entry_at catalog t.place) t r → receiver_skeleton r ≡ known_as (id_there catalog) (own_skeleton catalog borrow t)
  own_received None t r h = h
  own_received (Some borrow) t r h = h

  pub receiver_has : (borrow : Option (MaybeStatic ℕ × Mutability)) (t : Target) → IfSome (receiver_form catalog borrow t) (λ r. receiver_skeleton r ≡ known_as (id_there catalog) (own_skeleton catalog borrow t))
  receiver_has borrow t =
      if_some (Received borrow (entry_at catalog t.place) t) (λ r. receiver_skeleton r ≡ known_as (id_there catalog) (own_skeleton catalog borrow t)) (own_received borrow t) (receiver_form catalog borrow t)
      (entry_received borrow (entry_at catalog t.place) t refl)

  pub input_received : (borrow : Option (MaybeStatic ℕ × Mutability)) (t : Target) → IfSome (receiver_form catalog borrow t) (λ r. lowered_receiver r ≡ input_known_as (id_there catalog) (own_input catalog borrow t))
  input_received borrow t =
      if_some (λ r. receiver_skeleton r ≡ known_as (id_there catalog) (own_skeleton catalog borrow t)) (λ r. lowered_receiver r ≡ input_known_as (id_there catalog) (own_input catalog borrow t))
      (λ r same i. record { skeleton = same i; optional = false; slice = false }) (receiver_form catalog borrow t) (receiver_has borrow t)
