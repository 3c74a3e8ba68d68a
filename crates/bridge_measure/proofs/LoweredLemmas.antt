-- What the made items are lowered to: structs of plain fields whose layout isn't asked for, an opaque without methods, and functions that take
-- and return plain types.
use Rattle.std.proofs.Common.{◌≡◌, ℕ, ◌%◌, ◌<◌, Bool, List, [], Option, Some, None, refl, sym, ap, ◌∙◌}
use Rattle.std.specs.Prelude.{◌==◌, option_map, if◌then◌else◌}
use Rattle.std.specs.List.{All, zip}
use Rattle.std.proofs.lemmas.List.Elements.{All-map, All-nil}
use Rattle.bridge_ast.specs.declared.place.ItemPlace.{ItemPlace}
use Rattle.bridge_decl.specs.declared.modules.Item.{Item}
use Rattle.bridge_decl.specs.declared.modules.Item.TheVariants as item
use Rattle.bridge_decl.specs.declared.structs.Field.{Field}
use Rattle.bridge_generate.specs.Generated.{function_name, function_numbered, params_of, plain_attrs, plain_docs, struct_numbered, the_opaque}
use Rattle.hir_attrs.specs.declared.attrs.Attrs.{Attrs}
use Rattle.hir_context.specs.Lookups.{InputStruct, OutputStruct}
use Rattle.hir_definitions.specs.declared.definitions.EnumDef.{EnumDef}
use Rattle.hir_definitions.specs.declared.definitions.OpaqueDef.{OpaqueDef}
use Rattle.hir_definitions.specs.declared.definitions.TraitDef.{TraitDef}
use Rattle.hir_definitions.specs.declared.methods.Method.{Method}
use Rattle.hir_definitions.specs.declared.methods.Param.{Param}
use Rattle.hir_fields.specs.Fields.{field_with, fields_form, fields_with}
use Rattle.hir_fields.specs.Types.{field_types_form}
use Rattle.hir_form.specs.ParamForms.{ParamType, field_form}
use Rattle.hir_form.specs.ReturnForms.{both_given}
use Rattle.hir_form.specs.SignatureForms.{lowered_signature, output_form, signature_form}
use Rattle.hir_form.specs.declared.signatures.LoweredSignature.{LoweredSignature}
use Rattle.hir_items.specs.FreeFunctions.{function_item_form}
use Rattle.hir_items.specs.Inheriting.{item_marks}
use Rattle.hir_items.specs.Opaques.{opaque_item_form, opaque_with}
use Rattle.hir_items.specs.Setting.{Setting}
use Rattle.hir_items.specs.Structs.{struct_item_form, struct_with}
use Rattle.hir_lowering.specs.Kinds.{ItemMaking, enum_made, function_made, opaque_made, out_struct_made, struct_made, trait_made}
use Rattle.hir_methods.specs.Functions.{disabled_form}
use Rattle.hir_methods.specs.Types.{function_types, stage_form, typed_param, whole_of}
use Rattle.hir_methods.specs.Untyped.{heading_form, untyped_forms}
use Rattle.hir_number.specs.Signatures.{without_writer}
use Rattle.hir_signatures.specs.Stages.{types_form}
use Rattle.hir_signatures.specs.declared.signatures.SignatureTypes.{SignatureTypes}
use Rattle.hir_stages.specs.Given.{function_stage}
use Rattle.hir_types.specs.Named.{ReturnedType}
use Rattle.hir_types.specs.SelfTypes.{FieldType}
use Rattle.hir_types.specs.declared.returns.ReturnType.TheVariants as returned
use Rattle.hir_types.specs.declared.returns.SuccessType.TheVariants as success
use Rattle.hir_validation.specs.Structs.{LoweredField}
use Rattle.hir_validation.specs.WholeTypes.{field_whole, param_whole, returned_whole}
use Rattle.bridge_measure.specs.inside.Made.{AreAsMade, IsMadeAt}
use Rattle.bridge_measure.proofs.FilledLemmas.{lifetimes_of}
use Rattle.bridge_measure.proofs.FormLemmas.{field_types_plain, lowered_params, lowered_return, params_are, params_plain, return_is, return_plain}
use Rattle.bridge_measure.proofs.FunctionLemmas.{nothing_written, numbered, stage_is}
use Rattle.bridge_measure.proofs.GivenLemmas.{completed_all, either_if, joined_if, mapped, none_never, zip_all}
use Rattle.bridge_measure.proofs.PlainLemmas.{IsPlain, IsQuietFunction, IsQuietStruct}
use Rattle.bridge_measure.proofs.UseLemmas.{fields_if, struct_if}

-- ---- the opaque

pub opaque_quiet : (s : Setting) (place : ItemPlace) (set : Attrs) (def : OpaqueDef) → opaque_item_form s place set the_opaque ≡ Some def → def.methods ≡ []
opaque_quiet s place set def made =
    let disabled = (item_marks s.backend set plain_attrs).disable in
    let methods : Option (List Method) = if disabled then Some [] else Some [] in
    mapped (λ (d : OpaqueDef). d.methods ≡ []) (opaque_with s.backend set the_opaque) methods
    (λ ms is. either_if (λ (given : List Method). given ≡ []) disabled [] [] refl refl ms is) def made

module _ (count : ℕ) (s : Setting) (known : AreAsMade count s.names s.catalog) (k : ℕ) (within : k < count) where
  -- ---- a struct

  fields_plain : (first : Bool) (fields : List LoweredField) → fields_form s.backend s.catalog s.names (struct_if first k) ≡ Some fields
      → All (λ (f : LoweredField). IsPlain (field_whole f.ty)) fields
  fields_plain first fields made =
      let declared = fields_if first k in
      mapped (All (λ (f : LoweredField). IsPlain (field_whole f.ty))) (fields_with s.backend declared)
      (field_types_form (field_form s.catalog) s.names (struct_if first k))
      (λ types are.
      All-map (λ (f : LoweredField). IsPlain (field_whole f.ty)) (λ (pair : Field × FieldType). field_with s.backend pair.0 pair.1) (zip declared types)
      (zip_all (λ (t : FieldType). IsPlain (field_whole t)) declared types
      (field_types_plain count s.names s.catalog known first k within types are))) fields made

  pub struct_quiet : (place : ItemPlace) (set : Attrs) (def : InputStruct) → struct_item_form s place set (struct_numbered k) ≡ Some def → IsQuietStruct def
  struct_quiet place set def made =
      let first = k % 8 == 0 in
      joined_if IsQuietStruct (struct_with s.backend set (struct_if first k)) (item_marks s.backend set plain_attrs).disable
      (fields_form s.backend s.catalog s.names (struct_if first k))
      (record { unasked = refl; plain = All-nil (λ (f : LoweredField). IsPlain (field_whole f.ty)); no_methods = refl })
      (λ fields are. record { unasked = refl; plain = fields_plain first fields are; no_methods = refl }) def made

  -- ---- a function

  abbrev lowered : LoweredSignature
  lowered = lowered_signature None (lowered_params count s.names s.catalog known k within) (returned.Infallible (success.OutType (lowered_return count s.names s.catalog known)))

  abbrev lowered_types : SignatureTypes
  lowered_types = record { types = lowered; lifetimes = lifetimes_of count s.names s.catalog known k }

  signature_is : signature_form s.catalog None (numbered count s.names s.catalog known k within) ≡ Some lowered
  signature_is =
      let output = output_form s.catalog None (numbered count s.names s.catalog known k within).output in
      ap (λ params. both_given (λ make output. make output) (both_given (λ receiver params. lowered_signature receiver params) (Some None) params) output)
      (params_are count s.names s.catalog known k within)
      ∙ ap (λ output. both_given (λ make output. make output) (Some (lowered_signature None (lowered_params count s.names s.catalog known k within))) output)
      (return_is count s.names s.catalog known)

  types_are : function_types s.catalog s.names (function_numbered k) ≡ Some lowered_types
  types_are =
      ap (λ written. stage_form (types_form s.catalog written) (function_stage s.names (function_numbered k))) (nothing_written k)
      ∙ ap (stage_form (types_form s.catalog None)) (stage_is count s.names s.catalog known k within)
      ∙ ap (option_map (λ types. record { types = types; lifetimes = lifetimes_of count s.names s.catalog known k })) signature_is

  pub function_quiet : (set : Attrs) (method : Method) → function_item_form s set (function_numbered k) ≡ Some method → IsQuietFunction method
  function_quiet set method made =
      let attrs = item_marks s.backend set plain_attrs in
      let heading = heading_form s.backend plain_docs (function_name k) (function_name k) in
      let params = untyped_forms s.backend (without_writer (params_of k)) in
      let whole : SignatureTypes → Method = whole_of attrs heading None params in
      either_if IsQuietFunction attrs.disable (disabled_form attrs heading) (whole lowered_types)
      (record { taken = All-nil (λ (p : Param). IsPlain (param_whole p.ty)); returned = All-nil (λ (ty : ReturnedType). IsPlain (returned_whole ty)) })
      (record {
        taken =
            completed_all (λ (t : ParamType). IsPlain (param_whole t)) (λ (p : Param). IsPlain (param_whole p.ty)) typed_param
            (λ part ty plain. plain) params (lowered_params count s.names s.catalog known k within) (params_plain count s.names s.catalog known k within);
        returned = return_plain count s.names s.catalog known;
      })
      method (sym (ap (λ types. if attrs.disable then Some (disabled_form attrs heading) else option_map whole types) types_are) ∙ made)

-- ---- by kind

module _ (count : ℕ) where
  -- so is what is made of items of a kind, where the paths mean what they are meant to
  abbrev pub Makes : {D : Type 0} → (D → Type 0) → ItemMaking D → Type 0
  Makes {D} P made =
      (s : Setting) → AreAsMade count s.names s.catalog → (place : ItemPlace) (set : Attrs) (i : Item) → IsMadeAt count place i
      → (d : D) → made s place set i ≡ Some d → P d

  -- by the items themselves
  by_items : {D : Type 0} (P : D → Type 0) (made : ItemMaking D)
      → ((s : Setting) (place : ItemPlace) (set : Attrs) (d : D) → made s place set (item.Opaque the_opaque) ≡ Some d → P d)
      → ((s : Setting) → AreAsMade count s.names s.catalog → (place : ItemPlace) (set : Attrs) (k : ℕ) → k < count
      → (d : D) → made s place set (item.Struct (struct_numbered k)) ≡ Some d → P d)
      → ((s : Setting) → AreAsMade count s.names s.catalog → (place : ItemPlace) (set : Attrs) (k : ℕ) → k < count
      → (d : D) → made s place set (item.Function (function_numbered k)) ≡ Some d → P d)
      → Makes P made
  by_items P made opaque struct function s known place set i (IsMadeAt.opaque there is) d given =
      opaque s place set d (sym (ap (made s place set) is) ∙ given)
  by_items P made opaque struct function s known place set i (IsMadeAt.struct k within there is) d given =
      struct s known place set k within d (sym (ap (made s place set) is) ∙ given)
  by_items P made opaque struct function s known place set i (IsMadeAt.function k within there is) d given =
      function s known place set k within d (sym (ap (made s place set) is) ∙ given)

  abbrev Never : {D : Type 0} → D → Type 0
  Never d = ⊥

  pub structs_quiet : Makes IsQuietStruct struct_made
  structs_quiet = by_items IsQuietStruct struct_made (λ s place set d given. none_never d given)
      (λ s known place set k within. struct_quiet count s known k within place set) (λ s known place set k within d given. none_never d given)

  pub opaques_quiet : Makes (λ (d : OpaqueDef). d.methods ≡ []) opaque_made
  opaques_quiet = by_items (λ (d : OpaqueDef). d.methods ≡ []) opaque_made opaque_quiet
      (λ s known place set k within d given. none_never d given) (λ s known place set k within d given. none_never d given)

  pub functions_quiet : Makes IsQuietFunction function_made
  functions_quiet = by_items IsQuietFunction function_made (λ s place set d given. none_never d given)
      (λ s known place set k within d given. none_never d given) (λ s known place set k within. function_quiet count s known k within set)

  -- there are no others
  pub no_out_structs : Makes {D = OutputStruct} Never out_struct_made
  no_out_structs = by_items Never out_struct_made (λ s place set d given. none_never d given)
      (λ s known place set k within d given. none_never d given) (λ s known place set k within d given. none_never d given)

  pub no_enums : Makes {D = EnumDef} Never enum_made
  no_enums = by_items Never enum_made (λ s place set d given. none_never d given)
      (λ s known place set k within d given. none_never d given) (λ s known place set k within d given. none_never d given)

  pub no_traits : Makes {D = TraitDef} Never trait_made
  no_traits = by_items Never trait_made (λ s place set d given. none_never d given)
      (λ s known place set k within d given. none_never d given) (λ s known place set k within d given. none_never d given)
