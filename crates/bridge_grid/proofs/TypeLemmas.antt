-- The faults of types where they stand are the rules that these break.
use Rattle.std.proofs.Common.{◌≡◌, ◌↔◌, ℕ, List, Bool, true, false, not, ◌||◌, ◌&&◌, Option, Some, None, refl, sym}
use Rattle.bridge_ast.specs.declared.place.ItemPlace.{ItemPlace}
use Rattle.bridge_decl.specs.declared.types.Mutability.{Mutability}
use Rattle.bridge_decl.specs.declared.types.StdlibOrDiplomat.TheVariants.{Stdlib, Diplomat}
use Rattle.bridge_decl.specs.declared.types.WriteType.{WriteType}
use Rattle.bridge_decl.specs.declared.types.WriteType.TheVariants as write
use Rattle.hir_backends.specs.declared.support.BackendAttrSupport.{BackendAttrSupport}
use Rattle.hir_backends.specs.declared.support.flag.SupportFlag.TheVariants as flag
use Rattle.hir_life.specs.declared.maybe_static.MaybeStatic.{MaybeStatic}
use Rattle.hir_config.specs.declared.config.LoweringConfig.{LoweringConfig}
use Rattle.hir_number.specs.declared.numbered.NumberedType.{NumberedType, out-NumberedType}
use Rattle.hir_number.specs.declared.numbered.NumberedType.TheOpen.{NumberedType-F}
use Rattle.hir_reports.specs.declared.rule.Rule.TheVariants as rule
use Rattle.bridge_order.specs.declared.catalog.Catalog.{Catalog}
use Rattle.bridge_order.specs.declared.catalog.Entry.{Entry}
use Rattle.bridge_order.specs.declared.catalog.Entry.TheVariants as entry
use Rattle.bridge_rules.specs.declared.position.Position.{Position}
use Rattle.bridge_rules.specs.declared.position.Position.TheVariants.{Param, CallbackParam, CallbackReturn}
use Rattle.bridge_rules.specs.declared.shape.Shape.{Shape}
use Rattle.bridge_order.specs.Catalog.{entry_at}
use Rattle.bridge_rules.specs.Shapes.{shape_of}
use Rattle.bridge_rules.specs.Table.{cell_of, refs_flag}
use Rattle.bridge_grid.specs.declared.fault.TypeFault.TheVariants.{Broken}
use Rattle.bridge_grid.specs.declared.part.Part.{Part}
use Rattle.bridge_grid.specs.declared.part.Part.TheVariants.{Whole, Inside, Error}
use Rattle.bridge_grid.specs.Exactly.{AreExactly}
use Rattle.bridge_grid.specs.Asked.{cell_faults}
use Rattle.bridge_grid.specs.Breaks.{ShapeBreaks, OptionBreaks, PartBreaks, TypeBreaks}
use Rattle.bridge_grid.specs.Carrying.{carries, is_slice}
use Rattle.bridge_grid.specs.Faults.{inside_shape_faults, part_inside, shape_faults, shape_inside, type_faults}
use Rattle.bridge_grid.specs.ItemBreaks.{LentReceiverBreaks, OwnReceiverBreaks, ReceiverBreaks, TraitBreaks, WriterBreaks}
use Rattle.bridge_grid.specs.Items.{lent_receiver_faults, own_receiver_faults, receiver_faults, trait_faults, writer_faults}
use Rattle.bridge_grid.specs.ParamBreaks.{CallbackParamBreaks, CallbackBreaks, LevelInParamBreaks, ParamBreaks}
use Rattle.bridge_grid.specs.Params.{callback_faults, callback_param_faults, level_in_param, param_faults, reference_faults}
use Rattle.bridge_grid.specs.ReturnBreaks.{LevelResultPartBreaks, LevelReturnBreaks, LevelReturnedOptionBreaks, ReturnBreaks}
use Rattle.bridge_grid.specs.Returns.{is_pointer, level_result_part, level_returned, level_returned_option, returned_faults}
use Rattle.bridge_grid.specs.rules.CallbackReference.{CallbackReference}
use Rattle.bridge_grid.proofs.CellBreaks.{CellBreaks}
use Rattle.bridge_grid.proofs.CellLemmas.{tells_cell, tells_denied, tells_denied_if, tells_marked}
use Rattle.bridge_grid.proofs.RowLemmas.{rules_of}
use Rattle.bridge_grid.proofs.RuleLemmas.{cell_of_rule}
use Rattle.bridge_grid.proofs.TellsLemmas.{no_false, tells_none, tells_one, tells_both, tells_when, tells_map, tells_if, tells_or_inside, tells_each, not_iff, and_iff, same_iff}

-- ---- types

tells_shape : (support : BackendAttrSupport) (at : Position) (part : Part) (s : Shape) → AreExactly (cell_faults support part (cell_of s at)) (ShapeBreaks support at part s)
tells_shape support at part s = tells_map _ (CellBreaks support part (cell_of s at)) _ (λ f. (rules_of support part f s at, cell_of_rule support part at s f)) (tells_cell support part (cell_of s at))

tells_inside_shape : (support : BackendAttrSupport) (at : Position) (part : Part) (s : Option Shape) → AreExactly (inside_shape_faults support at part s) (OptionBreaks support at part s)
tells_inside_shape support at part (Some s) = tells_shape support at part s
tells_inside_shape support at part None = tells_none

tells_part : (support : BackendAttrSupport) (at : Position) (part : Part) (s : Shape) → AreExactly (shape_faults support at part s) (PartBreaks support at part s)
tells_part support at part s = tells_or_inside _ _ _ _ (tells_shape support at part s) (tells_inside_shape support at (part_inside s part) (shape_inside s))

pub tells_type : (support : BackendAttrSupport) (catalog : Catalog) (at : Position) (part : Part) (ty : NumberedType) → AreExactly (type_faults support catalog at part ty) (TypeBreaks support catalog at part ty)
tells_type support catalog at part ty = tells_part support at part (shape_of catalog ty)

-- ---- returns

tells_result_part : (support : BackendAttrSupport) (catalog : Catalog) (at : Position) (part : Part) (ty : NumberedType) (level : NumberedType-F NumberedType) → AreExactly (level_result_part support catalog at part ty level) (LevelResultPartBreaks support catalog at part ty level)
tells_result_part support catalog at part ty NumberedType-F.Unit = tells_none
tells_result_part support catalog at part ty (NumberedType-F.Option t Stdlib) = tells_if (is_pointer t) (is_pointer t ≡ true) _ _ _ _ (same_iff (is_pointer t)) (tells_type support catalog at part ty) (tells_one (Broken rule.StdOptionPlace))
tells_result_part support catalog at part ty (NumberedType-F.Option t Diplomat) = tells_type support catalog at part ty
tells_result_part support catalog at part ty (NumberedType-F.Primitive _) = tells_type support catalog at part ty
tells_result_part support catalog at part ty NumberedType-F.Ordering = tells_type support catalog at part ty
tells_result_part support catalog at part ty (NumberedType-F.Named _) = tells_type support catalog at part ty
tells_result_part support catalog at part ty (NumberedType-F.SelfType _) = tells_type support catalog at part ty
tells_result_part support catalog at part ty (NumberedType-F.ImplTrait _) = tells_type support catalog at part ty
tells_result_part support catalog at part ty (NumberedType-F.Reference _ _ _) = tells_type support catalog at part ty
tells_result_part support catalog at part ty (NumberedType-F.Box _) = tells_type support catalog at part ty
tells_result_part support catalog at part ty (NumberedType-F.Write _) = tells_type support catalog at part ty
tells_result_part support catalog at part ty (NumberedType-F.StrReference _ _ _) = tells_type support catalog at part ty
tells_result_part support catalog at part ty (NumberedType-F.StrSlice _ _) = tells_type support catalog at part ty
tells_result_part support catalog at part ty (NumberedType-F.PrimitiveSlice _ _ _) = tells_type support catalog at part ty
tells_result_part support catalog at part ty (NumberedType-F.CustomTypeSlice _ _ _) = tells_type support catalog at part ty
tells_result_part support catalog at part ty (NumberedType-F.Function _ _ _) = tells_type support catalog at part ty
tells_result_part support catalog at part ty (NumberedType-F.Result _ _ _) = tells_type support catalog at part ty

tells_returned_option : (support : BackendAttrSupport) (catalog : Catalog) (at : Position) (ty inner : NumberedType) (level : NumberedType-F NumberedType) → AreExactly (level_returned_option support catalog at ty inner level) (LevelReturnedOptionBreaks support catalog at ty inner level)
tells_returned_option support catalog at ty inner NumberedType-F.Unit = tells_none
tells_returned_option support catalog at ty inner (NumberedType-F.Primitive _) = tells_type support catalog at Inside inner
tells_returned_option support catalog at ty inner NumberedType-F.Ordering = tells_type support catalog at Inside inner
tells_returned_option support catalog at ty inner (NumberedType-F.Named _) = tells_type support catalog at Inside inner
tells_returned_option support catalog at ty inner (NumberedType-F.SelfType _) = tells_type support catalog at Inside inner
tells_returned_option support catalog at ty inner (NumberedType-F.ImplTrait _) = tells_type support catalog at Inside inner
tells_returned_option support catalog at ty inner (NumberedType-F.Reference _ _ _) = tells_type support catalog at Whole ty
tells_returned_option support catalog at ty inner (NumberedType-F.Box _) = tells_type support catalog at Whole ty
tells_returned_option support catalog at ty inner (NumberedType-F.Write _) = tells_type support catalog at Inside inner
tells_returned_option support catalog at ty inner (NumberedType-F.StrReference _ _ _) = tells_type support catalog at Inside inner
tells_returned_option support catalog at ty inner (NumberedType-F.StrSlice _ _) = tells_type support catalog at Inside inner
tells_returned_option support catalog at ty inner (NumberedType-F.PrimitiveSlice _ _ _) = tells_type support catalog at Inside inner
tells_returned_option support catalog at ty inner (NumberedType-F.CustomTypeSlice _ _ _) = tells_type support catalog at Inside inner
tells_returned_option support catalog at ty inner (NumberedType-F.Function _ _ _) = tells_type support catalog at Inside inner
tells_returned_option support catalog at ty inner (NumberedType-F.Option _ _) = tells_type support catalog at Inside inner
tells_returned_option support catalog at ty inner (NumberedType-F.Result _ _ _) = tells_type support catalog at Inside inner

tells_returned_level : (support : BackendAttrSupport) (catalog : Catalog) (at : Position) (ty : NumberedType) (level : NumberedType-F NumberedType) → AreExactly (level_returned support catalog at ty level) (LevelReturnBreaks support catalog at ty level)
tells_returned_level support catalog at ty NumberedType-F.Unit = tells_none
tells_returned_level support catalog at ty (NumberedType-F.Option t d) = tells_returned_option support catalog at ty t (out-NumberedType t)
tells_returned_level support catalog at ty (NumberedType-F.Result t e d) = tells_both _ _ _ _ (tells_result_part support catalog at Inside t (out-NumberedType t)) (tells_result_part support catalog at Error e (out-NumberedType e))
tells_returned_level support catalog at ty (NumberedType-F.Primitive _) = tells_type support catalog at Whole ty
tells_returned_level support catalog at ty NumberedType-F.Ordering = tells_type support catalog at Whole ty
tells_returned_level support catalog at ty (NumberedType-F.Named _) = tells_type support catalog at Whole ty
tells_returned_level support catalog at ty (NumberedType-F.SelfType _) = tells_type support catalog at Whole ty
tells_returned_level support catalog at ty (NumberedType-F.ImplTrait _) = tells_type support catalog at Whole ty
tells_returned_level support catalog at ty (NumberedType-F.Reference _ _ _) = tells_type support catalog at Whole ty
tells_returned_level support catalog at ty (NumberedType-F.Box _) = tells_type support catalog at Whole ty
tells_returned_level support catalog at ty (NumberedType-F.Write _) = tells_type support catalog at Whole ty
tells_returned_level support catalog at ty (NumberedType-F.StrReference _ _ _) = tells_type support catalog at Whole ty
tells_returned_level support catalog at ty (NumberedType-F.StrSlice _ _) = tells_type support catalog at Whole ty
tells_returned_level support catalog at ty (NumberedType-F.PrimitiveSlice _ _ _) = tells_type support catalog at Whole ty
tells_returned_level support catalog at ty (NumberedType-F.CustomTypeSlice _ _ _) = tells_type support catalog at Whole ty
tells_returned_level support catalog at ty (NumberedType-F.Function _ _ _) = tells_type support catalog at Whole ty

pub tells_returned : (support : BackendAttrSupport) (catalog : Catalog) (at : Position) (ty : NumberedType) → AreExactly (returned_faults support catalog at ty) (ReturnBreaks support catalog at ty)
tells_returned support catalog at ty = tells_returned_level support catalog at ty (out-NumberedType ty)

-- ---- parameters

neither_iff : (a b : Bool) → (not (a || b) ≡ true) ↔ ((a ≡ false) × (b ≡ false))
neither_iff true b = (λ h. absurd (no_false h), λ h. absurd (no_false (sym h.0)))
neither_iff false b = (λ h. (refl, (not_iff b).0 h), λ h. (not_iff b).1 h.1)

tells_reference : (config : LoweringConfig) (ty : NumberedType) → AreExactly (reference_faults config ty) (λ f. CallbackReference config ty × (f ≡ Broken rule.CallbackReference))
tells_reference config ty = tells_when (not (config.unsafe_references_in_callbacks || is_slice ty) && carries ty) (CallbackReference config ty) (Broken rule.CallbackReference)
    (and_iff (not (config.unsafe_references_in_callbacks || is_slice ty)) (carries ty) _ _ (neither_iff config.unsafe_references_in_callbacks (is_slice ty)) (same_iff (carries ty)))

pub tells_callback_param : (support : BackendAttrSupport) (config : LoweringConfig) (catalog : Catalog) (ty : NumberedType) → AreExactly (callback_param_faults support config catalog ty) (CallbackParamBreaks support config catalog ty)
tells_callback_param support config catalog ty = tells_both _ _ _ _ (tells_type support catalog CallbackParam Whole ty) (tells_reference config ty)

tells_callback : (support : BackendAttrSupport) (config : LoweringConfig) (catalog : Catalog) (inputs : List NumberedType) (output : NumberedType) → AreExactly (callback_faults support config catalog inputs output) (CallbackBreaks support config catalog inputs output)
tells_callback support config catalog inputs output = tells_both _ _ _ _ (tells_each (callback_param_faults support config catalog) (CallbackParamBreaks support config catalog) (tells_callback_param support config catalog) inputs) (tells_returned support catalog CallbackReturn output)

tells_in_param : (support : BackendAttrSupport) (config : LoweringConfig) (catalog : Catalog) (level : NumberedType-F NumberedType) → AreExactly (level_in_param support config catalog level) (LevelInParamBreaks support config catalog level)
tells_in_param support config catalog (NumberedType-F.Function inputs output m) = tells_callback support config catalog inputs output
tells_in_param support config catalog (NumberedType-F.Primitive _) = tells_none
tells_in_param support config catalog NumberedType-F.Ordering = tells_none
tells_in_param support config catalog (NumberedType-F.Named _) = tells_none
tells_in_param support config catalog (NumberedType-F.SelfType _) = tells_none
tells_in_param support config catalog (NumberedType-F.ImplTrait _) = tells_none
tells_in_param support config catalog (NumberedType-F.Reference _ _ _) = tells_none
tells_in_param support config catalog (NumberedType-F.Box _) = tells_none
tells_in_param support config catalog (NumberedType-F.Write _) = tells_none
tells_in_param support config catalog (NumberedType-F.StrReference _ _ _) = tells_none
tells_in_param support config catalog (NumberedType-F.StrSlice _ _) = tells_none
tells_in_param support config catalog (NumberedType-F.PrimitiveSlice _ _ _) = tells_none
tells_in_param support config catalog (NumberedType-F.CustomTypeSlice _ _ _) = tells_none
tells_in_param support config catalog (NumberedType-F.Option _ _) = tells_none
tells_in_param support config catalog (NumberedType-F.Result _ _ _) = tells_none
tells_in_param support config catalog NumberedType-F.Unit = tells_none

pub tells_param : (support : BackendAttrSupport) (config : LoweringConfig) (catalog : Catalog) (ty : NumberedType) → AreExactly (param_faults support config catalog ty) (ParamBreaks support config catalog ty)
tells_param support config catalog ty = tells_or_inside _ _ _ _ (tells_type support catalog Param Whole ty) (tells_in_param support config catalog (out-NumberedType ty))

-- ---- receivers, writers, traits

tells_own_receiver : (e : Entry) → AreExactly (own_receiver_faults e) (OwnReceiverBreaks e)
tells_own_receiver (entry.Struct id has_fields) = tells_none
tells_own_receiver (entry.OutStruct id has_fields) = tells_one (Broken rule.OutStructInput)
tells_own_receiver (entry.Opaque id mark) = tells_one (Broken rule.OpaqueByValue)
tells_own_receiver (entry.Enum id) = tells_none
tells_own_receiver (entry.Trait id) = tells_none
tells_own_receiver (entry.Function id) = tells_none

tells_lent_receiver : (support : BackendAttrSupport) (m : Mutability) (e : Entry) → AreExactly (lent_receiver_faults support m e) (LentReceiverBreaks support m e)
tells_lent_receiver support m (entry.Struct id has_fields) = tells_denied support (refs_flag m)
tells_lent_receiver support m (entry.OutStruct id has_fields) = tells_one (Broken rule.OutStructInput)
tells_lent_receiver support m (entry.Opaque id mark) = tells_marked m mark
tells_lent_receiver support m (entry.Enum id) = tells_none
tells_lent_receiver support m (entry.Trait id) = tells_none
tells_lent_receiver support m (entry.Function id) = tells_none

pub tells_receiver : (support : BackendAttrSupport) (catalog : Catalog) (borrow : Option (MaybeStatic ℕ × Mutability)) (place : ItemPlace) → AreExactly (receiver_faults support catalog borrow place) (ReceiverBreaks support catalog borrow place)
tells_receiver support catalog (Some b) place = tells_lent_receiver support b.1 (entry_at catalog place)
tells_receiver support catalog None place = tells_own_receiver (entry_at catalog place)

pub tells_writer : (support : BackendAttrSupport) (w : WriteType) → AreExactly (writer_faults support w) (WriterBreaks support w)
tells_writer support write.Str = tells_none
tells_writer support write.Str16 = tells_denied support flag.Utf16Writeables
tells_writer support (write.Primitive p) = tells_denied support flag.GenericWriteables

pub tells_trait : (support : BackendAttrSupport) (is_send is_sync : Bool) → AreExactly (trait_faults support is_send is_sync) (TraitBreaks support is_send is_sync)
tells_trait support is_send is_sync = tells_both _ _ _ _ (tells_denied_if support is_send (is_send ≡ true) flag.TraitsAreSend (same_iff is_send)) (tells_denied_if support is_sync (is_sync ≡ true) flag.TraitsAreSync (same_iff is_sync))
