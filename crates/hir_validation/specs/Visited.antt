-- What is told of a type that backends visit: that of a field, of a parameter or of what is returned, as a whole.
use Rattle.std.specs.Prelude.{List, [], ◌∷◌, ◌++◌, Bool, true, false, not, ◌&&◌, cond, Option, option_and_then}
use Rattle.bridge_decl.specs.declared.types.Mutability.{Mutability}
use Rattle.bridge_decl.specs.declared.types.Mutability.TheVariants.{Mutable, Immutable}
use Rattle.bridge_telling.specs.Telling.{one_if}
use Rattle.hir_attrs.specs.Reading.{about}
use Rattle.hir_context.specs.Lookups.{DefinedType, defined_at}
use Rattle.hir_context.specs.Lookups as defined
use Rattle.hir_context.specs.declared.parts.Definitions.{Definitions}
use Rattle.hir_ids.specs.declared.owners.MaybeOwn.{MaybeOwn}
use Rattle.hir_ids.specs.declared.owners.MaybeOwn.TheVariants as owner
use Rattle.hir_mentions.specs.Mentions.{where_any}
use Rattle.hir_reports.specs.Texts.{plain_error}
use Rattle.hir_reports.specs.declared.report.LoweringError.{LoweringError}
use Rattle.hir_reports.specs.declared.rule.Rule.TheVariants as rule
use Rattle.hir_validation.specs.CallbackReturns.{callback_errors}
use Rattle.hir_validation.specs.WholeTypes.{Whole, Primitive, Enum, Opaque, Struct, Slice, Callback, Other}

-- ---- slices

-- of a slice of these
abbrev pub slice_errors : DefinedType → List LoweringError
slice_errors (defined.Struct def) = one_if (not def.attrs.abi_compatible) (about rule.AbiUnmarked def.name.0)
slice_errors (defined.Enum def) = one_if (not def.attrs.abi_compatible) (about rule.AbiUnmarked def.name.0)
slice_errors (defined.OutStruct def) = plain_error rule.OutStructSlice ∷ []
slice_errors (defined.Opaque def) = []

-- ---- references to structs

abbrev pub is_borrowed : MaybeOwn → Bool
is_borrowed owner.Own = false
is_borrowed (owner.Borrow b) = true

abbrev pub may_write : Mutability → Bool
may_write Mutable = true
may_write Immutable = false

-- the borrow may be written through
abbrev pub is_borrowed_mutably : MaybeOwn → Bool
is_borrowed_mutably owner.Own = false
is_borrowed_mutably (owner.Borrow b) = may_write b.mutability

-- of what is held so
abbrev pub held_errors : MaybeOwn → DefinedType → List LoweringError
held_errors held (defined.Struct def) =
    one_if (is_borrowed_mutably held && not def.attrs.mut_struct_ref) (about rule.MutStructRef def.name.0)
    ++ one_if def.attrs.tuple (plain_error rule.TupleReference)
held_errors held (defined.OutStruct def) = []
held_errors held (defined.Opaque def) = []
held_errors held (defined.Enum def) = []

-- of a reference
abbrev pub lent_errors : MaybeOwn → Option DefinedType → List LoweringError
lent_errors held def = cond (is_borrowed held) (where_any (held_errors held) def) []

-- ---- the whole

-- for a backend whose callbacks must be able to fail, or may not
unfoldable pub visited_errors : Bool → Definitions → Whole → List LoweringError
visited_errors must_fail defs (Struct id held given) = lent_errors held (defined_at defs id)
visited_errors must_fail defs (Slice element) = where_any slice_errors (option_and_then (defined_at defs) element)
visited_errors must_fail defs (Callback output) = callback_errors must_fail defs output
visited_errors must_fail defs Primitive = []
visited_errors must_fail defs (Enum number) = []
visited_errors must_fail defs (Opaque number borrow given) = []
visited_errors must_fail defs Other = []
