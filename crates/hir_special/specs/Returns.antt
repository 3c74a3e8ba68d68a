-- What a special method returns.
use Rattle.std.specs.Prelude.{ℕ, Bool, true, false, not, Option, Some, None, ◌==◌}
use Rattle.hir_attrs.specs.declared.special.kind.SpecialKind.{SpecialKind}
use Rattle.hir_attrs.specs.declared.special.kind.SpecialKind.TheVariants as kind
use Rattle.hir_ids.specs.declared.ids.TypeId.{TypeId}
use Rattle.hir_ids.specs.declared.ids.TypeId.TheVariants as type
use Rattle.hir_ids.specs.declared.owners.MaybeOwn.{MaybeOwn}
use Rattle.hir_ids.specs.declared.primitives.PrimitiveType.TheVariants as primitive
use Rattle.hir_types.specs.Named.{Returned, ReturnedType, Success}
use Rattle.hir_types.specs.Paths.{returnable_id}
use Rattle.hir_types.specs.Returns.{success_of}
use Rattle.hir_types.specs.Types.{type_id}
use Rattle.hir_types.specs.declared.callbacks.NoCallback.{NoCallback}
use Rattle.hir_types.specs.declared.paths.NoTraitPath.{NoTraitPath}
use Rattle.hir_types.specs.declared.paths.ReturnableStructPath.{ReturnableStructPath}
use Rattle.hir_types.specs.declared.positions.OutputOnly.{OutputOnly}
use Rattle.hir_types.specs.declared.returns.ReturnType.TheVariants as returned
use Rattle.hir_types.specs.declared.returns.SuccessType.TheVariants as success
use Rattle.hir_types.specs.declared.types.HirType.{out-HirType}
use Rattle.hir_types.specs.declared.types.HirType.TheOpen.{HirType-F}
use Rattle.hir_types.specs.declared.writers.WriteType.TheVariants as writer

-- ---- what a value is

abbrev pub same_id : TypeId → TypeId → Bool
same_id (type.Struct a) (type.Struct b) = a == b
same_id (type.OutStruct a) (type.OutStruct b) = a == b
same_id (type.Opaque a) (type.Opaque b) = a == b
same_id (type.Enum a) (type.Enum b) = a == b
same_id _ _ = false

abbrev pub is_definition : TypeId → Option TypeId → Bool
is_definition it None = false
is_definition it (Some id) = same_id id it

-- of that definition
abbrev pub is_of : TypeId → Success → Bool
is_of it (success.OutType ty) = is_definition it (type_id returnable_id ty)
is_of it _ = false

abbrev pub is_ordering_layer : HirType-F OutputOnly NoCallback MaybeOwn ℕ ReturnableStructPath NoTraitPath ReturnedType → Bool
is_ordering_layer (HirType-F.Primitive primitive.Ordering) = true
is_ordering_layer _ = false

-- `Ordering`
abbrev pub is_ordering : Success → Bool
is_ordering (success.OutType ty) = is_ordering_layer (out-HirType _ _ _ _ _ _ ty)
is_ordering _ = false

abbrev pub is_opaque_layer : HirType-F OutputOnly NoCallback MaybeOwn ℕ ReturnableStructPath NoTraitPath ReturnedType → Bool
is_opaque_layer (HirType-F.Opaque path) = true
is_opaque_layer _ = false

-- an opaque, which may be absent
abbrev pub gives_opaque : Success → Bool
gives_opaque (success.OutType ty) = is_opaque_layer (out-HirType _ _ _ _ _ _ ty)
gives_opaque _ = false

abbrev pub is_optional_layer : HirType-F OutputOnly NoCallback MaybeOwn ℕ ReturnableStructPath NoTraitPath ReturnedType → Bool
is_optional_layer (HirType-F.Opaque path) = path.optional.0
is_optional_layer _ = false

-- an opaque that may be absent
abbrev pub gives_optional : Success → Bool
gives_optional (success.OutType ty) = is_optional_layer (out-HirType _ _ _ _ _ _ ty)
gives_optional _ = false

-- a text is written, and not a list
abbrev pub writes_text : Success → Bool
writes_text (success.Write writer.Str) = true
writes_text (success.Write writer.Str16) = true
writes_text _ = false

abbrev pub is_nothing : Success → Bool
is_nothing success.Unit = true
is_nothing _ = false

-- ---- what a return is

-- a value of that definition, or one or an error
abbrev pub makes : TypeId → Returned → Bool
makes it (returned.Nullable s) = false
makes it (returned.Infallible s) = is_of it s
makes it (returned.Fallible s e) = is_of it s

-- an `Ordering`, or an option of one
abbrev pub compares : Returned → Bool
compares (returned.Infallible s) = is_ordering s
compares (returned.Nullable s) = is_ordering s
compares (returned.Fallible s e) = false

-- the next of some values, or nothing
abbrev pub steps : Returned → Bool
steps (returned.Nullable s) = not (is_nothing s)
steps (returned.Infallible s) = gives_optional s
steps (returned.Fallible s e) = false

-- of a type's method: a constructor makes a value of the type, a getter returns anything, what writes or assigns returns nothing, what
-- makes a text writes one, an iterable gives an opaque, and an operator something
unfoldable pub is_right_return : SpecialKind → TypeId → Returned → Bool
is_right_return kind.Constructor owner it = makes owner it
is_right_return kind.NamedConstructor owner it = makes owner it
is_right_return kind.Getter owner it = true
is_right_return kind.Setter owner it = is_nothing (success_of it)
is_right_return kind.Stringifier owner it = writes_text (success_of it)
is_right_return kind.Comparison owner it = compares it
is_right_return kind.Iterator owner it = steps it
is_right_return kind.Iterable owner it = gives_opaque (success_of it)
is_right_return kind.AddAssign owner it = is_nothing (success_of it)
is_right_return kind.SubAssign owner it = is_nothing (success_of it)
is_right_return kind.MulAssign owner it = is_nothing (success_of it)
is_right_return kind.DivAssign owner it = is_nothing (success_of it)
is_right_return _ owner it = not (is_nothing (success_of it))
