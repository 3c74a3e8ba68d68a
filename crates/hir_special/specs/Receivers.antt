-- The receiver of a special method, and how many parameters it has.
use Rattle.std.specs.Prelude.{ℕ, Bool, true, false, not, Option, Some, None, is_some, ◌==◌}
use Rattle.bridge_decl.specs.declared.types.Mutability.{Mutability}
use Rattle.bridge_decl.specs.declared.types.Mutability.TheVariants.{Mutable, Immutable}
use Rattle.hir_attrs.specs.declared.special.kind.SpecialKind.{SpecialKind}
use Rattle.hir_attrs.specs.declared.special.kind.SpecialKind.TheVariants as kind
use Rattle.hir_definitions.specs.declared.methods.ParamSelf.{ParamSelf}
use Rattle.hir_types.specs.declared.self_types.SelfType.{SelfType}
use Rattle.hir_types.specs.declared.self_types.SelfType.TheVariants as receiver

-- ---- receivers

-- `&mut`
abbrev pub is_mut : Mutability → Bool
is_mut Mutable = true
is_mut Immutable = false

abbrev pub is_opaque_self : SelfType → Bool
is_opaque_self (receiver.Opaque path) = true
is_opaque_self _ = false

abbrev pub is_mut_opaque_self : SelfType → Bool
is_mut_opaque_self (receiver.Opaque path) = is_mut path.owner.mutability
is_mut_opaque_self _ = false

-- an opaque is the receiver
abbrev pub takes_opaque : Option ParamSelf → Bool
takes_opaque None = false
takes_opaque (Some it) = is_opaque_self it.ty

-- there is a receiver other than an opaque behind `&mut`
abbrev pub takes_other : Option ParamSelf → Bool
takes_other None = false
takes_other (Some it) = not (is_mut_opaque_self it.ty)

-- a constructor has no receiver, accessors and what makes a text may have one, an iterator has an opaque, and all others have one
unfoldable pub is_wrong_receiver : SpecialKind → Option ParamSelf → Bool
is_wrong_receiver kind.Constructor self = is_some self
is_wrong_receiver kind.NamedConstructor self = is_some self
is_wrong_receiver kind.Getter self = false
is_wrong_receiver kind.Setter self = false
is_wrong_receiver kind.Stringifier self = false
is_wrong_receiver kind.Iterator self = not (takes_opaque self)
is_wrong_receiver _ self = not (is_some self)

-- what assigns has an opaque behind `&mut`, where it has a receiver
unfoldable pub is_wrong_target : SpecialKind → Option ParamSelf → Bool
is_wrong_target kind.AddAssign self = takes_other self
is_wrong_target kind.SubAssign self = takes_other self
is_wrong_target kind.MulAssign self = takes_other self
is_wrong_target kind.DivAssign self = takes_other self
is_wrong_target _ self = false

-- ---- parameters

-- a constructor has as many as it likes; what reads or makes a text or steps has none, and all others have one
unfoldable pub is_wrong_count : SpecialKind → ℕ → Bool
is_wrong_count kind.Constructor count = false
is_wrong_count kind.NamedConstructor count = false
is_wrong_count kind.Getter count = not (count == 0)
is_wrong_count kind.Stringifier count = not (count == 0)
is_wrong_count kind.Iterator count = not (count == 0)
is_wrong_count kind.Iterable count = not (count == 0)
is_wrong_count _ count = not (count == 1)
