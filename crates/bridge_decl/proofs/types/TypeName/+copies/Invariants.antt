use Rattle.std.proofs.Common.{◌≡◌, take}
use Rattle.bridge_decl.proofs.types.TypeName.+copies.Given as goal

abbrev pub invariant-clone_each-loop-ty : goal.invariant-clone_each-loop-ty
invariant-clone_each-loop-ty l = l.copies ≡ take l.ty-index l.ty-items
