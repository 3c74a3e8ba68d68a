-- TupleReference: a visited type is a reference to a struct that is marked `tuple`, or a method has such a struct as its receiver.
use Rattle.std.specs.Prelude.{◌≡◌, true}
use Rattle.hir_context.specs.Lookups.{InputStruct}

-- the struct that is referred to, or that is the receiver
pub record TupleReference (def : InputStruct) : Type 0 where
  pub marked : def.attrs.tuple ≡ true
