-- StructContainsItself: an enabled struct or out-struct reaches itself through fields of enabled structs, by value, in options or by
-- reference.
use Rattle.bridge_ast.specs.declared.place.ItemPlace.{ItemPlace}
use Rattle.bridge_decl.specs.declared.modules.Module.{Module}
use Rattle.bridge_decl.specs.declared.structs.Struct.{Struct}
use Rattle.hir_lowering.specs.Interface.{Interface}
use Rattle.hir_nesting_rules.specs.Chains.{ReachesBy}
use Rattle.hir_nesting_rules.specs.Holding.{HoldsStruct, IsEnabledStruct}

pub record StructContainsItself (it : Interface) (place : ItemPlace) (owner : Module) (declared : Struct) : Type 0 where
  pub is : IsEnabledStruct it place owner declared
  pub reaches : ReachesBy (HoldsStruct it) place place
