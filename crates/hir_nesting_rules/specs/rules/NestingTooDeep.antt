-- NestingTooDeep: an enabled struct or out-struct neither reaches itself through fields of enabled structs, nor reaches so a struct or
-- out-struct that does, and its longest such chain, itself counted, is above 256. A disabled struct ends a chain, and counts.
use Rattle.std.specs.Prelude.{ℕ, ◌<◌}
use Rattle.bridge_ast.specs.declared.place.ItemPlace.{ItemPlace}
use Rattle.bridge_decl.specs.declared.modules.Module.{Module}
use Rattle.bridge_decl.specs.declared.structs.Struct.{Struct}
use Rattle.hir_lowering.specs.Interface.{Interface}
use Rattle.hir_nesting_rules.specs.Chains.{IsLongestBy, ReachesBy}
use Rattle.hir_nesting_rules.specs.Holding.{HoldsStruct, IsEnabledStruct}

pub record NestingTooDeep (it : Interface) (place : ItemPlace) (owner : Module) (declared : Struct) : Type 0 where
  pub is : IsEnabledStruct it place owner declared
  pub never : ¬ (ReachesBy (HoldsStruct it) place place)
  pub none : (inner : ItemPlace) → ReachesBy (HoldsStruct it) place inner → ¬ (ReachesBy (HoldsStruct it) inner inner)
  pub count : ℕ
  pub longest : IsLongestBy (HoldsStruct it) place count
  pub above : 256 < count
