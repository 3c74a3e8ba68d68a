-- When the parent of a module is missing.
use Rattle.std.specs.Prelude.{◌≡◌}
use Rattle.bridge_ast.specs.declared.fault.EnvFault.{EnvFault}
use Rattle.bridge_ast.specs.declared.fault.EnvFault.TheVariants.{Bad, NoMemory}
use Rattle.bridge_ast.specs.declared.fault.EnvFaultKind.TheVariants.{ParentMissing}

-- the fault is that no earlier module is the one in which a module stands
abbrev pub LacksParent : EnvFault → Type 0
LacksParent (Bad kind at other) = kind ≡ ParentMissing
LacksParent NoMemory = ⊥
