-- Declared lifetimes, as the walks over lifetimes see them. The example throughout is `fn f<'a, 'b: 'a>(x: &u8)`.
use Rattle.std.specs.Prelude.{length, map, All}
use Rattle.bridge_decl.specs.declared.lifetimes.LifetimeEnv.{LifetimeEnv}
use Rattle.bridge_decl.specs.declared.lifetimes.LifetimeNode.{LifetimeNode}
use Rattle.bridge_text.specs.Ident.{IsIdent}
use Rattle.hir_life.specs.Environment.{Environment}
use Rattle.hir_life.specs.declared.bounds.BoundedLifetime.{BoundedLifetime}

-- a declared lifetime with its bounds: that of a has b among its longer ones
abbrev pub bounded : LifetimeNode → BoundedLifetime
bounded node = record { ident = node.name; longer = node.longer; shorter = node.shorter }

-- the declared lifetimes, and no anonymous ones: a and b
abbrev pub declared_environment : LifetimeEnv → Environment
declared_environment env = record { bounds = map bounded env.nodes; count = length env.nodes }

-- each name of a declared lifetime is an identifier
abbrev pub HasIdents : LifetimeEnv → Type 0
HasIdents env = All (λ node. IsIdent node.name) env.nodes
