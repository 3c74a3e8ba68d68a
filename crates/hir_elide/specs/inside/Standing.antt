-- What the lowerers keep of a signature as far as it was gone through.
use Rattle.std.specs.Prelude.{◌≡◌, ℕ, true, false, List, [], map, Option, Some, None, Ok}
use Rattle.bridge_decl.specs.Lifetimes.{lifetime_names}
use Rattle.hir_elide.specs.declared.definition.DefinitionLowerer.{DefinitionLowerer}
use Rattle.hir_elide.specs.declared.numbering.Numbering.{Numbering}
use Rattle.hir_elide.specs.declared.params.ParamLifetimeLowerer.{ParamLifetimeLowerer}
use Rattle.hir_elide.specs.declared.returns.ReturnLifetimeLowerer.{ReturnLifetimeLowerer}
use Rattle.hir_elide.specs.declared.self_param.SelfParamLifetimeLowerer.{SelfParamLifetimeLowerer}
use Rattle.bridge_text.specs.NameIndex.{Indexes}
use Rattle.hir_elide.specs.Occurrences.{Signature, is_borrow, is_counting, is_own, used_as}
use Rattle.hir_elide.specs.Signature.{environment_of}
use Rattle.hir_elide.specs.inside.Sources.{IsSource}
use Rattle.hir_life.specs.declared.maybe_static.MaybeStatic.{MaybeStatic}

-- the generics of `Self`, where it was met
abbrev pub IsOwn : Option (List (MaybeStatic ℕ)) → Signature → Type 0
IsOwn None s = (s.has_self ≡ false) × (used_as is_own s ≡ [])
IsOwn (Some numbers) s = (s.has_self ≡ true) × (used_as is_own s ≡ map Ok numbers)

-- the places of the declared names, and the environment of the lifetimes that have a number
pub record Numbers (it : Numbering) (s : Signature) : Type 0 where
  pub names : Indexes it.names (lifetime_names s.declared)
  pub lifetimes : it.lifetimes ≡ environment_of s

-- nothing was used so far
pub record AtReceiver (it : SelfParamLifetimeLowerer) (s : Signature) : Type 0 where
  pub numbers : Numbers it.base s
  pub own : IsOwn it.base.own s
  pub unused : s.occurrences ≡ []

-- the receiver was gone through
pub record AtParameters (it : ParamLifetimeLowerer) (s : Signature) : Type 0 where
  pub numbers : Numbers it.base s
  pub own : IsOwn it.base.own s
  pub source : IsSource it.source (used_as is_borrow s) (used_as is_counting s)

-- the parameters were gone through
pub record AtReturn (it : ReturnLifetimeLowerer) (s : Signature) : Type 0 where
  pub numbers : Numbers it.base s
  pub own : IsOwn it.base.own s
  pub source : IsSource it.source (used_as is_borrow s) (used_as is_counting s)

-- a definition has nothing but its declared lifetimes
abbrev pub InDefinition : DefinitionLowerer → Signature → Type 0
InDefinition it s = it.env.now ≡ s.declared
