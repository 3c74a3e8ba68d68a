-- What is told of a receiver, where it is a struct.
use Rattle.std.proofs.Common.{◌≡◌, Option, Some, slice_get, refl, sym, subst}
use Rattle.bridge_telling.specs.Telling.{TellsExactly}
use Rattle.bridge_telling.proofs.ExactLemmas.{in_none}
use Rattle.hir_context.specs.Lookups.{InputStruct}
use Rattle.hir_context.specs.Lookups as defined
use Rattle.hir_context.specs.declared.parts.Definitions.{Definitions}
use Rattle.hir_definitions.specs.declared.methods.ParamSelf.{ParamSelf}
use Rattle.hir_reports.specs.declared.report.LoweringError.{LoweringError}
use Rattle.hir_types.specs.declared.paths.StructPath.{StructPath}
use Rattle.hir_types.specs.declared.self_types.SelfType.{SelfType}
use Rattle.hir_types.specs.declared.self_types.SelfType.TheVariants as receiver
use Rattle.hir_validation.specs.Signatures.{receiver_errors, self_type_errors}
use Rattle.hir_validation.specs.Visited.{held_errors}
use Rattle.hir_validation.proofs.ExactlyLemmas.{any_exactly}
use Rattle.hir_validation.proofs.VisitedLemmas.{OfHeld, held_exactly}

module _ (defs : Definitions) where
  abbrev OfPath : StructPath → LoweringError → Type 0
  OfPath path e = (def : InputStruct) × ((slice_get defs.structs.defs path.tcx_id ≡ Some def) × OfHeld path.owner (defined.Struct def) e)

  abbrev HeldSelf : SelfType → LoweringError → Type 0
  HeldSelf ty e = (path : StructPath) × ((ty ≡ receiver.Struct path) × OfPath path e)

  same_path : (p q : StructPath) → receiver.Struct p ≡ receiver.Struct q → p ≡ q
  same_path p q h = cc

  path_exactly : (path : StructPath) → TellsExactly (self_type_errors defs (receiver.Struct path)) (OfPath path)
  path_exactly path =
      any_exactly (λ def. held_errors path.owner (defined.Struct def)) (λ def. OfHeld path.owner (defined.Struct def)) (λ def. held_exactly path.owner (defined.Struct def))
      (slice_get defs.structs.defs path.tcx_id)

  self_exactly : (ty : SelfType) → TellsExactly (self_type_errors defs ty) (HeldSelf ty)
  self_exactly (receiver.Struct path) = λ e. (
    λ h. (path, (refl, (path_exactly path e).0 h)),
    λ h. (path_exactly path e).1 (subst (λ (p : StructPath). OfPath p e) (sym (same_path path h.0 h.1.0)) h.1.1),
  )
  self_exactly (receiver.Opaque path) = λ e. (λ h. absurd (in_none e h), λ h. absurd (never h.0 h.1.0)) where
    never : (p : StructPath) → ¬ (receiver.Opaque path ≡ receiver.Struct p)
    never p h = cc
  self_exactly (receiver.Enum path) = λ e. (λ h. absurd (in_none e h), λ h. absurd (never h.0 h.1.0)) where
    never : (p : StructPath) → ¬ (receiver.Enum path ≡ receiver.Struct p)
    never p h = cc

  abbrev pub HeldReceiver : Option ParamSelf → LoweringError → Type 0
  HeldReceiver self e = (it : ParamSelf) × ((self ≡ Some it) × HeldSelf it.ty e)

  pub held_exactly_at : (self : Option ParamSelf) → TellsExactly (receiver_errors defs self) (HeldReceiver self)
  unfolding receiver_errors
  held_exactly_at self = any_exactly (λ it. self_type_errors defs it.ty) (λ it. HeldSelf it.ty) (λ it. self_exactly it.ty) self
