-- What is made of references and names of types, with and without numbers, and what their outermost levels are.
use Rattle.std.proofs.Common.{◌≡◌, sym, ap, ◌∙◌}
use Rattle.bridge_decl.specs.declared.lifetimes.Lifetime.{Lifetime}
use Rattle.bridge_decl.specs.declared.paths.PathType.{PathType}
use Rattle.bridge_decl.specs.declared.types.Mutability.{Mutability}
use Rattle.bridge_decl.specs.declared.types.TypeName.{TypeName, fold-TypeName, out-TypeName, out-roll-TypeName}
use Rattle.bridge_decl.specs.declared.types.TypeName.TheFolds.{fold-roll-TypeName}
use Rattle.bridge_decl.specs.declared.types.TypeName.TheOpen.{TypeName-F}
use Rattle.bridge_decl.specs.declared.types.TypeName.TheVariants as type

module _ {A : Type 0} (step : TypeName-F A → A) where
  pub fold_reference : (l : Lifetime) (m : Mutability) (t : TypeName)
      → fold-TypeName A step (type.Reference l m t) ≡ step (TypeName-F.Reference l m (fold-TypeName A step t))
  fold_reference l m t = ap (fold-TypeName A step) (sym (type.rolls-Reference l m t)) ∙ fold-roll-TypeName A step (TypeName-F.Reference l m t)

  pub fold_named : (p : PathType) → fold-TypeName A step (type.Named p) ≡ step (TypeName-F.Named p)
  fold_named p = ap (fold-TypeName A step) (sym (type.rolls-Named p)) ∙ fold-roll-TypeName A step (TypeName-F.Named p)

pub out_reference : (l : Lifetime) (m : Mutability) (t : TypeName) → out-TypeName (type.Reference l m t) ≡ TypeName-F.Reference l m t
out_reference l m t = ap out-TypeName (sym (type.rolls-Reference l m t)) ∙ out-roll-TypeName (TypeName-F.Reference l m t)

-- a reference to what is named
pub fold_borrowed : {A : Type 0} (step : TypeName-F A → A) (l : Lifetime) (m : Mutability) (p : PathType)
    → fold-TypeName A step (type.Reference l m (type.Named p)) ≡ step (TypeName-F.Reference l m (step (TypeName-F.Named p)))
fold_borrowed step l m p = fold_reference step l m (type.Named p) ∙ ap (λ a. step (TypeName-F.Reference l m a)) (fold_named step p)
