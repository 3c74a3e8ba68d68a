-- Each `Self` among the uses of a type names what its path names.
use Rattle.std.proofs.Common.{◌≡◌, ℕ, List, [], ◌∷◌, map, true, false, Option, Some, None, refl, sym, subst}
use Rattle.std.specs.Prelude.{⊤, option_map}
use Rattle.bridge_decl.specs.declared.lifetimes.Lifetime.{Lifetime}
use Rattle.bridge_decl.specs.declared.methods.Param.{Param}
use Rattle.bridge_decl.specs.declared.methods.SelfParam.{SelfParam}
use Rattle.bridge_decl.specs.declared.types.Mutability.{Mutability}
use Rattle.bridge_decl.specs.declared.types.TypeName.{TypeName, map-TypeName}
use Rattle.bridge_decl.specs.declared.types.TypeName.TheOpen.{TypeName-F}
use Rattle.bridge_decl.specs.declared.types.TypeName.TheFolds.{fold-roll-TypeName, ind-TypeName}
use Rattle.hir_number.specs.Naming.{Definition, Naming, type_found}
use Rattle.hir_number.specs.Signatures.{output_uses, param_uses, receiver_uses}
use Rattle.hir_number.specs.Uses.{Use, One, Path, borrow_uses, concatenated, level_uses, optional_uses, type_uses}
use Rattle.hir_elide.proofs.BelowLemmas.{Each}
use Rattle.hir_number.proofs.FaultLemmas.{each_both}

-- what the segments name, without its kind
abbrev pub named : Naming → List (List ℕ) → Option Definition
named names segments = option_map (λ found. found.0) (type_found (names.type_at segments))

module _ (names : Naming) where
  -- a `Self` names what its path names
  abbrev pub IsNamed : Use → Type 0
  IsNamed (One l) = ⊤
  IsNamed (Path true path found) = found ≡ named names path.segments
  IsNamed (Path false path found) = ⊤

  abbrev AreNamed : List Use → Type 0
  AreNamed us = Each IsNamed us

  pub borrow_named : (b : Option (Lifetime × Mutability)) → AreNamed (borrow_uses b)
  borrow_named None = tt
  borrow_named (Some b) = (tt, tt)

  optional_named : (l : Option Lifetime) → AreNamed (optional_uses l)
  optional_named None = tt
  optional_named (Some l) = (tt, tt)

  abbrev Claim : TypeName → Type 0
  Claim t = AreNamed (type_uses names t)

  each_named : (ys : List ((t : TypeName) × Claim t)) → AreNamed (concatenated (map (type_uses names) (map (λ e. e.0) ys)))
  each_named [] = tt
  each_named (y ∷ ys) = each_both IsNamed (type_uses names y.0) (concatenated (map (type_uses names) (map (λ e. e.0) ys))) y.1 (each_named ys)

  unfoldable Layered : TypeName-F ((t : TypeName) × Claim t) → Type 0
  Layered y = AreNamed (level_uses names (map-TypeName TypeName (List Use) (type_uses names) (map-TypeName ((t : TypeName) × Claim t) TypeName (λ e. e.0) y)))

  layer : (y : TypeName-F ((t : TypeName) × Claim t)) → Layered y
  unfolding Layered
  layer (TypeName-F.Primitive p) = tt
  layer TypeName-F.Ordering = tt
  layer (TypeName-F.Named p) = (tt, tt)
  layer (TypeName-F.SelfType p) = (refl, tt)
  layer (TypeName-F.ImplTrait p) = (tt, tt)
  layer (TypeName-F.Reference l m t) = (tt, t.1)
  layer (TypeName-F.Box t) = t.1
  layer (TypeName-F.Option t d) = t.1
  layer (TypeName-F.Result t e d) = each_both IsNamed (type_uses names t.0) (type_uses names e.0) t.1 e.1
  layer (TypeName-F.Write w) = tt
  layer (TypeName-F.StrReference l e d) = optional_named l
  layer (TypeName-F.StrSlice e d) = tt
  layer (TypeName-F.PrimitiveSlice b p d) = borrow_named b
  layer (TypeName-F.CustomTypeSlice b t d) = each_both IsNamed (borrow_uses b) (type_uses names t.0) (borrow_named b) t.1
  layer (TypeName-F.Function ts t m) = each_both IsNamed (concatenated (map (type_uses names) (map (λ e. e.0) ts))) (type_uses names t.0) (each_named ts) t.1
  layer TypeName-F.Unit = tt

  type_named : (t : TypeName) → Claim t
  unfolding Layered
  type_named = ind-TypeName Claim (λ x y is.
      subst AreNamed (sym (fold-roll-TypeName (List Use) (level_uses names) x))
      (subst (λ z. AreNamed (level_uses names (map-TypeName TypeName (List Use) (type_uses names) z))) is (layer y)))

  pub params_named : (params : List Param) → AreNamed (param_uses names params)
  params_named [] = tt
  params_named (param ∷ params) = each_both IsNamed (type_uses names param.ty) (param_uses names params) (type_named param.ty) (params_named params)

  pub output_named : (output : Option TypeName) → AreNamed (output_uses names output)
  output_named None = tt
  output_named (Some ty) = type_named ty

  pub receiver_named : (receiver : Option SelfParam) → AreNamed (receiver_uses names receiver)
  receiver_named None = tt
  receiver_named (Some receiver) = (refl, tt)
