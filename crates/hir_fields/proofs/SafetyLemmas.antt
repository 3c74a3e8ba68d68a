-- The test of a field's type decides what `IsFfiSafe` says.
use Rattle.std.proofs.Common.{◌≡◌, ℕ, List, [], ◌∷◌, Bool, true, false, refl, ◌∙◌}
use Rattle.std.specs.Prelude.{not, if◌then◌else◌}
use Rattle.std.specs.Bool.{Decides}
use Rattle.bridge_decl.specs.declared.types.StdlibOrDiplomat.{StdlibOrDiplomat}
use Rattle.bridge_decl.specs.declared.types.StdlibOrDiplomat.TheVariants.{Stdlib, Diplomat}
use Rattle.bridge_grid.specs.Returns.{is_pointer}
use Rattle.bridge_grid.specs.Telling.{field_error}
use Rattle.bridge_grid.specs.rules.FfiUnsafe.{IsFfiSafe, LevelFfiSafe}
use Rattle.hir_number.specs.declared.numbered.NumberedType.{NumberedType, out-NumberedType}
use Rattle.hir_number.specs.declared.numbered.NumberedType.TheOpen.{NumberedType-F}
use Rattle.hir_reports.proofs.StoreLaws.{added_nothing}
use Rattle.hir_reports.specs.Store.{Held, added, gained}
use Rattle.hir_fields.specs.Safety.{is_own_spelling, is_safe, is_safe_level, safety_errors}

own_spelling : (d : StdlibOrDiplomat) → Decides (is_own_spelling d) (d ≡ Diplomat)
own_spelling Stdlib = (λ e. absurd cc, λ e. absurd cc)
own_spelling Diplomat = (λ _. refl, λ _. refl)

negated : (b : Bool) → Decides (not b) (b ≡ false)
negated true = (λ e. absurd cc, λ e. absurd cc)
negated false = (λ _. refl, λ _. refl)

level_decided : (x : NumberedType-F NumberedType) → Decides (is_safe_level x) (LevelFfiSafe x)
level_decided (NumberedType-F.Primitive p) = (λ _. tt, λ _. refl)
level_decided NumberedType-F.Ordering = (λ e. absurd cc, λ h. absurd h)
level_decided (NumberedType-F.Named t) = (λ _. tt, λ _. refl)
level_decided (NumberedType-F.SelfType t) = (λ _. tt, λ _. refl)
level_decided (NumberedType-F.ImplTrait t) = (λ _. tt, λ _. refl)
level_decided (NumberedType-F.Reference l m t) = (λ _. tt, λ _. refl)
level_decided (NumberedType-F.Box t) = (λ _. tt, λ _. refl)
level_decided (NumberedType-F.Option t Stdlib) = (λ e. e, λ e. e)
level_decided (NumberedType-F.Option t Diplomat) = negated (is_pointer t)
level_decided (NumberedType-F.Result t e d) = (λ e. absurd cc, λ h. absurd h)
level_decided (NumberedType-F.Write w) = (λ e. absurd cc, λ h. absurd h)
level_decided (NumberedType-F.StrReference l e d) = own_spelling d
level_decided (NumberedType-F.StrSlice e d) = own_spelling d
level_decided (NumberedType-F.PrimitiveSlice b p d) = own_spelling d
level_decided (NumberedType-F.CustomTypeSlice b t d) = own_spelling d
level_decided (NumberedType-F.Function ts t m) = (λ _. tt, λ _. refl)
level_decided NumberedType-F.Unit = (λ e. absurd cc, λ h. absurd h)

pub safety_decided : (ty : NumberedType) → Decides (is_safe ty) (IsFfiSafe ty)
safety_decided ty = level_decided (out-NumberedType ty)

told_by : (b : Bool) (name : List ℕ) (ty : NumberedType) (old new : Held) → Decides b (IsFfiSafe ty) → (IsFfiSafe ty → new ≡ old) → (¬ (IsFfiSafe ty) → new ≡ gained old (field_error name))
    → new ≡ added old (if b then [] else field_error name ∷ [])
told_by true name ty old new d safe other = safe (d.0 refl) ∙ added_nothing old
told_by false name ty old new d safe other = other (λ h. absurd (let e : false ≡ true = d.1 h in cc))

-- what is told of a field by the relation is what is told by the test
pub safety_told : (name : List ℕ) (ty : NumberedType) (old new : Held) → (IsFfiSafe ty → new ≡ old) → (¬ (IsFfiSafe ty) → new ≡ gained old (field_error name))
    → new ≡ added old (safety_errors name ty)
safety_told name ty old new safe other = told_by (is_safe ty) name ty old new (safety_decided ty) safe other
