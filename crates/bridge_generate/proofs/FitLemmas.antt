-- The declarations fit together.
use Rattle.std.proofs.Common.{◌≡◌, ℕ, zero, suc, ◌^◌, ◌<◌, [], ◌∷◌, Some, sym, ap, arith, inl}
use Rattle.std.specs.Prelude.{slice_get}
use Rattle.std.specs.List.{All, range_with_len}
use Rattle.std.proofs.lemmas.List.Elements.{All-nil, All-cons, All-append, All-map}
use Rattle.bridge_ast.specs.Sound.{AreSound, HasSoundLifetimes, names_in}
use Rattle.bridge_decl.specs.declared.modules.Item.TheVariants as item
use Rattle.bridge_decl.specs.declared.modules.Module.{Module}
use Rattle.bridge_decl.specs.Lifetimes.{IsSoundEnvironment}
use Rattle.bridge_text.specs.NameIndex.{AreDistinct}
use Rattle.bridge_generate.specs.Generated.{function_numbered, functions_below, generated_items, generated_module, one_lifetime, struct_numbered, structs_below, the_opaque, two_lifetimes}
use Rattle.bridge_generate.proofs.LifetimeLemmas.{none_sound, one_sound, two_sound}
use Rattle.bridge_generate.proofs.NameLemmas.{names_differ}

-- what holds of one holds of each of a list of one
alone : {A : Type 0} (P : A → Type 0) (x : A) → P x → All P (x ∷ [])
alone P x holds = All-cons P x [] holds (All-nil P)

lifetimes_fit : (count : ℕ) → All HasSoundLifetimes (generated_items count)
unfolding structs_below functions_below
lifetimes_fit count =
    All-cons HasSoundLifetimes (item.Opaque the_opaque) _ (alone IsSoundEnvironment the_opaque.lifetimes none_sound)
    (All-append HasSoundLifetimes (structs_below count) (functions_below count)
    (All-map HasSoundLifetimes (λ number. item.Struct (struct_numbered number)) (range_with_len 0 count)
    (λ k d within. alone IsSoundEnvironment one_lifetime one_sound))
    (All-map HasSoundLifetimes (λ number. item.Function (function_numbered number)) (range_with_len 0 count)
    (λ k d within. alone IsSoundEnvironment two_lifetimes two_sound)))

root_alone : (count k : ℕ) (m : Module) → slice_get (generated_module count ∷ []) k ≡ Some m → m.path ≡ []
root_alone count zero m at = let same : generated_module count ≡ m = cc in ap (λ n. n.path) (sym same)
root_alone count (suc k) m at = absurd cc

pub generated_fits : (count : ℕ) → count < 2 ^ 64 → AreSound (generated_module count ∷ [])
generated_fits count fits = record {
  paths = λ i j d before within. absurd (omega arith);
  parents = λ k m at. inl (root_alone count k m at);
  names = alone (λ m. AreDistinct (names_in m)) (generated_module count) (names_differ count fits);
  lifetimes = alone (λ m. All HasSoundLifetimes m.items) (generated_module count) (lifetimes_fit count);
}
