-- The last parameter of a list.
use Rattle.std.proofs.Common.{◌≡◌, List, [], ◌∷◌, ◌++◌, refl, sym, ap, ◌∙◌}
use Rattle.bridge_decl.specs.declared.methods.Param.{Param}
use Rattle.hir_methods.specs.Writers.{trailing_writer, written_through}

last_of : (rest : List Param) (last : Param) → trailing_writer (rest ++ last ∷ []) ≡ written_through last
last_of [] last = refl
last_of (x ∷ []) last = refl
last_of (x ∷ y ∷ rest) last = last_of (y ∷ rest) last

-- what is written through it
pub last_written : (params rest : List Param) (last : Param) → params ≡ rest ++ last ∷ [] → written_through last ≡ trailing_writer params
last_written params rest last is = sym (ap trailing_writer is ∙ last_of rest last)
