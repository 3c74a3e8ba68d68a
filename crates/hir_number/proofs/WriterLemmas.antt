-- Parameters without the trailing writer.
use Rattle.std.proofs.Common.{◌≡◌, List, [], ◌∷◌, ◌++◌, true, false, Bool, refl, sym, ap, ◌∙◌}
use Rattle.std.specs.Prelude.{if◌then◌else◌}
use Rattle.bridge_decl.specs.declared.methods.Param.{Param}
use Rattle.hir_number.specs.Signatures.{is_writer, without_writer}

first_in : (b : Bool) (x : Param) (xs ys : List Param) → x ∷ (if b then xs else ys) ≡ (if b then x ∷ xs else x ∷ ys)
first_in true x xs ys = refl
first_in false x xs ys = refl

pub without_last : (rest : List Param) (last : Param) → without_writer (rest ++ last ∷ []) ≡ (if is_writer last then rest else rest ++ last ∷ [])
without_last [] last = refl
without_last (x ∷ []) last = first_in (is_writer last) x [] (last ∷ [])
without_last (x ∷ y ∷ rest) last = ap (λ ps. x ∷ ps) (without_last (y ∷ rest) last) ∙ first_in (is_writer last) x (y ∷ rest) ((y ∷ rest) ++ last ∷ [])

-- the last is a writer
pub last_writes : (params rest : List Param) (last : Param) → params ≡ rest ++ last ∷ [] → is_writer last ≡ true → rest ≡ without_writer params
last_writes params rest last is w = sym (ap without_writer is ∙ without_last rest last ∙ ap (λ b. if b then rest else rest ++ last ∷ []) w)

-- it isn't
pub last_stays : (params rest : List Param) (last : Param) → params ≡ rest ++ last ∷ [] → is_writer last ≡ false → params ≡ without_writer params
last_stays params rest last is w = is ∙ sym (ap without_writer is ∙ without_last rest last ∙ ap (λ b. if b then rest else rest ++ last ∷ []) w)
