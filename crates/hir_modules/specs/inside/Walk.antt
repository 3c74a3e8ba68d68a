-- What a walk through modules has read so far.
use Rattle.std.specs.Prelude.{◌≡◌, ℕ, List, Contains, length, slice_get, Some}
use Rattle.bridge_ast.specs.Paths.{IsSubmodule}
use Rattle.bridge_decl.specs.declared.modules.Module.{Module}
use Rattle.hir_attrs.specs.declared.attrs.Attrs.{Attrs}
use Rattle.hir_backends.specs.Backend.{Backend}
use Rattle.hir_modules.specs.ModuleMarks.{module_marks}

-- the marks of the module of a number stand under it
abbrev pub IsRead : Backend → List Module → List Attrs → ℕ → Type 0
IsRead backend modules marks number =
    (m : Module) → slice_get modules number ≡ Some m → slice_get marks number ≡ Some (module_marks backend modules m)

-- those of the module around that of a number
abbrev pub HasAround : Backend → List Module → List Attrs → ℕ → Type 0
HasAround backend modules marks number =
    (outer : ℕ) (name : List ℕ) → IsSubmodule modules outer name number → IsRead backend modules marks outer

-- those of all these numbers, among as many as there are modules
pub record AreRead (backend : Backend) (modules : List Module) (marks : List Attrs) (numbers : List ℕ) : Type 0 where
  pub count : length marks ≡ length modules
  pub each : (number : ℕ) → Contains numbers number → IsRead backend modules marks number
