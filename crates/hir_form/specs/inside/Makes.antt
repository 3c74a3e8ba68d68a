-- What lowering answers.
use Rattle.std.specs.Prelude.{◌≡◌, ⊤, Option, Some, None, Result, Ok, Err}
use Rattle.hir_form.specs.declared.stop.Stop.{Stop}
use Rattle.hir_form.specs.declared.stop.Stop.TheVariants as stop

-- what came is the form, and nothing came where there is none; after want of memory nothing is said
abbrev pub Makes : {A : Type 0} → Result A Stop → Option A → Type 0
Makes (Ok made) form = form ≡ Some made
Makes (Err stop.Refused) form = form ≡ None
Makes (Err stop.NoMemory) form = ⊤
