-- What is asked: why the leaf of that name, of the callable of that name, is listed under the lifetime of that number, or why it isn't.
use Rattle.std.specs.Prelude.{ℕ, List}

pub record Inquiry : Type 0 where
  pub callable : List ℕ
  pub leaf : List ℕ
  pub lifetime : ℕ
