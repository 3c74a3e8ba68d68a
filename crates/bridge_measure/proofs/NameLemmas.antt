-- Nothing is told of the names of the made declarations.
use Rattle.std.proofs.Common.{◌≡◌, ℕ, ◌^◌, ◌<◌, true, [], ◌∷◌, ◌++◌, refl, ap, arith, ◌∙◌}
use Rattle.std.specs.Prelude.{codes}
use Rattle.std.specs.Char.{is_ascii_alphabetic}
use Rattle.bridge_generate.specs.Generated.{function_name, one_lifetime, struct_name, two_lifetimes}
use Rattle.hir_heads.proofs.NameLemmas.{named}
use Rattle.hir_heads.specs.Heads.{lifetime_errors}
use Rattle.hir_heads.specs.Names.{name_errors}
use Rattle.bridge_measure.proofs.IdentLemmas.{letter_is_identifier, numbered_is_identifier}

-- ---- those with numbers

pub struct_name_fine : (number : ℕ) → number < 2 ^ 64 → name_errors (struct_name number) ≡ []
struct_name_fine number fits = named (struct_name number) (numbered_is_identifier 83 number (omega arith) refl fits)

pub function_name_fine : (number : ℕ) → number < 2 ^ 64 → name_errors (function_name number) ≡ []
function_name_fine number fits = named (function_name number) (numbered_is_identifier 102 number (omega arith) refl fits)

-- ---- letters

letter_fine : (letter : ℕ) → letter < 128 → is_ascii_alphabetic letter ≡ true → name_errors (letter ∷ []) ≡ []
letter_fine letter within is = named (letter ∷ []) (letter_is_identifier letter within is)

pub O_fine : name_errors (codes "O") ≡ []
O_fine = letter_fine 79 (omega arith) refl

pub a_fine : name_errors (codes "a") ≡ []
a_fine = letter_fine 97 (omega arith) refl

pub b_fine : name_errors (codes "b") ≡ []
b_fine = letter_fine 98 (omega arith) refl

pub p_fine : name_errors (codes "p") ≡ []
p_fine = letter_fine 112 (omega arith) refl

pub q_fine : name_errors (codes "q") ≡ []
q_fine = letter_fine 113 (omega arith) refl

pub s_fine : name_errors (codes "s") ≡ []
s_fine = letter_fine 115 (omega arith) refl

pub x_fine : name_errors (codes "x") ≡ []
x_fine = letter_fine 120 (omega arith) refl

-- ---- lifetimes

pub one_lifetime_fine : lifetime_errors one_lifetime ≡ []
one_lifetime_fine = ap (λ errors. errors ++ []) a_fine

pub two_lifetimes_fine : lifetime_errors two_lifetimes ≡ []
two_lifetimes_fine = ap (λ errors. errors ++ (name_errors (codes "b") ++ [])) a_fine ∙ ap (λ errors. errors ++ []) b_fine
