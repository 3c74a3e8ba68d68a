-- What a set tells of the lifetimes that are declared to outlive the one of its number.
use Rattle.std.proofs.Common.{◌≡◌, ◌<◌, ℕ, zero, suc, Bool, List, [], ◌∷◌, length, get_or, Some, slice_get, sym, ap, ◌∙◌, arith}
use Rattle.std.specs.BTreeSet as sorted
use Rattle.std.specs.BTreeSet.{BTreeSet}
use Rattle.std.specs.Ordering.{nat_cmp}
use Rattle.hir_life.specs.Environment.{Environment, longer_of}
use Rattle.hir_validation.specs.Lifetimes.{is_in_list}
use Rattle.hir_validation.specs.inside.Direct.{AreLonger}

get_there : {X : Type 0} (xs : List X) (n : ℕ) (x d : X) → n < length xs → x ≡ get_or xs n d → slice_get xs n ≡ Some x
get_there [] n x d lt is = absurd (omega arith)
get_there (y ∷ xs) zero x d lt is = ap Some (sym is)
get_there (y ∷ xs) (suc n) x d lt is = get_there xs n x d (omega arith) is

pub is_held : (sets : List (BTreeSet ℕ)) (env seen : Environment) (n s l : ℕ) (set : BTreeSet ℕ) (held : Bool) → length sets ≡ env.count → AreLonger env sets → env ≡ seen
    → n ≡ s → s < seen.count → set ≡ get_or sets n set → held ≡ sorted.contains nat_cmp set l → held ≡ is_in_list l (longer_of seen s)
is_held sets env seen n s l set held count each same at lt got answer =
    let counts : env.count ≡ seen.count = ap (λ (e : Environment). e.count) same in
    let within : n < length sets = omega (arith, lt, count, at, counts) in
    answer
    ∙ each n set (get_there sets n set set within got) l
    ∙ ap (λ t. is_in_list l (longer_of env t)) at
    ∙ ap (λ (e : Environment). is_in_list l (longer_of e s)) same
