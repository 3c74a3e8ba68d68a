-- Types that are numbered one after another.
use Rattle.std.proofs.Common.{◌≡◌, ℕ, ◌+◌, ◌<◌, List, [], ◌∷◌, ◌++◌, length, map, drop, get_or, Ok, Err, Result, refl, sym, ap, subst, ◌∙◌, append_assoc}
use Rattle.std.proofs.lemmas.List.{drop_more, append-nil}
use Rattle.hir_elide.specs.Occurrences.{Signature}
use Rattle.hir_number.specs.declared.fault.NumberFault.{NumberFault}
use Rattle.hir_number.specs.declared.fault.NumberFault.TheVariants as fault
use Rattle.hir_number.specs.inside.Threads.{RunTells, Run, run_next, given, in_order, Comes, Meets}

-- what is still to come after some are made
abbrev pub onward : {A : Type 0} → List A → List (Run A) → Signature → Result (List A × Signature) NumberFault
onward made runs s = run_next (in_order runs s) (λ xs. given (made ++ xs))

-- a loop over these has come so far
pub record SoFar {A : Type 0} (stands : Signature → Type 0) (whole : Result (List A × Signature) NumberFault) (made : List A) (runs : List (Run A)) : Type 0 where
  pub at : Signature
  pub stood : stands at
  pub same : whole ≡ onward made runs at

join : {A : Type 0} (made : List A) (x : A) (r : Result (List A × Signature) NumberFault)
    → run_next (run_next r (λ xs. given (x ∷ xs))) (λ xs. given (made ++ xs)) ≡ run_next r (λ xs. given ((made ++ x ∷ []) ++ xs))
join made x (Ok both) = ap (λ l. Ok (l, both.1)) (sym (append_assoc made (x ∷ []) both.0))
join made x (Err e) = refl

step : {A : Type 0} (made : List A) (x : A) (rest : List (Run A)) (r : Result (A × Signature) NumberFault) (now : Signature → Type 0)
    → Comes now x r → (at : Signature) × now at × (run_next (run_next r (λ y. λ s. run_next (in_order rest s) (λ ys. given (y ∷ ys)))) (λ xs. given (made ++ xs)) ≡ onward (made ++ x ∷ []) rest at)
step made x rest (Ok both) now comes = (
  both.1,
  comes.1,
  ap (λ y. run_next (run_next (in_order rest both.1) (λ ys. given (y ∷ ys))) (λ xs. given (made ++ xs))) (sym comes.0) ∙ join made x (in_order rest both.1),
)
step made x rest (Err e) now comes = absurd comes

-- one more
pub goes_on : {A : Type 0} (stands now : Signature → Type 0) (whole : Result (List A × Signature) NumberFault) (made : List A) (run : Run A) (rest : List (Run A)) (x : A)
    → SoFar stands whole made (run ∷ rest) → ((s : Signature) → stands s → Comes now x (run s)) → SoFar now whole (made ++ x ∷ []) rest
goes_on stands now whole made run rest x far comes =
    let next = step made x rest (run far.at) now (comes far.at far.stood) in
    record { at = next.0; stood = next.1; same = far.same ∙ next.2 }

pub told_on : {A B : Type 0} (e : NumberFault) (r : Result (A × Signature) NumberFault) (next : A → Run B) → RunTells e r → RunTells e (run_next r next)
told_on fault.NoMemory r next h = tt
told_on fault.UnresolvedPath r next h = ap (λ q. run_next q next) h
told_on fault.LifetimeArity r next h = ap (λ q. run_next q next) h
told_on (fault.Elide e) r next h = ap (λ q. run_next q next) h

-- a fault of one is that of all
pub stops : {A : Type 0} (stands : Signature → Type 0) (whole : Result (List A × Signature) NumberFault) (made : List A) (run : Run A) (rest : List (Run A)) (e : NumberFault)
    → SoFar stands whole made (run ∷ rest) → ((s : Signature) → stands s → RunTells e (run s)) → RunTells e whole
stops stands whole made run rest e far told =
    subst (RunTells e) (sym far.same) (told_on e (in_order (run ∷ rest) far.at) (λ xs. given (made ++ xs))
    (told_on e (run far.at) (λ y. λ s. run_next (in_order rest s) (λ ys. given (y ∷ ys))) (told far.at far.stood)))

-- all are made
pub ends : {A : Type 0} (stands : Signature → Type 0) (whole : Result (List A × Signature) NumberFault) (made : List A) → SoFar stands whole made [] → Comes stands made whole
ends stands whole made far = subst (Comes stands made) (sym far.same) (sym (append-nil made), far.stood)

-- what a loop over a list is about to make
pub next_of : {T A : Type 0} (f : T → Run A) (ts : List T) (i : ℕ) (t : T) → i < length ts → t ≡ get_or ts i t → map f (drop i ts) ≡ f t ∷ map f (drop (i + 1) ts)
next_of f ts i t within is = ap (map f) (drop_more ts i t within) ∙ ap (λ u. f u ∷ map f (drop (i + 1) ts)) (sym is)

-- ---- one part after another

-- a part came to a value, and what comes after it
pub meets_next : {A B : Type 0} (stands last : Signature → Type 0) (x : A) (r : Result (A × Signature) NumberFault) (next : A → Run B) (out : Result B NumberFault)
    → Comes stands x r → ((s : Signature) → stands s → Meets last out (next x s)) → Meets last out (run_next r next)
meets_next stands last x (Ok both) next out comes more = subst (λ y. Meets last out (next y both.1)) comes.0 (more both.1 comes.1)
meets_next stands last x (Err e) next out comes more = absurd comes

-- a part has a fault
pub meets_fault : {A B : Type 0} (last : Signature → Type 0) (e : NumberFault) (r : Result (A × Signature) NumberFault) (next : A → Run B) → RunTells e r → Meets {A = B} last (Err e) (run_next r next)
meets_fault last e r next told = told_on e r next told
