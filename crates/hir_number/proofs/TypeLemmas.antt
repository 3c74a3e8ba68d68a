-- Types of two parts, of which the one is numbered after the other.
use Rattle.std.proofs.Common.{rules, ◌≡◌, ℕ, Option, Ok, Err, Result, sym, ap, subst, ◌∙◌}
use Rattle.bridge_decl.specs.declared.lifetimes.Lifetime.{Lifetime}
use Rattle.bridge_decl.specs.declared.types.Mutability.{Mutability}
use Rattle.bridge_decl.specs.declared.types.StdlibOrDiplomat.{StdlibOrDiplomat}
use Rattle.bridge_decl.specs.declared.types.TypeName.{TypeName, map-TypeName, roll-TypeName}
use Rattle.bridge_decl.specs.declared.types.TypeName as declared
use Rattle.bridge_decl.specs.declared.types.TypeName.TheOpen.{TypeName-F}
use Rattle.bridge_decl.specs.declared.types.TypeName.TheFolds.{fold-roll-TypeName, the_lemmas}
use Rattle.hir_elide.specs.Occurrences.{Signature}
use Rattle.hir_elide.specs.Phases.{Phase}
use Rattle.hir_life.specs.declared.maybe_static.MaybeStatic.{MaybeStatic}
use Rattle.hir_number.specs.declared.fault.NumberFault.{NumberFault}
use Rattle.hir_number.specs.declared.numbered.NumberedType.{NumberedType, roll-NumberedType}
use Rattle.hir_number.specs.declared.numbered.NumberedType as numbered
use Rattle.hir_number.specs.declared.numbered.NumberedType.TheFolds.{the_lemmas as numbered_lemmas}
use Rattle.hir_number.specs.declared.numbered.NumberedType.TheOpen.{NumberedType-F}
use Rattle.hir_number.specs.Naming.{Naming}
use Rattle.hir_number.specs.inside.Threads.{Comes, Run, borrow_run, level_run, type_run, run_next}

-- one part and then another came, and a value is made of both
two_come : {A B C : Type 0} (mid last : Signature → Type 0) (r : Result (A × Signature) NumberFault) (next : Run B) (make : A → B → C) (x : A) (y : B)
    → Comes mid x r → ((u : Signature) → mid u → Comes last y (next u))
    → Comes last (make x y) (run_next r (λ a. λ s. run_next (next s) (λ b. λ t. Ok (make a b, t))))
two_come {A = A} {B = B} {C = C} mid last (Ok both) next make x y comes more =
    subst (λ a. Comes last (make x y) (run_next (next both.1) (λ b. λ t. Ok (make a b, t)))) comes.0 (end (next both.1) (more both.1 comes.1))
  where
    end : (r : Result (B × Signature) NumberFault) → Comes last y r → Comes last (make x y) (run_next r (λ b. λ t. Ok (make x b, t)))
    end (Ok last) h = (ap (make x) h.0, h.1)
    end (Err e) h = absurd h
two_come mid last (Err e) next make x y comes more = absurd comes

result_rolls : (ok err : TypeName) (spelling : StdlibOrDiplomat) → declared.Result ok err spelling ≡ roll-TypeName (TypeName-F.Result ok err spelling)
result_rolls ok err spelling = search (rules, the_lemmas)

slice_rolls : (borrow : Option (Lifetime × Mutability)) (element : TypeName) (spelling : StdlibOrDiplomat) → declared.CustomTypeSlice borrow element spelling ≡ roll-TypeName (TypeName-F.CustomTypeSlice borrow element spelling)
slice_rolls borrow element spelling = search (rules, the_lemmas)

numbered_result_rolls : (i j : NumberedType) (spelling : StdlibOrDiplomat) → roll-NumberedType (NumberedType-F.Result i j spelling) ≡ numbered.Result i j spelling
numbered_result_rolls i j spelling = search (rules, numbered_lemmas)

numbered_slice_rolls : (n : Option (MaybeStatic ℕ × Mutability)) (i : NumberedType) (spelling : StdlibOrDiplomat) → roll-NumberedType (NumberedType-F.CustomTypeSlice n i spelling) ≡ numbered.CustomTypeSlice n i spelling
numbered_slice_rolls n i spelling = search (rules, numbered_lemmas)

module _ (phase : Phase) (names : Naming) (s : Signature) (mid last : Signature → Type 0) where
  -- what comes of a type is what comes of its outermost level
  of_level : (ty : TypeName) (x : TypeName-F TypeName) (n : NumberedType) → ty ≡ roll-TypeName x
      → Comes last n (level_run phase names (map-TypeName TypeName (Run NumberedType) (type_run phase names) x) s) → Comes last n (type_run phase names ty s)
  of_level ty x n is h =
      subst (λ t. Comes last n (type_run phase names t s)) (sym is)
      (subst (λ run. Comes last n (run s)) (sym (fold-roll-TypeName (Run NumberedType) (level_run phase names) x)) h)

  pub result_comes : (ty ok err : TypeName) (spelling : StdlibOrDiplomat) (i j : NumberedType) → ty ≡ declared.Result ok err spelling
      → Comes mid i (type_run phase names ok s) → ((u : Signature) → mid u → Comes last j (type_run phase names err u))
      → Comes last (numbered.Result i j spelling) (type_run phase names ty s)
  result_comes ty ok err spelling i j is comes more =
      subst (λ n. Comes last n (type_run phase names ty s)) (numbered_result_rolls i j spelling)
      (of_level ty (TypeName-F.Result ok err spelling) (roll-NumberedType (NumberedType-F.Result i j spelling)) (is ∙ result_rolls ok err spelling)
      (two_come mid last (type_run phase names ok s) (type_run phase names err) (λ x y. roll-NumberedType (NumberedType-F.Result x y spelling)) i j comes more))

  pub slice_comes : (ty element : TypeName) (borrow : Option (Lifetime × Mutability)) (spelling : StdlibOrDiplomat) (n : Option (MaybeStatic ℕ × Mutability)) (i : NumberedType)
      → ty ≡ declared.CustomTypeSlice borrow element spelling
      → Comes mid n (borrow_run phase borrow s) → ((u : Signature) → mid u → Comes last i (type_run phase names element u))
      → Comes last (numbered.CustomTypeSlice n i spelling) (type_run phase names ty s)
  slice_comes ty element borrow spelling n i is comes more =
      subst (λ m. Comes last m (type_run phase names ty s)) (numbered_slice_rolls n i spelling)
      (of_level ty (TypeName-F.CustomTypeSlice borrow element spelling) (roll-NumberedType (NumberedType-F.CustomTypeSlice n i spelling)) (is ∙ slice_rolls borrow element spelling)
      (two_come mid last (borrow_run phase borrow s) (type_run phase names element) (λ x y. roll-NumberedType (NumberedType-F.CustomTypeSlice x y spelling)) n i comes more))
