-- What is made of parts, where nothing is told of any.
use Rattle.std.proofs.Common.{ℕ, List, ◌++◌, Option, Some, ap, ◌∙◌}
use Rattle.hir_docs.specs.declared.docs.Docs.{Docs}
use Rattle.hir_heads.specs.Told.{MadeUnlessTold}
use Rattle.hir_life.specs.Environment.{Environment}
use Rattle.hir_number.proofs.ElisionLemmas.{none_of}
use Rattle.hir_reports.specs.declared.report.LoweringError.{LoweringError}
use Rattle.hir_traits.specs.declared.heads.NamedParam.{NamedParam}
use Rattle.hir_traits.specs.inside.Parts.{both_names, method_headed}

-- a method has a name and parameters
pub headed_made :
    (docs : Docs) (x : List ℕ) (ps : List NamedParam) (ds ns ls es : List LoweringError) (name : Option (List ℕ)) (params : Option (List NamedParam)) → MadeUnlessTold ns x name
    → MadeUnlessTold es ps params → MadeUnlessTold (ds ++ ns ++ ls ++ es) (record { docs = docs; name = x; params = ps }) (method_headed docs name params)
headed_made docs x ps ds ns ls es name params one other = λ none.
    let last = none_of (ds ++ ns ++ ls) es none in
    let first = (none_of ds ns (none_of (ds ++ ns) ls last.0).0).1 in
    ap (λ n. method_headed docs n params) (one first) ∙ ap (method_headed docs (Some x)) (other last.1)

-- a trait has a name and lifetimes
pub names_made :
    (x : List ℕ) (env : Environment) (ns ls : List LoweringError) (name : Option (List ℕ)) (lifetimes : Option Environment) → MadeUnlessTold ns x name → MadeUnlessTold ls env lifetimes
    → MadeUnlessTold (ns ++ ls) (record { name = x; lifetimes = env }) (both_names name lifetimes)
names_made x env ns ls name lifetimes one other = λ none.
    let parts = none_of ns ls none in
    ap (λ n. both_names n lifetimes) (one parts.0) ∙ ap (both_names (Some x)) (other parts.1)
