-- What is printed of reports is the page of the callables.
use Rattle.std.proofs.Common.{◌≡◌, ℕ, zero, suc, ◌<◌, Bool, List, [], ◌∷◌, ◌++◌, length, map, get_or, Some, refl, sym, ap, subst, ◌∙◌}
use Rattle.std.specs.Prelude.{slice_get, codes, decimal, IsSome, is_some}
use Rattle.std.specs.List.{AllZip, flat_map}
use Rattle.std.proofs.lemmas.List.Folds.{flat_map-map}
use Rattle.std.proofs.lemmas.Option.{slice_get_read}
use Rattle.std.proofs.lemmas.Slice.Zip.{AllZip-long}
use Rattle.hir_context.specs.Iterating.{all_types}
use Rattle.hir_context.specs.declared.parts.Definitions.{Definitions}
use Rattle.hir_definitions.specs.declared.methods.Method.{Method}
use Rattle.hir_life.specs.Environment.{Environment}
use Rattle.hir_life.specs.Naming.{printed_name}
use Rattle.hir_mentions.specs.Mentions.{where_any}
use Rattle.hir_reports.specs.declared.places.ErrorContext.{ErrorContext}
use Rattle.hir_skeleton.specs.NamedLeaves.{NamedLeaf}
use Rattle.bridge_report.specs.Borrowings.{AreReported, IsReported, IsReturned, held_edges, leaf_path, listed_leaves, passes}
use Rattle.bridge_report.specs.Callables.{Callable}
use Rattle.bridge_report.specs.InContext.{callable_at, callable_of, callables, method_at}
use Rattle.bridge_report.specs.Page.{IsCallableText, IsPage, IsReturnedText, edge_texts, leaf_text, leaves_line, list_text}
use Rattle.bridge_report.specs.declared.report.CallableId.{CallableId}
use Rattle.bridge_report.specs.declared.report.CallableReport.{CallableReport}
use Rattle.bridge_report.specs.declared.report.ReturnedLifetime.{ReturnedLifetime}
use Rattle.bridge_report.specs.inside.Ids.{ids_of, type_ids}
use Rattle.bridge_report.proofs.Gathered.{gathered_give}
use Rattle.bridge_report.proofs.There.{callable_made}
use Rattle.bridge_page.specs.inside.Printed.{callable_line, callable_text, end_line, leaf_path_text, printed_page, report_edge_text, report_edges_line, returned_text}
use Rattle.bridge_page.proofs.EdgeLemmas.{edges_told}
use Rattle.bridge_page.proofs.InputLemmas.{leaves_told}
use Rattle.bridge_page.proofs.TextLemmas.{list_map}

-- ---- lists side by side

zip_at : {A B : Type 0} (R : A → B → Type 0) (xs : List A) (ys : List B) → AllZip R xs ys → (n : ℕ) (y : B) → slice_get ys n ≡ Some y → (x : A) × R x y
zip_at R [] [] all n y at = absurd cc
zip_at R [] (z ∷ ys) all n y at = absurd all
zip_at R (x ∷ xs) [] all n y at = absurd all
zip_at R (x ∷ xs) (z ∷ ys) all zero y at = let same : z ≡ y = cc in (x, subst (λ y. R x y) same all.0)
zip_at R (x ∷ xs) (z ∷ ys) all (suc n) y at = zip_at R xs ys all.1 n y at

pub zip_made : {A B C : Type 0} (R : A → B → Type 0) (S : A → C → Type 0) (f : B → C) → ((x : A) (y : B) → R x y → S x (f y))
    → (xs : List A) (ys : List B) → AllZip R xs ys → AllZip S xs (map f ys)
zip_made R S f each [] [] all = tt
zip_made R S f each [] (y ∷ ys) all = absurd all
zip_made R S f each (x ∷ xs) [] all = absurd all
zip_made R S f each (x ∷ xs) (y ∷ ys) all = (each x y all.0, zip_made R S f each xs ys all.1)

pub zip_turned : {A B C : Type 0} (R : A → B → Type 0) (S : B → C → Type 0) (f : A → C) → ((x : A) (y : B) → R x y → S y (f x))
    → (xs : List A) (ys : List B) → AllZip R xs ys → AllZip S ys (map f xs)
zip_turned R S f each [] [] all = tt
zip_turned R S f each [] (y ∷ ys) all = absurd all
zip_turned R S f each (x ∷ xs) [] all = absurd all
zip_turned R S f each (x ∷ xs) (y ∷ ys) all = (each x y all.0, zip_turned R S f each xs ys all.1)

first_same : {A : Type 0} (x y : A) (xs ys : List A) → x ∷ xs ≡ y ∷ ys → (x ≡ y) × (xs ≡ ys)
first_same x y xs ys same = (cc, cc)

map_twice : {A B C : Type 0} (f : B → C) (g : A → B) (xs : List A) → map f (map g xs) ≡ map (λ x. f (g x)) xs
map_twice f g [] = refl
map_twice f g (x ∷ xs) = ap (λ ys. f (g x) ∷ ys) (map_twice f g xs)

module _ (defs : Definitions) where
  -- ---- a returned lifetime

  abbrev first_line : Environment → ℕ → List ℕ → List ℕ
  first_line e t leaves = codes "  lifetime " ++ decimal t ++ codes " " ++ printed_name e t ++ codes ":" ++ leaves ++ codes "\n"

  -- of a callable of a method
  module _ (id : CallableId) (place : ErrorContext) (m : Method) where
    abbrev made : Callable
    made = callable_of defs id place m

    leaf_list : (returned : ReturnedLifetime) (test : ℕ → Bool) → returned.leaves ≡ map (λ leaf. leaf_path made.receiver leaf.path) (listed_leaves made test)
        → list_text (leaf_path_text defs m) returned.leaves ≡ list_text leaf_text (listed_leaves made test)
    leaf_list returned test is =
        let leaves = listed_leaves made test in
        let paths = map (λ (leaf : NamedLeaf). leaf_path made.receiver leaf.path) leaves in
        ap (list_text (leaf_path_text defs m)) is ∙ list_map (leaf_path_text defs m) paths
        ∙ ap (list_text (λ text. text)) (map_twice (leaf_path_text defs m) (λ (leaf : NamedLeaf). leaf_path made.receiver leaf.path) leaves ∙ leaves_told defs m (passes test))
        ∙ sym (list_map leaf_text leaves)

    edge_list : (returned : ReturnedLifetime) (test : ℕ → Bool) → returned.edges ≡ held_edges made test
        → list_text (report_edge_text m) returned.edges ≡ list_text (λ text. text) (flat_map (edge_texts test) made.inputs)
    edge_list returned test is =
        ap (list_text (report_edge_text m)) is ∙ list_map (report_edge_text m) (held_edges made test) ∙ ap (list_text (λ text. text)) (edges_told m test)

    returned_made : (returned : ReturnedLifetime) (t : ℕ) → IsReturned made returned t → IsReturnedText made t (returned_text defs m returned)
    returned_made returned t r = record {
      test = r.test;
      tells = r.tells;
      is = ap (λ l. first_line m.lifetime_env l (list_text (leaf_path_text defs m) returned.leaves) ++ report_edges_line m returned) r.lifetime
          ∙ ap (λ text. first_line m.lifetime_env t text ++ report_edges_line m returned) (leaf_list returned r.test r.leaves)
          ∙ ap (λ text. leaves_line made t r.test ++ (codes "  edges:" ++ text ++ codes "\n")) (edge_list returned r.test r.edges);
    }

  returned_is : (id : CallableId) (c : Callable) (m : Method) → c ≡ callable_of defs id c.place m → (returned : ReturnedLifetime) (t : ℕ)
      → IsReturned c returned t → IsReturnedText c t (returned_text defs m returned)
  returned_is id c m is returned t =
      subst (λ c. IsReturned c returned t → IsReturnedText c t (returned_text defs m returned)) (sym is) (returned_made id c.place m returned t)

  -- ---- a callable

  -- a report of the callable of its id
  abbrev pub Known : Callable → CallableReport → Type 0
  Known c report = (callable_at defs report.callable ≡ Some c) × IsReported c report

  callable_is_text : (c : Callable) (report : CallableReport) → Known c report → IsCallableText c (callable_text defs report)
  callable_is_text c report known =
      let w = callable_made defs report.callable c known.0 in
      let m = w.0 in
      let told = known.1 in
      record {
        numbers = told.numbers;
        are = told.are;
        parts = map (returned_text defs m) report.returned;
        each = zip_turned (IsReturned c) (IsReturnedText c) (returned_text defs m) (returned_is report.callable c m w.2) report.returned told.numbers told.each;
        is = ap (λ o. where_any callable_line o ++ where_any (λ m. flat_map (returned_text defs m) report.returned) (method_at defs report.callable)) known.0
            ∙ ap (λ o. callable_line c ++ where_any (λ m. flat_map (returned_text defs m) report.returned) o) w.1
            ∙ ap (λ text. callable_line c ++ text) (sym (flat_map-map (λ part. part) (returned_text defs m) report.returned));
      }

  -- ---- all callables

  known_each : (ids : List CallableId) (cs : List Callable) (reports : List CallableReport) → map (callable_at defs) ids ≡ map Some cs
      → AllZip IsReported cs reports → AllZip Known cs reports
  known_each [] [] [] all told = tt
  known_each [] [] (report ∷ reports) all told = absurd told
  known_each [] (c ∷ cs) reports all told = absurd cc
  known_each (id ∷ ids) [] reports all told = absurd cc
  known_each (id ∷ ids) (c ∷ cs) [] all told = absurd told
  known_each (id ∷ ids) (c ∷ cs) (report ∷ reports) all told =
      let parts = first_same (callable_at defs id) (Some c) (map (callable_at defs) ids) (map Some cs) all in
      let w = callable_made defs id c parts.0 in
      let same : report.callable ≡ id = told.0.callable ∙ ap (λ (c : Callable). c.id) w.2 in
      ((ap (callable_at defs) same ∙ parts.0, told.0), known_each ids cs reports parts.1 told.1)

  pub known : (reports : List CallableReport) → AreReported (callables defs) reports → AllZip Known (callables defs) reports
  known reports told = known_each (ids_of defs) (callables defs) reports (gathered_give defs (flat_map type_ids (all_types defs)) (ids_of defs) refl refl) told

  -- of each report that a loop reads there is a callable
  pub reported_there : (reports : List CallableReport) → AreReported (callables defs) reports → (n : ℕ) (report : CallableReport) → n < length reports
      → report ≡ get_or reports n report → IsSome (callable_at defs report.callable)
  reported_there reports told n report within is =
      ap is_some (zip_at Known (callables defs) reports (known reports told) n report (slice_get_read reports (length reports) n report refl within is)).1.0

  -- the page
  pub page_is : (reports : List CallableReport) → AreReported (callables defs) reports → IsPage (callables defs) (printed_page defs reports)
  page_is reports told = record {
    parts = map (callable_text defs) reports;
    each = zip_made Known IsCallableText (callable_text defs) callable_is_text (callables defs) reports (known reports told);
    is = ap (λ text. text ++ end_line (length reports)) (sym (flat_map-map (λ part. part) (callable_text defs) reports))
        ∙ ap (λ n. flat_map (λ part. part) (map (callable_text defs) reports) ++ end_line n) (AllZip-long IsReported (callables defs) reports told);
  }
