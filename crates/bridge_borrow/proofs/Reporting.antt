-- Reports of callables, from what is found of their methods.
use Rattle.std.proofs.Common.{◌≡◌, ◌<◌, ◌≤◌, ◌+◌, ◌++◌, inl, ℕ, zero, suc, List, [], ◌∷◌, map, take, length, get_or, Option, Some, None, refl, sym, ap, subst, ◌∙◌, slice_get}
use Rattle.std.specs.Prelude.{◌↔◌, IsSome, false, is_some, option_and_then}
use Rattle.std.specs.List.{AllZip, Contains}
use Rattle.std.proofs.lemmas.List.{append_assoc, take_all, take_more}
use Rattle.hir_borrowing_params.specs.Edges.{HeldFor}
use Rattle.hir_borrowing_params.specs.Keys.{IsStart}
use Rattle.hir_borrowing_params.specs.Slices.{IsKept}
use Rattle.hir_borrowing_params.specs.Visitors.{kept_under}
use Rattle.hir_borrowing_params.specs.declared.visitor.BorrowingParamVisitor.{BorrowingParamVisitor}
use Rattle.hir_context.specs.Fitness.{MethodFits}
use Rattle.hir_context.specs.Lookups.{DefinedType, defined_at, type_methods}
use Rattle.hir_context.specs.declared.context.TypeContext.{TypeContext}
use Rattle.hir_context.specs.declared.parts.Definitions.{Definitions}
use Rattle.hir_definitions.specs.declared.methods.Method.{Method}
use Rattle.hir_ids.specs.declared.ids.TypeId.{TypeId}
use Rattle.hir_reports.specs.declared.places.ErrorContext.{ErrorContext}
use Rattle.hir_skeleton.proofs.Members.{first_is_there, later_is_there}
use Rattle.hir_skeleton.specs.NamedLeaves.{NamedLeaf, borrowing_leaves}
use Rattle.hir_types.specs.Named.{ListsNumbers, lifetimes_named}
use Rattle.bridge_report.proofs.There.{callable_is}
use Rattle.bridge_report.specs.Borrowings.{IsReported, IsReturned}
use Rattle.bridge_report.specs.Callables.{Callable}
use Rattle.bridge_report.specs.InContext.{callable_at, callable_of, callables, method_at, receiver_name}
use Rattle.bridge_report.specs.declared.report.CallableId.{CallableId}
use Rattle.bridge_report.specs.declared.report.CallableId.TheVariants as callable
use Rattle.bridge_report.specs.declared.report.CallableReport.{CallableReport}
use Rattle.bridge_report.specs.declared.report.ReturnedLifetime.{ReturnedLifetime}
use Rattle.bridge_borrow.specs.inside.Returned.{IsListedUnder, KeepsLonger}
use Rattle.bridge_borrow.proofs.Leafing.{same_paths}

-- ---- lists

pub zip_more : {A B : Type 0} (R : A → B → Type 0) (xs : List A) (ys : List B) (x : A) (y : B) → AllZip R xs ys → R x y → AllZip R (xs ++ x ∷ []) (ys ++ y ∷ [])
zip_more R [] [] x y all one = (one, tt)
zip_more R [] (z ∷ zs) x y all one = absurd all
zip_more R (z ∷ zs) [] x y all one = absurd all
zip_more R (a ∷ xs) (b ∷ ys) x y all one = (all.0, zip_more R xs ys x y all.1 one)

zip_to : {A B : Type 0} (R S : A → B → Type 0) → ((x : A) (y : B) → R x y → S x y) → (xs : List A) (ys : List B) → AllZip R xs ys → AllZip S xs ys
zip_to R S step [] [] all = tt
zip_to R S step [] (y ∷ ys) all = absurd all
zip_to R S step (x ∷ xs) [] all = absurd all
zip_to R S step (x ∷ xs) (y ∷ ys) all = (step x y all.0, zip_to R S step xs ys all.1)

got_is_there : {A : Type 0} (xs : List A) (k : ℕ) (x : A) → slice_get xs k ≡ Some x → Contains xs x
got_is_there [] k x at = absurd cc
got_is_there (y ∷ ys) zero x at = subst (λ z. Contains (y ∷ ys) z) (same y x at) (first_is_there y ys) where
  same : {A : Type 0} (y x : A) → Some y ≡ Some x → y ≡ x
  same y x e = cc
got_is_there (y ∷ ys) (suc k) x at = later_is_there y x ys (got_is_there ys k x at)

pub middle_is_there : {A : Type 0} (done rest : List A) (x : A) → Contains (done ++ x ∷ rest) x
middle_is_there [] rest x = first_is_there x rest
middle_is_there (y ∷ ys) rest x = later_is_there y x (ys ++ x ∷ rest) (middle_is_there ys rest x)

-- ---- the method of a callable fits

followed : {A B : Type 0} (f : A → Option B) (o : Option A) (y : B) → option_and_then f o ≡ Some y → (x : A) × (o ≡ Some x) × (f x ≡ Some y)
followed f None y there = absurd cc
followed f (Some x) y there = (x, refl, there)

module _ (tcx : TypeContext) where
  pub method_fits : ((place : ℕ) (m : Method) → slice_get tcx.definitions.functions.defs place ≡ Some m → MethodFits tcx.definitions m)
      → ((id : TypeId) (def : DefinedType) (m : Method) → defined_at tcx.definitions id ≡ Some def → Contains (type_methods def) m → MethodFits tcx.definitions m)
      → (id : CallableId) (m : Method) → method_at tcx.definitions id ≡ Some m → MethodFits tcx.definitions m
  method_fits functions methods (callable.Method id number) m at =
      let w = followed (λ def. slice_get (type_methods def) number) (defined_at tcx.definitions id) m at in
      methods id w.0 m w.1 (got_is_there (type_methods w.0) number m w.2)
  method_fits functions methods (callable.Function number) m at = functions number m at

-- ---- the visitor keeps what the return names

kept_there : {A : Type 0} (o : Option A) → IsSome o → (x : A) × (o ≡ Some x)
kept_there None there = absurd cc
kept_there (Some x) there = (x, refl)

pub keeps_named : (defs : Definitions) (m : Method) (visitor : BorrowingParamVisitor) (numbers : List ℕ)
    → ((t : ℕ) → (IsSome (kept_under visitor t) ↔ IsKept defs m false t)) → ((t : ℕ) (h : HeldFor) → kept_under visitor t ≡ Some h → IsStart m.lifetime_env t h)
    → ListsNumbers numbers (lifetimes_named m.output) → (t : ℕ) → Contains numbers t → KeepsLonger m.lifetime_env visitor t
keeps_named defs m visitor numbers keys starts lists t among =
    let h = kept_there (kept_under visitor t) ((keys t).1 (inl ((lists.members t).0 among))) in
    record { kept = h.0; there = h.1; start = starts t h.0 h.1 }

-- ---- reports

-- what is returned so far, and then the lifetimes that are left; after one more
pub under_next : (m : Method) (fields : List NamedLeaf) (numbers left rest : List ℕ) (t : ℕ) (returned after : List ReturnedLifetime) (one : ReturnedLifetime)
    → left ≡ t ∷ rest → after ≡ returned ++ one ∷ [] → IsListedUnder m fields one t
    → (done : List ℕ) × (done ++ left ≡ numbers) × AllZip (IsListedUnder m fields) returned done
    → (done : List ℕ) × (done ++ rest ≡ numbers) × AllZip (IsListedUnder m fields) after done
under_next m fields numbers left rest t returned after one steps is under w = (
  w.0 ++ t ∷ [],
  append_assoc w.0 (t ∷ []) rest ∙ ap (λ l. w.0 ++ l) (sym steps) ∙ w.1,
  subst (λ rs. AllZip (IsListedUnder m fields) rs (w.0 ++ t ∷ [])) (sym is) (zip_more (IsListedUnder m fields) returned w.0 one t w.2 under),
)

module _ (defs : Definitions) (id : CallableId) (m : Method) (name : List ℕ) (numbers : List ℕ) (report : CallableReport) where
  under_returned : (at : ErrorContext) (returned : ReturnedLifetime) (t : ℕ) → IsListedUnder m (borrowing_leaves defs name m) returned t
      → IsReturned (callable_of defs id at m) returned t
  under_returned at returned t under = record {
    lifetime = under.lifetime;
    test = under.test;
    tells = under.tells;
    leaves = under.paths ∙ same_paths (is_some m.param_self) under.test defs m name receiver_name;
    edges = under.edges;
  }

  reported_at : (at : ErrorContext) → report.callable ≡ id → ListsNumbers numbers (lifetimes_named m.output)
      → AllZip (IsListedUnder m (borrowing_leaves defs name m)) report.returned numbers → IsReported (callable_of defs id at m) report
  reported_at at called lists all = record {
    callable = called;
    numbers = numbers;
    are = lists;
    each = zip_to (IsListedUnder m (borrowing_leaves defs name m)) (IsReturned (callable_of defs id at m)) (under_returned at) report.returned numbers all;
  }

  -- what is found of the method is a report of its callable
  pub is_reported : report.callable ≡ id → ListsNumbers numbers (lifetimes_named m.output) → AllZip (IsListedUnder m (borrowing_leaves defs name m)) report.returned numbers
      → method_at defs id ≡ Some m → (c : Callable) → callable_at defs id ≡ Some c → IsReported c report
  is_reported called lists all at c is =
      subst (λ d. IsReported d report) (sym (callable_is defs id c m is at)) (reported_at c.place called lists all)

-- ---- lists of reports

module _ (defs : Definitions) where
  -- the report is one of the callable of this id
  abbrev pub ReportsId : CallableId → CallableReport → Type 0
  ReportsId id report = (c : Callable) → callable_at defs id ≡ Some c → IsReported c report

  first_is : (x : Option Callable) (c : Callable) (xs : List (Option Callable)) (cs : List Callable) → x ∷ xs ≡ Some c ∷ map Some cs → x ≡ Some c
  first_is x c xs cs e = cc

  rest_is : (x : Option Callable) (c : Callable) (xs : List (Option Callable)) (cs : List Callable) → x ∷ xs ≡ Some c ∷ map Some cs → xs ≡ map Some cs
  rest_is x c xs cs e = cc

  reported_each : (ids : List CallableId) (cs : List Callable) (reports : List CallableReport) → map (callable_at defs) ids ≡ map Some cs
      → AllZip ReportsId ids reports → AllZip IsReported cs reports
  reported_each [] [] reports are all = by_reports reports all where
    by_reports : (reports : List CallableReport) → AllZip ReportsId [] reports → AllZip IsReported [] reports
    by_reports [] all = tt
    by_reports (r ∷ rs) all = absurd all
  reported_each [] (c ∷ cs) reports are all = absurd cc
  reported_each (id ∷ ids) [] reports are all = absurd cc
  reported_each (id ∷ ids) (c ∷ cs) [] are all = absurd all
  reported_each (id ∷ ids) (c ∷ cs) (r ∷ rs) are all = (
    all.0 c (first_is (callable_at defs id) c (map (callable_at defs) ids) cs are),
    reported_each ids cs rs (rest_is (callable_at defs id) c (map (callable_at defs) ids) cs are) all.1,
  )

  pub are_reported : (ids : List CallableId) (reports : List CallableReport) → map (callable_at defs) ids ≡ map Some (callables defs)
      → (n : ℕ) → length ids ≤ n → AllZip ReportsId (take n ids) reports → AllZip IsReported (callables defs) reports
  are_reported ids reports are n past all =
      reported_each ids (callables defs) reports are (subst (λ xs. AllZip ReportsId xs reports) (take_all n ids past) all)

  pub reports_next : (ids : List CallableId) (i : ℕ) (id : CallableId) (reports : List CallableReport) (report : CallableReport) → i < length ids → id ≡ get_or ids i id
      → AllZip ReportsId (take i ids) reports → ReportsId id report → AllZip ReportsId (take (i + 1) ids) (reports ++ report ∷ [])
  reports_next ids i id reports report within is all one =
      subst (λ xs. AllZip ReportsId xs (reports ++ report ∷ [])) (sym (take_more ids i id within ∙ ap (λ x. take i ids ++ x ∷ []) (sym is)))
      (zip_more ReportsId (take i ids) reports id report all one)
