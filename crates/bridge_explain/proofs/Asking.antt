-- What is asked about, from what was found.
use Rattle.std.proofs.Common.{◌≡◌, ◌<◌, ◌||◌, ℕ, true, false, List, [], ◌∷◌, Option, Some, None, Result, Ok, Err, nat_eq, refl, sym, ap, subst, ◌∙◌}
use Rattle.std.specs.Prelude.{◌↔◌, IfOk, MatchOption}
use Rattle.std.specs.declared.alloc.AllocError.{AllocError}
use Rattle.std.proofs.lemmas.Cmp.{nat_eq_equiv}
use Rattle.std.specs.List.{AllZip, Contains, list_any}
use Rattle.std.specs.Str.{bytes_eq}
use Rattle.std.proofs.lemmas.Bool.{eqb-true}
use Rattle.std.proofs.lemmas.List.Elements.{All-contains}
use Rattle.std.proofs.lemmas.Map.Views.{Contains-from_any, list_any-from_Contains}
use Rattle.hir_borrowing_params.proofs.Returned.{returned_below}
use Rattle.hir_context.specs.Fitness.{MethodFits}
use Rattle.hir_context.specs.declared.parts.Definitions.{Definitions}
use Rattle.hir_definitions.specs.declared.methods.Method.{Method}
use Rattle.hir_explain.specs.Explanations.{IsListed, Proves, SaysListed}
use Rattle.hir_explain.specs.declared.explanations.Explanation.{Explanation}
use Rattle.hir_life.specs.Environment.{Environment}
use Rattle.hir_life.specs.Substitution.{AreBelow}
use Rattle.hir_life.specs.declared.maybe_static.MaybeStatic.{MaybeStatic}
use Rattle.hir_life.specs.declared.maybe_static.MaybeStatic.TheVariants.{NonStatic}
use Rattle.hir_skeleton.specs.NamedLeaves.{NamedLeaf, borrowing_leaves}
use Rattle.hir_types.specs.Named.{ListsNumbers}
use Rattle.bridge_report.proofs.There.{callable_is}
use Rattle.bridge_report.specs.Borrowings.{IsReturned}
use Rattle.bridge_report.specs.Callables.{Callable}
use Rattle.bridge_report.specs.InContext.{callable_of, method_at, receiver_name}
use Rattle.bridge_report.specs.Page.{leaf_text}
use Rattle.bridge_report.specs.declared.report.CallableReport.{CallableReport}
use Rattle.bridge_report.specs.declared.report.ReturnedLifetime.{ReturnedLifetime}
use Rattle.bridge_explain.specs.Inquiry.{Inquiry}
use Rattle.bridge_explain.specs.Explained.{AnswersQuestion, AsksNothing, callable_called, leaf_called}
use Rattle.bridge_explain.specs.inside.Found.{AnswersInside, AsksInside, FindsLeaf, IsReportOf}
use Rattle.bridge_explain.proofs.Carried.{carried_below}
use Rattle.bridge_explain.proofs.Finding.{found_is_there}

any_number : (c : Callable) (n : ℕ) (returned : List ReturnedLifetime) (numbers : List ℕ) → AllZip (IsReturned c) returned numbers
    → list_any (λ r. nat_eq n r.lifetime) returned ≡ list_any (nat_eq n) numbers
any_number c n [] [] all = refl
any_number c n [] (t ∷ ts) all = absurd all
any_number c n (r ∷ rs) [] all = absurd all
any_number c n (r ∷ rs) (t ∷ ts) all = (λ i. nat_eq n (all.0.lifetime i) || any_number c n rs ts all.1 i)

-- ---- of the report of a callable

module _ (defs : Definitions) (report : CallableReport) (c : Callable) (of : IsReportOf defs c report) (n : ℕ) where
  abbrev numbers : List ℕ
  numbers = of.reported.numbers

  same_test : list_any (λ r. nat_eq n r.lifetime) report.returned ≡ list_any (nat_eq n) numbers
  same_test = any_number c n report.returned numbers of.reported.each

  pub not_returned : list_any (λ r. nat_eq n r.lifetime) report.returned ≡ false → (word : List ℕ) (leaf : NamedLeaf) → ¬ (AsksInside c word n leaf)
  not_returned none word leaf = λ asks.
      let among : Contains numbers n = (of.reported.are.members n).1 asks.returned in
      let found : false ≡ true = sym none ∙ same_test ∙ list_any-from_Contains nat_eq_equiv n numbers among in
      absurd cc

  is_number : list_any (λ r. nat_eq n r.lifetime) report.returned ≡ true → Contains numbers n
  is_number some = Contains-from_any eqb-true n numbers (sym same_test ∙ some)

  pub is_returned : list_any (λ r. nat_eq n r.lifetime) report.returned ≡ true → Contains c.named (NonStatic n)
  is_returned some = (of.reported.are.members n).0 (is_number some)

  -- with its method
  module _ (m : Method) (there : method_at defs report.callable ≡ Some m) where
    made : c ≡ callable_of defs report.callable c.place m
    made = callable_is defs report.callable c m of.there there

    pub leaves_are : (name : List ℕ) → name ≡ receiver_name → (leaves : List NamedLeaf) → leaves ≡ borrowing_leaves defs name m → leaves ≡ c.leaves
    leaves_are name is leaves found = found ∙ ap (λ name. borrowing_leaves defs name m) is ∙ sym (ap (λ (c : Callable). c.leaves) made)

    environment_is : m.lifetime_env ≡ c.environment
    environment_is = sym (ap (λ (c : Callable). c.environment) made)

    pub is_below : MethodFits defs m → list_any (λ r. nat_eq n r.lifetime) report.returned ≡ true → n < m.lifetime_env.count
    is_below fits some =
        All-contains (λ t. t < m.lifetime_env.count) numbers n
        (returned_below defs m fits numbers (subst (ListsNumbers numbers) (ap (λ (c : Callable). c.named) made) of.reported.are)) (is_number some)

    -- where the leaf was found
    module _ (name : List ℕ) (is_receiver : name ≡ receiver_name) (leaves : List NamedLeaf) (are : leaves ≡ borrowing_leaves defs name m) (word : List ℕ) where
      pub no_such_leaf : leaf_called word leaves ≡ None → (leaf : NamedLeaf) → ¬ (AsksInside c word n leaf)
      no_such_leaf none leaf = λ asks.
          let never : None ≡ Some leaf = sym none ∙ ap (leaf_called word) (leaves_are name is_receiver leaves are) ∙ asks.is_leaf in
          absurd cc

      module _ (carried : List (MaybeStatic ℕ)) (found : FindsLeaf leaves word carried) where
        pub carries_below : AreBelow m.lifetime_env.count carried
        carries_below =
            subst (AreBelow m.lifetime_env.count) (sym found.carries)
            (All-contains (λ (leaf : NamedLeaf). AreBelow m.lifetime_env.count leaf.carried) (borrowing_leaves defs name m) found.leaf (carried_below defs name m)
            (subst (λ leaves. Contains leaves found.leaf) are (found_is_there (λ (leaf : NamedLeaf). bytes_eq (leaf_text leaf) word) leaves found.leaf found.found)))

        -- what explains it
        pub explains_inside : list_any (λ r. nat_eq n r.lifetime) report.returned ≡ true → (t : ℕ) → t ≡ n → (x : Explanation)
            → Proves m.lifetime_env carried t x → (SaysListed x ↔ IsListed m.lifetime_env carried t) → AnswersInside c word n (Some x)
        explains_inside some t same x proves kind = record {
          leaf = found.leaf;
          about = record { is_leaf = sym (ap (leaf_called word) (leaves_are name is_receiver leaves are)) ∙ found.found; returned = is_returned some };
          proves = at_leaf (λ e ls t. Proves e ls t x) proves;
          kind = at_leaf (λ e ls t. SaysListed x ↔ IsListed e ls t) kind;
        } where
          at_leaf : (P : Environment → List (MaybeStatic ℕ) → ℕ → Type 0) → P m.lifetime_env carried t → P c.environment found.leaf.carried n
          at_leaf P holds =
              subst (λ e. P e found.leaf.carried n) environment_is
              (subst (λ ls. P m.lifetime_env ls n) found.carries (subst (P m.lifetime_env carried) same holds))

-- ---- of all callables

some_same : {A : Type 0} {x y : A} → Some x ≡ Some y → x ≡ y
some_same e = cc

pub answers_inside : (callables : List Callable) (asked : Inquiry) (c : Callable) → callable_called asked.callable callables ≡ Some c → (o : Option Explanation)
    → AnswersInside c asked.leaf asked.lifetime o → AnswersQuestion callables asked o
answers_inside callables asked c is None nothing = λ other leaf about.
    let same : other ≡ c = some_same (sym about.is_callable ∙ is) in
    nothing leaf (record {
      is_leaf = sym (ap (λ (c : Callable). leaf_called asked.leaf c.leaves) same) ∙ about.is_leaf;
      returned = subst (λ (c : Callable). Contains c.named (NonStatic asked.lifetime)) same about.returned;
    })
answers_inside callables asked c is (Some x) explained = record {
  callable = c;
  leaf = explained.leaf;
  about = record { is_callable = is; is_leaf = explained.about.is_leaf; returned = explained.about.returned };
  proves = explained.proves;
  kind = explained.kind;
}

pub answers_all : (defs : Definitions) (report : CallableReport) (callables : List Callable) (asked other : Inquiry) (c : Callable) → IsReportOf defs c report
    → asked ≡ other → callable_called asked.callable callables ≡ Some c → (r : Result (Option Explanation) AllocError)
    → IfOk r (λ o. (c : Callable) → IsReportOf defs c report → AnswersInside c asked.leaf asked.lifetime o) → IfOk r (AnswersQuestion callables other)
answers_all defs report callables asked other c of same is (Ok o) inside =
    subst (λ asked. AnswersQuestion callables asked o) same (answers_inside callables asked c is o (inside c of))
answers_all defs report callables asked other c of same is (Err e) inside = tt

-- what was found, or nothing
module _ {A : Type 0} (P : Type 0) (Q : A → Type 0) where
  pub found_none : (o : Option A) → MatchOption o P Q → o ≡ None → P
  found_none None says is = says
  found_none (Some x) says is = absurd cc

  pub found_some : (o : Option A) (x : A) → MatchOption o P Q → o ≡ Some x → Q x
  found_some None x says is = absurd cc
  found_some (Some y) x says is = subst Q (some_same is) says

pub no_such_callable : (callables : List Callable) (asked other : Inquiry) → asked ≡ other → callable_called asked.callable callables ≡ None → AsksNothing callables other
no_such_callable callables asked other same none =
    subst (AsksNothing callables) same (λ c leaf about. let never : None ≡ Some c = sym none ∙ about.is_callable in absurd cc)
