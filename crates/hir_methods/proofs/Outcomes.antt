-- Results that are Ok.
use Rattle.std.proofs.Common.{◌≡◌, List, Option, Result, Ok, Err, refl, sym, ap, subst}
use Rattle.std.specs.Prelude.{IfOk, OnErr, OnOk}
use Rattle.hir_mark_contexts.proofs.Stores.{added_keeps}
use Rattle.hir_reports.specs.Store.{Held, Keeps, added}
use Rattle.hir_reports.specs.declared.report.LoweringError.{LoweringError}
use Rattle.hir_methods.specs.Choosing.{beside, paired}

-- what holds is what holds where a result is Ok
pub always : {A E P : Type 0} (r : Result A E) → P → OnOk r P
always (Ok x) p = p
always (Err e) p = tt

pub and_so : {A E P Q : Type 0} (r : Result A E) → (P → Q) → OnOk r P → OnOk r Q
and_so (Ok x) f p = f p
and_so (Err e) f p = tt

pub and_so_of : {A E : Type 0} {P Q : A → Type 0} (r : Result A E) → ((x : A) → P x → Q x) → IfOk r P → IfOk r Q
and_so_of (Ok x) f p = f x p
and_so_of (Err e) f p = tt

-- where both were made beside each other, the second was made
abbrev value_of : {A E : Type 0} → A → Result A E → A
value_of d (Ok x) = x
value_of d (Err e) = d

pub made_beside :
    {A B E : Type 0} (first : Option A) (r : Result (Option B) E) (parts : Option (A × B)) → Ok parts ≡ beside first r
    → (second : Option B) × (r ≡ Ok second) × (parts ≡ paired first second)
made_beside first (Ok second) parts is = (second, refl, ap (value_of parts) is)
made_beside first (Err e) parts is = absurd cc

-- what follows under a premise
pub under : {A E N : Type 0} (P : A → Type 0) (r : Result A E) → (N → IfOk r P) → IfOk r (λ x. N → P x)
under P (Ok x) f = f
under P (Err e) f = tt

-- what follows of each value that is Ok
pub and_on : {A E Q : Type 0} {P : A → Type 0} (r : Result A E) → ((x : A) → P x → Q) → IfOk r P → OnOk r Q
and_on (Ok x) f p = f x p
and_on (Err e) f p = tt

-- what tells something, or leaves all as it was, keeps what was held
pub kept_of :
    {A E : Type 0} (r : Result A E) (old new : Held) (errors : List LoweringError) → OnOk r (new ≡ added old errors) → OnErr r (new ≡ old) → (earlier : Held) → Keeps earlier old
    → Keeps earlier new
kept_of (Ok x) old new errors told same earlier keeps = subst (Keeps earlier) (sym told) (added_keeps earlier old errors keeps)
kept_of (Err e) old new errors told same earlier keeps = subst (Keeps earlier) (sym same) keeps
