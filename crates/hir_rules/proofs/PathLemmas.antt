-- What is told of the paths and the lifetimes of a signature or a definition is what the rules on them say.
use Rattle.std.proofs.Common.{◌≡◌, ◌⊎◌, ◌↔◌, ◌<◌, ℕ, inl, inr, List, [], ◌∷◌, ◌++◌, length, Bool, true, false, ◌&&◌, Option, Some, None, is_some, if◌then◌else◌, refl, sym, subst, ap, ◌∙◌}
use Rattle.std.specs.Prelude.{⊤, Decides, nat_eq, nat_lt}
use Rattle.std.specs.Cmp.Lexicographic.{pointwise}
use Rattle.std.specs.List.{Contains, flat_map}
use Rattle.std.specs.Str.{bytes_eq}
use Rattle.std.proofs.lemmas.Bool.Decides.{Decides-eqb, Decides-ltb}
use Rattle.std.proofs.lemmas.Slice.Eq.{bytes_eq-Decides, slice_eq-Decides}
use Rattle.bridge_ast.specs.declared.place.ItemPlace.{ItemPlace}
use Rattle.bridge_decl.specs.Lifetimes.{lifetime_names}
use Rattle.bridge_decl.specs.declared.functions.Function.{Function}
use Rattle.bridge_decl.specs.declared.lifetimes.Lifetime.{Lifetime}
use Rattle.bridge_decl.specs.declared.lifetimes.Lifetime.TheVariants as written
use Rattle.bridge_decl.specs.declared.lifetimes.LifetimeEnv.{LifetimeEnv}
use Rattle.bridge_decl.specs.declared.methods.Method.{Method}
use Rattle.bridge_decl.specs.declared.paths.PathType.{PathType}
use Rattle.bridge_decl.specs.declared.structs.Struct.{Struct}
use Rattle.bridge_decl.specs.declared.traits.TraitMethod.{TraitMethod}
use Rattle.bridge_text.proofs.NameIndexLemmas.{number_of_none}
use Rattle.bridge_text.specs.NameIndex.{number_of}
use Rattle.bridge_telling.specs.Telling.{TellsExactly}
use Rattle.bridge_telling.specs.inside.Given.{TellsGiven}
use Rattle.bridge_telling.proofs.ExactLemmas.{exactly_both, exactly_each, in_first, in_none, in_one}
use Rattle.hir_elide.specs.Numbering.{most}
use Rattle.hir_number.specs.Breaches.{Anything, At, Broken, Demand, Equal, Nothing, arity_breaches, breaches_of, field_breaches, function_breaches, is_at, method_breaches, own_breaches, same_lifetime, same_path, self_breaches, trait_method_breaches, unknown, unless_own, use_breaches, uses_of, within_limit}
use Rattle.hir_number.specs.Breaches as breach
use Rattle.hir_number.specs.Naming.{Definition, Naming}
use Rattle.hir_number.specs.Signatures.{field_uses, function_uses, method_uses, output_uses, param_uses, trait_borrow, trait_receiver_uses}
use Rattle.hir_number.specs.Uses.{One, Path, Use, borrow_uses, type_use}
use Rattle.hir_rules.specs.Paths.{FieldPathsBreak, FunctionPathsBreak, LimitedBreak, MethodPathsBreak, TraitMethodPathsBreak, UseBreaks, UsesBreak, WrittenBreak}
use Rattle.hir_rules.specs.rules.LifetimeArity.{LifetimeArity}
use Rattle.hir_rules.specs.rules.LifetimeUnknown.{LifetimeUnknown}
use Rattle.hir_rules.specs.rules.SelfMismatch.{IsOther, SelfMismatch}
use Rattle.hir_rules.specs.rules.TooManyLifetimes.{DeclaresTooMany}
use Rattle.hir_rules.specs.rules.UnresolvedPath.{UnresolvedPath}

pub not_false : ¬ (false ≡ true)
not_false h = cc

-- ---- one lifetime

is_none : {A : Type 0} (x : A) → ¬ (None ≡ Some x)
is_none x h = cc

named_exactly : (names : List (List ℕ)) (name : List ℕ) (o : Option ℕ) → number_of names name ≡ o
    → TellsExactly (if is_some o then [] else breach.LifetimeUnknown name ∷ []) (LifetimeUnknown names (written.Named name))
named_exactly names name None e b = (
  λ h. (name, (refl, ((number_of_none names name).0 e, in_one (breach.LifetimeUnknown name) b h))),
  λ h. subst (λ y. Contains (breach.LifetimeUnknown name ∷ []) y) (cc (h.1.0, h.1.1.1)) (in_first (breach.LifetimeUnknown name) []),
)
named_exactly names name (Some place) e b = (
  λ h. absurd (in_none b h),
  λ h. absurd (is_none place (sym ((number_of_none names name).1 (λ c. h.1.1.0 (subst (Contains names) (cc (h.1.0)) c))) ∙ e)),
)

pub unknown_exactly : (names : List (List ℕ)) (l : Lifetime) → TellsExactly (unknown names l) (LifetimeUnknown names l)
unknown_exactly names written.Static b = (λ h. absurd (in_none b h), λ h. absurd (cc (h.1.0)))
unknown_exactly names (written.Named name) b = named_exactly names name (number_of names name) refl b
unknown_exactly names written.Anonymous b = (λ h. absurd (in_none b h), λ h. absurd (cc (h.1.0)))

written_exactly : (names : List (List ℕ)) (ls : List Lifetime) → TellsExactly (flat_map (unknown names) ls) (WrittenBreak names ls)
written_exactly names ls = exactly_each (unknown names) (λ l b. LifetimeUnknown names l b) (unknown_exactly names) ls

-- ---- a path as one to a definition

same_definition : (one other : Definition) → Some one ≡ Some other → one ≡ other
same_definition one other h = cc

few_exactly : (found : Definition) (path : PathType) (b : Bool) → Decides b (found.count < length path.lifetimes)
    → TellsExactly (if b then breach.LifetimeArity path ∷ [] else []) (λ x. UnresolvedPath (Some found) path x ⊎ LifetimeArity (Some found) path x)
few_exactly found path true d x = (
  λ h. inr (found, (refl, (d.0 refl, in_one (breach.LifetimeArity path) x h))),
  λ h. elim h [
    | inl c ↦ absurd (is_none found (sym c.0))
    | inr c ↦ subst (λ y. Contains (breach.LifetimeArity path ∷ []) y) (sym c.1.1.1) (in_first (breach.LifetimeArity path) [])
  ],
)
few_exactly found path false d x = (
  λ h. absurd (in_none x h),
  λ h. elim h [
    | inl c ↦ absurd (is_none found (sym c.0))
    | inr c ↦ absurd (not_false (d.1 (subst (λ (y : Definition). y.count < length path.lifetimes) (sym (same_definition found c.0 c.1.0)) c.1.1.0)))
  ],
)

pub arity_exactly : (found : Option Definition) (path : PathType) → TellsExactly (arity_breaches found path) (λ b. UnresolvedPath found path b ⊎ LifetimeArity found path b)
arity_exactly None path b = (
  λ h. inl (refl, in_one (breach.UnresolvedPath path) b h),
  λ h. elim h [
    | inl c ↦ subst (λ y. Contains (breach.UnresolvedPath path ∷ []) y) (sym c.1) (in_first (breach.UnresolvedPath path) [])
    | inr c ↦ absurd (is_none c.0 c.1.0)
  ],
)
arity_exactly (Some found) path b = few_exactly found path (nat_lt found.count (length path.lifetimes)) (Decides-ltb found.count (length path.lifetimes)) b

-- ---- a path as `Self`

and_decides : (a b : Bool) (A B : Type 0) → Decides a A → Decides b B → Decides (a && b) (A × B)
and_decides true b A B p q = (λ h. (p.0 refl, q.0 h), λ h. q.1 h.1)
and_decides false b A B p q = (λ h. absurd (not_false h), λ h. absurd (not_false (p.1 h.0)))

decides_as : (b : Bool) (A B : Type 0) → (A ↔ B) → Decides b A → Decides b B
decides_as b A B both d = (λ h. both.0 (d.0 h), λ h. d.1 (both.1 h))

named_same : (one other : List ℕ) → (one ≡ other) ↔ (written.Named one ≡ written.Named other)
named_same one other = (λ h. ap written.Named h, λ h. cc)

lifetime_decides : (one other : Lifetime) → Decides (same_lifetime one other) (one ≡ other)
lifetime_decides written.Static written.Static = (λ h. refl, λ h. refl)
lifetime_decides written.Static (written.Named other) = (λ h. absurd (not_false h), λ h. cc)
lifetime_decides written.Static written.Anonymous = (λ h. absurd (not_false h), λ h. cc)
lifetime_decides (written.Named one) written.Static = (λ h. absurd (not_false h), λ h. cc)
lifetime_decides (written.Named one) (written.Named other) = decides_as (bytes_eq one other) (one ≡ other) (written.Named one ≡ written.Named other) (named_same one other) (bytes_eq-Decides one other)
lifetime_decides (written.Named one) written.Anonymous = (λ h. absurd (not_false h), λ h. cc)
lifetime_decides written.Anonymous written.Static = (λ h. absurd (not_false h), λ h. cc)
lifetime_decides written.Anonymous (written.Named other) = (λ h. absurd (not_false h), λ h. cc)
lifetime_decides written.Anonymous written.Anonymous = (λ h. refl, λ h. refl)

path_decides : (one other : PathType) → Decides (same_path one other) ((one.segments ≡ other.segments) × (one.lifetimes ≡ other.lifetimes))
path_decides one other =
    and_decides (pointwise bytes_eq one.segments other.segments) (pointwise same_lifetime one.lifetimes other.lifetimes) (one.segments ≡ other.segments) (one.lifetimes ≡ other.lifetimes)
    (slice_eq-Decides bytes_eq-Decides one.segments other.segments (pointwise bytes_eq one.segments other.segments) refl)
    (slice_eq-Decides lifetime_decides one.lifetimes other.lifetimes (pointwise same_lifetime one.lifetimes other.lifetimes) refl)

abbrev place_at : ℕ → ℕ → ItemPlace
place_at m i = record { «module» = m; item = i }

place_same : (one other : ItemPlace) → ((one.«module» ≡ other.«module») × (one.item ≡ other.item)) ↔ (other ≡ one)
place_same one other = (
  λ h. sym (ap (λ m. place_at m one.item) h.0 ∙ ap (place_at other.«module») h.1),
  λ h. (ap (λ (p : ItemPlace). p.«module») (sym h), ap (λ (p : ItemPlace). p.item) (sym h)),
)

place_decides : (place : ItemPlace) (found : Option Definition) → Decides (is_at place found) ((d : Definition) × ((found ≡ Some d) × (d.place ≡ place)))
place_decides place None = (λ h. absurd (not_false h), λ h. absurd (is_none h.0 h.1.0))
place_decides place (Some found) =
    let both = and_decides (nat_eq place.«module» found.place.«module») (nat_eq place.item found.place.item) (place.«module» ≡ found.place.«module») (place.item ≡ found.place.item)
    (Decides-eqb place.«module» found.place.«module») (Decides-eqb place.item found.place.item) in
    (λ h. (found, (refl, (place_same place found.place).0 (both.0 h))), λ h. both.1 ((place_same place found.place).1 (cc (h.1.0, h.1.1))))

other_exactly : (b : Bool) (A : Type 0) → Decides b A → TellsExactly (unless_own b) (λ x. (¬ A) × (x ≡ breach.SelfMismatch))
other_exactly true A d x = (λ h. absurd (in_none x h), λ h. absurd (h.0 (d.0 refl)))
other_exactly false A d x = (
  λ h. ((λ a. not_false (d.1 a)), in_one breach.SelfMismatch x h),
  λ h. subst (λ y. Contains (breach.SelfMismatch ∷ []) y) (sym h.1) (in_first breach.SelfMismatch []),
)

own_exactly : (demand : Demand) (path : PathType) (found : Option Definition) → TellsExactly (own_breaches demand path found) (λ x. IsOther demand path found × (x ≡ breach.SelfMismatch))
own_exactly Anything path found x = (λ h. absurd (in_none x h), λ h. absurd h.0)
own_exactly Nothing path found x = (
  λ h. (tt, in_one breach.SelfMismatch x h),
  λ h. subst (λ y. Contains (breach.SelfMismatch ∷ []) y) (sym h.1) (in_first breach.SelfMismatch []),
)
own_exactly (Equal own) path found x = other_exactly (same_path own path) ((own.segments ≡ path.segments) × (own.lifetimes ≡ path.lifetimes)) (path_decides own path) x
own_exactly (At place) path found x = other_exactly (is_at place found) ((d : Definition) × ((found ≡ Some d) × (d.place ≡ place))) (place_decides place found) x

pub self_exactly : (is_self : Bool) (demand : Demand) (path : PathType) (found : Option Definition) → TellsExactly (self_breaches is_self demand path found) (SelfMismatch is_self demand path found)
self_exactly true demand path found x = (λ h. (refl, (own_exactly demand path found x).0 h), λ h. (own_exactly demand path found x).1 h.1)
self_exactly false demand path found x = (λ h. absurd (in_none x h), λ h. absurd (not_false h.0))

-- ---- uses

pub use_exactly : (names : List (List ℕ)) (demand : Demand) (u : Use) → TellsExactly (use_breaches names demand u) (UseBreaks names demand u)
use_exactly names demand (One l) = unknown_exactly names l
use_exactly names demand (Path is_self path found) =
    exactly_both (arity_breaches found path ++ self_breaches is_self demand path found) (flat_map (unknown names) path.lifetimes)
    (λ b. (UnresolvedPath found path b ⊎ LifetimeArity found path b) ⊎ SelfMismatch is_self demand path found b) (WrittenBreak names path.lifetimes)
    (exactly_both (arity_breaches found path) (self_breaches is_self demand path found) (λ b. UnresolvedPath found path b ⊎ LifetimeArity found path b) (SelfMismatch is_self demand path found)
    (arity_exactly found path) (self_exactly is_self demand path found))
    (written_exactly names path.lifetimes)

pub uses_exactly : (names : List (List ℕ)) (demand : Demand) (us : List Use) → TellsExactly (breaches_of names demand us) (UsesBreak names demand us)
uses_exactly names demand us = exactly_each (use_breaches names demand) (λ u b. UseBreaks names demand u b) (use_exactly names demand) us

-- ---- within the limit

limited_by : (b : Bool) (D : Type 0) (others : List Broken) (Others : Broken → Type 0) → Decides b D → TellsExactly others Others
    → TellsGiven ⊤ (if b then breach.TooManyLifetimes ∷ [] else others) (λ x. (D × (x ≡ breach.TooManyLifetimes)) ⊎ Others x)
limited_by true D others Others d o = record {
  each = λ x h. inl (d.0 refl, in_one breach.TooManyLifetimes x h);
  some = λ g x h. (breach.TooManyLifetimes, in_first breach.TooManyLifetimes []);
}
limited_by false D others Others d o = record {
  each = λ x h. inr ((o x).0 h);
  some = λ g x h. elim h [ inl c ↦ absurd (not_false (d.1 c.0)) | inr c ↦ (x, (o x).1 c) ];
}

limited : (declared : LifetimeEnv) (others : List Broken) (Others : Broken → Type 0) → TellsExactly others Others
    → TellsGiven ⊤ (within_limit declared others) (LimitedBreak declared Others)
limited declared others Others o =
    limited_by (nat_lt most (length declared.nodes)) (DeclaresTooMany declared) others Others (Decides-ltb most (length declared.nodes)) o

-- ---- each kind

pub method_paths : (names : Naming) (owner : ItemPlace) (method : Method) → TellsGiven ⊤ (method_breaches names owner method) (MethodPathsBreak names owner method)
method_paths names owner method =
    let declared = lifetime_names method.lifetime_env in
    let own : List Use = type_use names true method.self_type ∷ [] in
    let us = uses_of (method_uses names method) in
    limited method.lifetime_env (breaches_of declared (At owner) own ++ breaches_of declared (Equal method.self_type) us)
    (λ b. UsesBreak declared (At owner) own b ⊎ UsesBreak declared (Equal method.self_type) us b)
    (exactly_both (breaches_of declared (At owner) own) (breaches_of declared (Equal method.self_type) us) (UsesBreak declared (At owner) own) (UsesBreak declared (Equal method.self_type) us)
    (uses_exactly declared (At owner) own) (uses_exactly declared (Equal method.self_type) us))

pub function_paths : (names : Naming) (function : Function) → TellsGiven ⊤ (function_breaches names function) (FunctionPathsBreak names function)
function_paths names function =
    let declared = lifetime_names function.lifetimes in
    let us = uses_of (function_uses names function) in
    limited function.lifetimes (breaches_of declared Nothing us) (UsesBreak declared Nothing us) (uses_exactly declared Nothing us)

pub trait_method_paths : (names : Naming) (owner : ItemPlace) (method : TraitMethod) → TellsGiven ⊤ (trait_method_breaches names owner method) (TraitMethodPathsBreak names owner method)
trait_method_paths names owner method =
    let declared = lifetime_names method.lifetimes in
    let own = borrow_uses (trait_borrow method.self_param) ++ trait_receiver_uses names method.self_param in
    let us = param_uses names method.params ++ output_uses names method.output_type in
    limited method.lifetimes (breaches_of declared (At owner) own ++ breaches_of declared Nothing us)
    (λ b. UsesBreak declared (At owner) own b ⊎ UsesBreak declared Nothing us b)
    (exactly_both (breaches_of declared (At owner) own) (breaches_of declared Nothing us) (UsesBreak declared (At owner) own) (UsesBreak declared Nothing us)
    (uses_exactly declared (At owner) own) (uses_exactly declared Nothing us))

pub field_paths : (names : Naming) (item : Struct) → TellsGiven ⊤ (field_breaches names item) (FieldPathsBreak names item)
field_paths names item =
    let declared = lifetime_names item.lifetimes in
    let us = uses_of (field_uses names item.fields) in
    limited item.lifetimes (breaches_of declared Anything us) (UsesBreak declared Anything us) (uses_exactly declared Anything us)
