-- Where nothing is wrong with the paths of a signature by themselves, as many numbers come back as its uses have lifetimes.
use Rattle.std.proofs.Common.{◌≡◌, ℕ, List, [], ◌∷◌, ◌++◌, length, true, false, Bool, Option, Some, None, Ok, refl, sym, ap, ◌∙◌}
use Rattle.std.specs.Prelude.{⊤, ◌&&◌, nat_lt}
use Rattle.std.specs.List.{flat_map}
use Rattle.std.specs.Str.{bytes_eq}
use Rattle.std.specs.Cmp.Lexicographic.{pointwise}
use Rattle.std.proofs.lemmas.Bool.{ltb-false}
use Rattle.std.proofs.lemmas.Grind.{flat_map-append}
use Rattle.std.proofs.lemmas.Slice.Eq.{bytes_eq-Decides, slice_eq-Decides}
use Rattle.bridge_decl.specs.declared.functions.Function.{Function}
use Rattle.bridge_decl.specs.declared.lifetimes.Lifetime.{Lifetime}
use Rattle.bridge_decl.specs.declared.methods.Method.{Method}
use Rattle.bridge_decl.specs.declared.paths.PathType.{PathType}
use Rattle.bridge_decl.specs.declared.structs.Field.{Field}
use Rattle.bridge_decl.specs.declared.structs.Struct.{Struct}
use Rattle.bridge_decl.specs.declared.traits.TraitMethod.{TraitMethod}
use Rattle.bridge_decl.specs.declared.traits.TraitSelfParam.{TraitSelfParam}
use Rattle.bridge_decl.specs.declared.types.Mutability.{Mutability}
use Rattle.bridge_decl.specs.Lifetimes.{lifetime_names}
use Rattle.bridge_ast.specs.declared.place.ItemPlace.{ItemPlace}
use Rattle.hir_elide.specs.Occurrences.{Borrow, Counting}
use Rattle.hir_elide.specs.Phases.{Phase, Using, Returning, Defining}
use Rattle.hir_number.specs.Arity.{HaveArity}
use Rattle.hir_number.specs.Breaches.{Anything, At, Broken, Demand, Equal, Nothing, arity_breaches, breaches_of, field_breaches, function_breaches, method_breaches, same_lifetime, same_path, self_breaches, trait_method_breaches, unknown, unless_own, use_breaches, uses_of}
use Rattle.hir_number.specs.Naming.{Definition, Naming, trait_found}
use Rattle.hir_number.specs.Numbers.{signature_numbers}
use Rattle.hir_number.specs.Shapes.{NumberLists}
use Rattle.hir_number.specs.Signatures.{Section, TraitReturn, Usual, field_uses, function_uses, method_uses, output_uses, param_uses, phase_of, placed, receiver_borrow, receiver_uses, trait_borrow, trait_method_uses, trait_receiver_uses, without_writer}
use Rattle.hir_number.specs.Uses.{Use, One, Path, borrow_uses, type_use, type_uses}
use Rattle.hir_elide.proofs.ArityLemmas.{meets_at}
use Rattle.hir_number.proofs.ArityLemmas.{IsApart, IsFit, PlacedFit, numbers_arity}
use Rattle.hir_number.proofs.BreachLemmas.{of_placed, of_signature}
use Rattle.hir_number.proofs.ElisionLemmas.{few, limit_kept, none_of}
use Rattle.hir_elide.proofs.BelowLemmas.{Each}
use Rattle.hir_number.proofs.FaultLemmas.{each_both}
use Rattle.hir_number.proofs.NamedLemmas.{IsNamed, borrow_named, named, output_named, params_named, receiver_named}

not_true : (b : Bool) → ¬ (b ≡ true) → b ≡ false
not_true true h = absurd (h refl)
not_true false h = refl

and_left : (a b : Bool) → (a && b) ≡ true → a ≡ true
and_left true b h = refl
and_left false b h = absurd cc

-- ---- uses

-- the lifetimes that is declared by what is named, if any is
abbrev count_or : Option Definition → ℕ
count_or None = 0
count_or (Some found) = found.count

-- a `Self` that is what is asked declares c lifetimes
abbrev Allows : Demand → ℕ → Phase → Use → Type 0
Allows demand c phase (One l) = ⊤
Allows demand c phase (Path is_self path None) = ⊤
Allows demand c phase (Path is_self path (Some found)) = meets_at phase is_self ≡ true → self_breaches is_self demand path (Some found) ≡ [] → found.count ≡ c

module _ (names : List (List ℕ)) (demand : Demand) (c : ℕ) (phase : Phase) where
  use_fit : (u : Use) → use_breaches names demand u ≡ [] → Allows demand c phase u → IsFit c phase u
  use_fit (One l) h k = tt
  use_fit (Path is_self path None) h k =
      let parts = none_of (arity_breaches None path ++ self_breaches is_self demand path None) (flat_map (unknown names) path.lifetimes) h in
      absurd (some_wrong (self_breaches is_self demand path None) path parts.0)
    where
      some_wrong : (xs : List Broken) (p : PathType) → ¬ (arity_breaches None p ++ xs ≡ [])
      some_wrong xs p k = absurd cc
  use_fit (Path is_self path (Some found)) h k =
      let parts = none_of (arity_breaches (Some found) path ++ self_breaches is_self demand path (Some found)) (flat_map (unknown names) path.lifetimes) h in
      let first = none_of (arity_breaches (Some found) path) (self_breaches is_self demand path (Some found)) parts.0 in
      (ltb-false found.count (length path.lifetimes) (not_true (nat_lt found.count (length path.lifetimes)) (few names (nat_lt found.count (length path.lifetimes)) path first.0)), λ own. k own first.1)

  uses_fit : (us : List Use) → breaches_of names demand us ≡ [] → Each (Allows demand c phase) us → Each (IsFit c phase) us
  uses_fit [] h k = tt
  uses_fit (u ∷ us) h k =
      let parts = none_of (use_breaches names demand u) (breaches_of names demand us) h in
      (use_fit u parts.0 k.0, uses_fit us parts.1 k.1)

placed_fit : (c : ℕ) (part : Section) (us : List Use) → IsApart (phase_of part) → Each (IsFit c (phase_of part)) us → Each (PlacedFit c) (placed part us)
placed_fit c part [] apart h = tt
placed_fit c part (u ∷ us) apart h = ((apart, h.0), placed_fit c part us apart h.1)

-- those of the parts of a signature
signature_fit : (c : ℕ) (last : Section) (bs rs ps os : List Use) → IsApart (phase_of last) → Each (IsFit c (Using Borrow)) bs → Each (IsFit c (Using Counting)) rs → Each (IsFit c (Using Counting)) ps
    → Each (IsFit c (phase_of last)) os → Each (PlacedFit c) ((placed (Usual (Using Borrow)) bs ++ placed (Usual (Using Counting)) (rs ++ ps)) ++ placed last os)
signature_fit c last bs rs ps os apart b r p o =
    each_both (PlacedFit c) (placed (Usual (Using Borrow)) bs ++ placed (Usual (Using Counting)) (rs ++ ps)) (placed last os)
    (each_both (PlacedFit c) (placed (Usual (Using Borrow)) bs) (placed (Usual (Using Counting)) (rs ++ ps)) (placed_fit c (Usual (Using Borrow)) bs refl b)
    (placed_fit c (Usual (Using Counting)) (rs ++ ps) refl (each_both (IsFit c (Using Counting)) rs ps r p)))
    (placed_fit c last os apart o)

each_so : {A : Type 0} (P Q : A → Type 0) → ((x : A) → P x → Q x) → (xs : List A) → Each P xs → Each Q xs
each_so P Q k [] h = tt
each_so P Q k (x ∷ xs) h = (k x h.0, each_so P Q k xs h.1)

each_use : (P : Use → Type 0) → ((u : Use) → P u) → (us : List Use) → Each P us
each_use P k [] = tt
each_use P k (u ∷ us) = (k u, each_use P k us)

-- ---- what `Self` is asked to be

-- nothing
none_allowed : (c : ℕ) (phase : Phase) (u : Use) → Allows Nothing c phase u
none_allowed c phase (One l) = tt
none_allowed c phase (Path is_self path None) = tt
none_allowed c (Using role) (Path true path (Some found)) = λ own h. absurd cc
none_allowed c (Using role) (Path false path (Some found)) = λ own h. absurd cc
none_allowed c Returning (Path true path (Some found)) = λ own h. absurd cc
none_allowed c Returning (Path false path (Some found)) = λ own h. absurd cc
none_allowed c Defining (Path is_self path (Some found)) = λ own h. absurd cc

-- of a definition nothing is asked
defined_allowed : (c : ℕ) (demand : Demand) (u : Use) → Allows demand c Defining u
defined_allowed c demand (One l) = tt
defined_allowed c demand (Path is_self path None) = tt
defined_allowed c demand (Path is_self path (Some found)) = λ own h. absurd cc

-- the type of a method
own_same : (b : Bool) → unless_own b ≡ [] → b ≡ true
own_same true h = refl
own_same false h = absurd cc

segments_same : (own path : PathType) → unless_own (same_path own path) ≡ [] → own.segments ≡ path.segments
segments_same own path h =
    (slice_eq-Decides bytes_eq-Decides own.segments path.segments (pointwise bytes_eq own.segments path.segments) refl).0
    (and_left (pointwise bytes_eq own.segments path.segments) (pointwise same_lifetime own.lifetimes path.lifetimes) (own_same (same_path own path) h))

module _ (names : Naming) (own : PathType) where
  abbrev own_count : ℕ
  own_count = count_or (named names own.segments)

  equal_allowed : (phase : Phase) (u : Use) → IsNamed names u → Allows (Equal own) own_count phase u
  equal_allowed phase (One l) n = tt
  equal_allowed phase (Path is_self path None) n = tt
  equal_allowed phase (Path true path (Some found)) n = λ meets h. ap count_or n ∙ ap (λ segments. count_or (named names segments)) (sym (segments_same own path h))
  equal_allowed (Using role) (Path false path (Some found)) n = λ meets h. absurd cc
  equal_allowed Returning (Path false path (Some found)) n = λ meets h. absurd cc
  equal_allowed Defining (Path false path (Some found)) n = λ meets h. absurd cc

-- the trait of a method
abbrev trait_count : Naming → Option TraitSelfParam → ℕ
trait_count names None = 0
trait_count names (Some receiver) = count_or (trait_found (names.trait_at receiver.path_trait.segments))

itself_allowed : (demand : Demand) (phase : Phase) (is_self : Bool) (path : PathType) (found : Option Definition) → Allows demand (count_or found) phase (Path is_self path found)
itself_allowed demand phase is_self path None = tt
itself_allowed demand phase is_self path (Some found) = λ meets h. refl

receiver_allowed : (names : Naming) (demand : Demand) (phase : Phase) (receiver : Option TraitSelfParam) → Each (Allows demand (trait_count names receiver) phase) (trait_receiver_uses names receiver)
receiver_allowed names demand phase None = tt
receiver_allowed names demand phase (Some receiver) = (itself_allowed demand phase true receiver.path_trait (trait_found (names.trait_at receiver.path_trait.segments)), tt)

borrow_allowed : (demand : Demand) (c : ℕ) (borrow : Option (Lifetime × Mutability)) → Each (Allows demand c (Using Borrow)) (borrow_uses borrow)
borrow_allowed demand c None = tt
borrow_allowed demand c (Some borrow) = (tt, tt)

-- nothing is wrong with either part
each_none : (all : List (List ℕ)) (demand : Demand) (us vs : List Use) → breaches_of all demand (us ++ vs) ≡ [] → (breaches_of all demand us ≡ []) × (breaches_of all demand vs ≡ [])
each_none all demand us vs h = none_of (breaches_of all demand us) (breaches_of all demand vs) (sym (flat_map-append (use_breaches all demand) us vs) ∙ h)

-- ---- each kind

pub method_arity : (names : Naming) (owner : ItemPlace) (method : Method) (nss : NumberLists) → method_breaches names owner method ≡ []
    → signature_numbers method.lifetime_env (method_uses names method) ≡ Ok nss → HaveArity (method_uses names method) nss
method_arity names owner method nss none is =
    let all : List (List ℕ) = lifetime_names method.lifetime_env in
    let own : PathType = method.self_type in
    let c : ℕ = own_count names own in
    let bs : List Use = borrow_uses (receiver_borrow method.self_param) in
    let rs : List Use = receiver_uses names method.self_param in
    let ps : List Use = param_uses names (without_writer method.params) in
    let os : List Use = output_uses names method.return_type in
    let sides = none_of (breaches_of all (At owner) (type_use names true own ∷ [])) (breaches_of all (Equal own) (uses_of (method_uses names method))) (limit_kept method.lifetime_env _ none) in
    let parts = none_of (breaches_of all (Equal own) bs ++ breaches_of all (Equal own) rs) (breaches_of all (Equal own) ps ++ breaches_of all (Equal own) os)
    (sym (of_signature all (Equal own) (Usual (Using Borrow)) (Usual (Using Counting)) (Usual Returning) bs rs ps os) ∙ sides.1) in
    let first = none_of (breaches_of all (Equal own) bs) (breaches_of all (Equal own) rs) parts.0 in
    let last = none_of (breaches_of all (Equal own) ps) (breaches_of all (Equal own) os) parts.1 in
    numbers_arity method.lifetime_env c (method_uses names method) nss
    (signature_fit c (Usual Returning) bs rs ps os tt
    (uses_fit all (Equal own) c (Using Borrow) bs first.0 (each_so (IsNamed names) (Allows (Equal own) c (Using Borrow)) (equal_allowed names own (Using Borrow)) bs (borrow_named names (receiver_borrow method.self_param))))
    (uses_fit all (Equal own) c (Using Counting) rs first.1 (each_so (IsNamed names) (Allows (Equal own) c (Using Counting)) (equal_allowed names own (Using Counting)) rs (receiver_named names method.self_param)))
    (uses_fit all (Equal own) c (Using Counting) ps last.0 (each_so (IsNamed names) (Allows (Equal own) c (Using Counting)) (equal_allowed names own (Using Counting)) ps (params_named names (without_writer method.params))))
    (uses_fit all (Equal own) c Returning os last.1 (each_so (IsNamed names) (Allows (Equal own) c Returning) (equal_allowed names own Returning) os (output_named names method.return_type)))) is

pub function_arity : (names : Naming) (function : Function) (nss : NumberLists) → function_breaches names function ≡ []
    → signature_numbers function.lifetimes (function_uses names function) ≡ Ok nss → HaveArity (function_uses names function) nss
function_arity names function nss none is =
    let all : List (List ℕ) = lifetime_names function.lifetimes in
    let ps : List Use = param_uses names (without_writer function.params) in
    let os : List Use = output_uses names function.output_type in
    let parts = none_of (breaches_of all Nothing ps) (breaches_of all Nothing os)
    (sym (of_signature all Nothing (Usual (Using Borrow)) (Usual (Using Counting)) (Usual Returning) [] [] ps os) ∙ limit_kept function.lifetimes _ none) in
    numbers_arity function.lifetimes 0 (function_uses names function) nss
    (signature_fit 0 (Usual Returning) [] [] ps os tt tt tt
    (uses_fit all Nothing 0 (Using Counting) ps parts.0 (each_use (Allows Nothing 0 (Using Counting)) (none_allowed 0 (Using Counting)) ps))
    (uses_fit all Nothing 0 Returning os parts.1 (each_use (Allows Nothing 0 Returning) (none_allowed 0 Returning) os))) is

pub trait_method_arity : (names : Naming) (owner : ItemPlace) (method : TraitMethod) (nss : NumberLists) → trait_method_breaches names owner method ≡ []
    → signature_numbers method.lifetimes (trait_method_uses names method) ≡ Ok nss → HaveArity (trait_method_uses names method) nss
trait_method_arity names owner method nss none is =
    let all : List (List ℕ) = lifetime_names method.lifetimes in
    let c : ℕ = trait_count names method.self_param in
    let bs : List Use = borrow_uses (trait_borrow method.self_param) in
    let rs : List Use = trait_receiver_uses names method.self_param in
    let ps : List Use = param_uses names method.params in
    let os : List Use = output_uses names method.output_type in
    let sides = none_of (breaches_of all (At owner) (bs ++ rs)) (breaches_of all Nothing (ps ++ os)) (limit_kept method.lifetimes _ none) in
    let first = each_none all (At owner) bs rs sides.0 in
    let last = each_none all Nothing ps os sides.1 in
    numbers_arity method.lifetimes c (trait_method_uses names method) nss
    (signature_fit c TraitReturn bs rs ps os refl
    (uses_fit all (At owner) c (Using Borrow) bs first.0 (borrow_allowed (At owner) c (trait_borrow method.self_param)))
    (uses_fit all (At owner) c (Using Counting) rs first.1 (receiver_allowed names (At owner) (Using Counting) method.self_param))
    (uses_fit all Nothing c (Using Counting) ps last.0 (each_use (Allows Nothing c (Using Counting)) (none_allowed c (Using Counting)) ps))
    (uses_fit all Nothing c (Using Counting) os last.1 (each_use (Allows Nothing c (Using Counting)) (none_allowed c (Using Counting)) os))) is

pub fields_arity : (names : Naming) (item : Struct) (nss : NumberLists) → field_breaches names item ≡ []
    → signature_numbers item.lifetimes (field_uses names item.fields) ≡ Ok nss → HaveArity (field_uses names item.fields) nss
fields_arity names item nss none is =
    let all : List (List ℕ) = lifetime_names item.lifetimes in
    let us : List Use = flat_map (λ (field : Field). type_uses names field.ty) item.fields in
    numbers_arity item.lifetimes 0 (field_uses names item.fields) nss
    (placed_fit 0 (Usual Defining) us tt
    (uses_fit all Anything 0 Defining us (sym (of_placed all Anything (Usual Defining) us) ∙ limit_kept item.lifetimes _ none) (each_use (Allows Anything 0 Defining) (defined_allowed 0 Anything) us))) is
