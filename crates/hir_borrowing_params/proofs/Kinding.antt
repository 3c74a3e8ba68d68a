-- The edges of candidates are those of inputs.
use Rattle.std.proofs.Common.{◌≡◌, ◌≢◌, ℕ, zero, suc, ◌+◌, ◌<◌, ◌||◌, Bool, true, false, cond, List, [], ◌∷◌, ◌++◌, map, Option, Some, None, option_map, ap, subst, sym, refl, ◌∙◌, arith, length, length-take, take, slice_get}
use Rattle.std.specs.Prelude.{◌↔◌, IsTrue, MatchBool, not, slice_index_or}
use Rattle.std.specs.BTreeMap.{btree_map_len}
use Rattle.std.specs.BTreeMap.{BTreeMap}
use Rattle.std.specs.BTreeSet.{BTreeSet}
use Rattle.std.specs.List.{cons_option, enumerate_from, filter_map, list_any}
use Rattle.std.proofs.lemmas.List.{map_push, take_more}
use Rattle.std.proofs.lemmas.Option.{slice_get-map}
use Rattle.hir_life.specs.Environment.{Environment}
use Rattle.hir_life.specs.declared.maybe_static.MaybeStatic.{MaybeStatic}
use Rattle.hir_ids.specs.declared.ids.TypeId.{TypeId}
use Rattle.hir_context.specs.Lookups.{environment_at}
use Rattle.hir_context.specs.declared.parts.Definitions.{Definitions}
use Rattle.hir_skeleton.specs.Edges.{ShallowEdge, Position, edge_at}
use Rattle.hir_skeleton.specs.Leaves.{number_passes}
use Rattle.hir_skeleton.specs.Lowered.{carrier_of}
use Rattle.hir_skeleton.specs.Skeletons.{Struct}
use Rattle.hir_borrowing_params.specs.Answering.{HasRow, IsUnheld, IsHeld, MapsRows, counts_for, is_own_at, row_at, some_passes}
use Rattle.hir_borrowing_params.specs.Edges.{EdgeKind, HeldFor, OfStruct, held_for, held_under, info_under, input_edges, is_in, edge_kind_of, kind_shown, whole_kind}
use Rattle.hir_borrowing_params.specs.declared.candidates.EdgeCandidate.{EdgeCandidate}
use Rattle.hir_borrowing_params.specs.declared.edges.BorrowedLifetimeInfo.{BorrowedLifetimeInfo}
use Rattle.hir_borrowing_params.proofs.Rows.{rows_none, rows_some}
use Rattle.hir_borrowing_params.specs.inside.Candidates.{Candidate, candidate_kind, candidate_lifetimes, candidate_passes, candidate_shown, keys_of, kind_under, kinds_under, struct_candidate, struct_edges, whole_edges}

or_false : (b : Bool) → (b || false) ≡ b
or_false true = refl
or_false false = refl

-- ---- of candidates only what is shown counts

kinds_shown : (cs : List EdgeCandidate) (test : ℕ → Bool) → kinds_under cs test ≡ filter_map (candidate_kind test) (map candidate_shown cs)
kinds_shown [] test = refl
kinds_shown (c ∷ cs) test = ap (cons_option (kind_under test c)) (kinds_shown cs test)

pub struct_kinds : (env : Environment) (optional : Bool) (args : List (MaybeStatic ℕ)) (cs : List EdgeCandidate) → map candidate_shown cs ≡ map (struct_candidate env optional) (enumerate_from 0 args)
    → kinds_under cs ≡ struct_edges env optional args
struct_kinds env optional args cs is = λ i test. (kinds_shown cs test ∙ ap (filter_map (candidate_kind test)) is) i

whole_by : (b : Bool) (k other : EdgeKind) → k ≡ other → cons_option (cond b (Some k) None) [] ≡ cond b (other ∷ []) []
whole_by true k other e = ap (λ x. x ∷ []) e
whole_by false k other e = refl

pub whole_kinds : (is_slice : Bool) (c : EdgeCandidate) → kind_shown c.kind ≡ whole_kind is_slice → kinds_under (c ∷ []) ≡ whole_edges is_slice (candidate_lifetimes c)
whole_kinds is_slice c is = λ i test. whole_by (candidate_passes test c) (kind_shown c.kind) (whole_kind is_slice) is i

-- ---- and they are those of skeletons

carrier_by : (b : Bool) (k : EdgeKind) (defs : Definitions) (is_slice : Bool) → whole_kind is_slice ≡ k → cond b (k ∷ []) [] ≡ filter_map (edge_kind_of defs is_slice) (cond b (Rattle.hir_skeleton.specs.Edges.Whole ∷ []) [])
carrier_by true k defs is_slice e = ap (λ x. x ∷ []) (sym e)
carrier_by false k defs is_slice e = refl

carrier_at : (defs : Definitions) (is_slice optional : Bool) (lifetimes : List (MaybeStatic ℕ)) (test : ℕ → Bool) → whole_edges is_slice lifetimes test ≡ input_edges defs is_slice optional (carrier_of lifetimes) test
carrier_at defs is_slice optional [] test = refl
carrier_at defs is_slice optional (l ∷ ls) test = carrier_by (list_any (number_passes test) (l ∷ ls)) (whole_kind is_slice) defs is_slice refl

pub carrier_edges : (defs : Definitions) (is_slice optional : Bool) (lifetimes : List (MaybeStatic ℕ)) → whole_edges is_slice lifetimes ≡ input_edges defs is_slice optional (carrier_of lifetimes)
carrier_edges defs is_slice optional lifetimes = λ i test. carrier_at defs is_slice optional lifetimes test i

module _ (defs : Definitions) (is_slice optional : Bool) (id : TypeId) (env : Environment) (there : environment_at defs id ≡ Some env) (test : ℕ → Bool) where
  step_by : (b : Bool) (n : ℕ) (ones : List EdgeKind) (others : List (ShallowEdge TypeId)) → ones ≡ filter_map (edge_kind_of defs is_slice) others
      → cons_option (cond (b || false) (Some (OfStruct env n optional)) None) ones ≡ filter_map (edge_kind_of defs is_slice) (cons_option (cond b (Some (Position id n optional)) None) others)
  step_by true n ones others rest = ap (λ es. OfStruct env n optional ∷ es) rest ∙ ap (λ o. cons_option (option_map (λ e. OfStruct e n optional) o) (filter_map (edge_kind_of defs is_slice) others)) (sym there)
  step_by false n ones others rest = rest

  positions : (n : ℕ) (args : List (MaybeStatic ℕ)) → filter_map (candidate_kind test) (map (struct_candidate env optional) (enumerate_from n args)) ≡ filter_map (edge_kind_of defs is_slice) (filter_map (edge_at test optional id) (enumerate_from n args))
  positions n [] = refl
  positions n (l ∷ ls) = step_by (number_passes test l) n _ _ (positions (n + 1) ls)

pub position_edges : (defs : Definitions) (is_slice optional : Bool) (id : TypeId) (env : Environment) (args : List (MaybeStatic ℕ)) → environment_at defs id ≡ Some env
    → struct_edges env optional args ≡ input_edges defs is_slice optional (Struct id args)
position_edges defs is_slice optional id env args there = λ i test. positions defs is_slice optional id env there test 0 args i

-- ---- where there are edges

-- nothing is held where no candidate passes
none_pass : (test : ℕ → Bool) (cs : List EdgeCandidate) → ((d : ℕ) → some_passes (candidate_passes test) (slice_get cs d) ≡ false) → kinds_under cs test ≡ []
none_pass test [] none = refl
none_pass test (c ∷ cs) none =
    ap (λ b. cons_option (cond b (Some (kind_shown c.kind)) None) (kinds_under cs test)) (none 0) ∙ none_pass test cs (λ d. none (suc d))

-- something is where one does
not_none : (b : Bool) (k : EdgeKind) (ks : List EdgeKind) → ks ≢ [] → cons_option (cond b (Some k) None) ks ≢ []
not_none true k ks some e = absurd cc
not_none false k ks some e = some e

first_some : (b : Bool) (k : EdgeKind) (ks : List EdgeKind) → b ≡ true → cons_option (cond b (Some k) None) ks ≢ []
first_some true k ks does e = absurd cc
first_some false k ks does e = absurd cc

none_has : false ≡ true → ⊥
none_has h = absurd cc

some_pass : (test : ℕ → Bool) (cs : List EdgeCandidate) (d : ℕ) → some_passes (candidate_passes test) (slice_get cs d) ≡ true → kinds_under cs test ≢ []
some_pass test [] d does = λ e. absurd (none_has does)
some_pass test (c ∷ cs) zero does = first_some (candidate_passes test c) (kind_shown c.kind) (kinds_under cs test) does
some_pass test (c ∷ cs) (suc d) does = not_none (candidate_passes test c) (kind_shown c.kind) (kinds_under cs test) (some_pass test cs d does)

module _ (m : BTreeMap ℕ BorrowedLifetimeInfo) (cs : List EdgeCandidate) where
  -- what is kept of a key, in what the map has for it
  at_info : (t : ℕ) (h : HeldFor) (o : Option BorrowedLifetimeInfo) → info_under m t ≡ o → option_map held_for o ≡ Some h → (d : ℕ) → row_at (keys_of m) cs d t ≡ some_passes (candidate_passes (is_in h.longer)) (slice_get cs d)
  at_info t h None is here d = absurd cc
  at_info t h (Some info) is here d = by_candidate (slice_get cs d) where
    same : held_for info ≡ h
    same = cc

    by_candidate : (o : Option EdgeCandidate) → some_passes (λ c. keys_of m c t) o ≡ some_passes (candidate_passes (is_in h.longer)) o
    by_candidate None = refl
    by_candidate (Some c) = ap (some_passes (λ x. candidate_passes (is_in x.all_longer_lifetimes) c)) is ∙ ap (λ x. candidate_passes (is_in x.longer) c) same

  pub is_free : ((d t : ℕ) → row_at (keys_of m) cs d t ≡ false) → IsUnheld (held_under m) (kinds_under cs)
  is_free none t h here = none_pass (is_in h.longer) cs (λ d. sym (at_info t h (info_under m t) refl here d) ∙ none d t)

  has_info : (t d : ℕ) (o : Option BorrowedLifetimeInfo) → info_under m t ≡ o → row_at (keys_of m) cs d t ≡ true → (h : HeldFor) × (held_under m t ≡ Some h)
  has_info t d None is has = absurd (none_there (slice_get cs d) has) where
    none_there : (x : Option EdgeCandidate) → some_passes (λ c. keys_of m c t) x ≡ true → ⊥
    none_there None e = absurd cc
    none_there (Some c) e =
        let fails : keys_of m c t ≡ false = ap (some_passes (λ x. candidate_passes (is_in x.all_longer_lifetimes) c)) is in
        absurd (false_true (sym fails ∙ e)) where
          false_true : false ≡ true → ⊥
          false_true h = absurd cc
  has_info t d (Some info) is has = (held_for info, ap (option_map held_for) is)

  pub is_held : HasRow (keys_of m) cs → IsHeld (held_under m) (kinds_under cs)
  is_held row =
      let found = has_info row.t row.d (info_under m row.t) refl row.has in
      record {
        t = row.t;
        h = found.0;
        here = found.1;
        some = some_pass (is_in found.0.longer) cs row.d (sym (at_info row.t found.0 (info_under m row.t) refl found.1 row.d) ∙ row.has);
      }

-- ---- the rows of candidates of a struct are those of its arguments

-- which keys lifetimes have
abbrev row_of : (ℕ → Option HeldFor) → List (MaybeStatic ℕ) → ℕ → Bool
row_of under ls t = some_passes (λ h. list_any (number_passes (is_in h.longer)) ls) (under t)

lifetimes_of_args : (env : Environment) (optional : Bool) (n : ℕ) (args : List (MaybeStatic ℕ)) → map (λ (c : Candidate). c.lifetimes) (map (struct_candidate env optional) (enumerate_from n args)) ≡ map (λ l. l ∷ []) args
lifetimes_of_args env optional n [] = refl
lifetimes_of_args env optional n (l ∷ ls) = ap (λ rest. (l ∷ []) ∷ rest) (lifetimes_of_args env optional (n + 1) ls)

lifetimes_twice : (cs : List EdgeCandidate) → map candidate_lifetimes cs ≡ map (λ (c : Candidate). c.lifetimes) (map candidate_shown cs)
lifetimes_twice [] = refl
lifetimes_twice (c ∷ cs) = ap (λ rest. candidate_lifetimes c ∷ rest) (lifetimes_twice cs)

module _ (m : BTreeMap ℕ BorrowedLifetimeInfo) where
  by_info : (c : EdgeCandidate) (o : Option BorrowedLifetimeInfo) → some_passes (λ info. candidate_passes (is_in info.all_longer_lifetimes) c) o ≡ some_passes (λ h. list_any (number_passes (is_in h.longer)) (candidate_lifetimes c)) (option_map held_for o)
  by_info c None = refl
  by_info c (Some info) = refl

  by_candidate : (t : ℕ) (o : Option EdgeCandidate) → some_passes (λ c. keys_of m c t) o ≡ some_passes (λ ls. row_of (held_under m) ls t) (option_map candidate_lifetimes o)
  by_candidate t None = refl
  by_candidate t (Some c) = by_info c (info_under m t)

  by_arg : (t : ℕ) (o : Option (MaybeStatic ℕ)) → some_passes (λ ls. row_of (held_under m) ls t) (option_map (λ l. l ∷ []) o) ≡ some_passes (λ l. counts_for (held_under m) l t) o
  by_arg t None = refl
  by_arg t (Some l) = by_held (held_under m t) where
    by_held : (o : Option HeldFor) → some_passes (λ h. list_any (number_passes (is_in h.longer)) (l ∷ [])) o ≡ some_passes (λ h. number_passes (is_in h.longer) l) o
    by_held None = refl
    by_held (Some h) = or_false (number_passes (is_in h.longer) l)

  pub struct_rows : (env : Environment) (optional : Bool) (args : List (MaybeStatic ℕ)) (cs : List EdgeCandidate) (sets : BTreeMap ℕ (BTreeSet ℕ)) → map candidate_shown cs ≡ map (struct_candidate env optional) (enumerate_from 0 args)
      → MapsRows (keys_of m) cs sets → MapsRows (counts_for (held_under m)) args sets
  struct_rows env optional args cs sets is maps = record {
    at = λ d t. maps.at d t ∙ (by_candidate t (slice_get cs d) ∙ (ap (some_passes (λ ls. row_of (held_under m) ls t)) (lists d) ∙ by_arg t (slice_get args d)));
    some = maps.some;
  } where
    lists : (d : ℕ) → option_map candidate_lifetimes (slice_get cs d) ≡ option_map (λ l. l ∷ []) (slice_get args d)
    lists d =
        sym (slice_get-map candidate_lifetimes cs d) ∙ (ap (λ ls. slice_get ls d) (lifetimes_twice cs ∙ (ap (map (λ (c : Candidate). c.lifetimes)) is ∙ lifetimes_of_args env optional 0 args)) ∙ slice_get-map (λ l. l ∷ []) args d)

-- ---- what is answered

empty_none : (sets : BTreeMap ℕ (BTreeSet ℕ)) → btree_map_len sets ≡ 0 → sets.entries ≡ []
empty_none sets none = by_entries sets.entries none where
  by_entries : (es : List (ℕ × BTreeSet ℕ)) → length es ≡ 0 → es ≡ []
  by_entries [] h = refl
  by_entries (e ∷ es) h = absurd (omega (arith, h))

full_some : (sets : BTreeMap ℕ (BTreeSet ℕ)) (empty : Bool) → empty ≡ false → (btree_map_len sets ≡ 0 → IsTrue empty) → sets.entries ≡ [] → ⊥
full_some sets empty not_empty is none =
    let yes_empty : empty ≡ true = is (ap length none) in none_has (sym not_empty ∙ yes_empty)

module _ (m : BTreeMap ℕ BorrowedLifetimeInfo) (cs : List EdgeCandidate) (sets : BTreeMap ℕ (BTreeSet ℕ)) (maps : MapsRows (keys_of m) cs sets) where
  pub free_when : btree_map_len sets ≡ 0 → IsUnheld (held_under m) (kinds_under cs)
  free_when none = is_free m cs (rows_none (keys_of m) cs sets maps (empty_none sets none))

  pub held_when : (empty : Bool) → empty ≡ false → (btree_map_len sets ≡ 0 → IsTrue empty) → IsHeld (held_under m) (kinds_under cs)
  held_when empty not_empty is =
      let row = rows_some (keys_of m) cs sets maps (full_some sets empty not_empty is) in
      is_held m cs (record { d = row.0; t = row.1; has = row.2 })

told_when : (m : BTreeMap ℕ BorrowedLifetimeInfo) (cs : List EdgeCandidate) (sets : BTreeMap ℕ (BTreeSet ℕ)) (empty : Bool) → (IsTrue empty ↔ (btree_map_len sets ≡ 0)) → MapsRows (keys_of m) cs sets
    → MatchBool (not empty) (IsHeld (held_under m) (kinds_under cs)) (IsUnheld (held_under m) (kinds_under cs))
told_when m cs sets true is maps = free_when m cs sets maps (is.0 refl)
told_when m cs sets false is maps = held_when m cs sets maps false refl is.1

pub carrier_told_by : (m : BTreeMap ℕ BorrowedLifetimeInfo) (is_slice : Bool) (c : EdgeCandidate) (sets : BTreeMap ℕ (BTreeSet ℕ)) (empty : Bool) → kind_shown c.kind ≡ whole_kind is_slice → (IsTrue empty ↔ (btree_map_len sets ≡ 0))
    → MapsRows (keys_of m) (c ∷ []) sets
    → MatchBool (not empty) (IsHeld (held_under m) (whole_edges is_slice (candidate_lifetimes c))) (IsUnheld (held_under m) (whole_edges is_slice (candidate_lifetimes c)))
carrier_told_by m is_slice c sets empty kind is maps =
    subst (λ edges. MatchBool (not empty) (IsHeld (held_under m) edges) (IsUnheld (held_under m) edges)) (whole_kinds is_slice c kind) (told_when m (c ∷ []) sets empty is maps)

-- ---- candidates of a struct, one after another

numbered_push : {X : Type 0} (n : ℕ) (xs : List X) (x : X) (at : ℕ) → at ≡ n + length xs → enumerate_from n (xs ++ x ∷ []) ≡ enumerate_from n xs ++ (at, x) ∷ []
numbered_push n [] x at is = let e : n ≡ at = omega arith in ap (λ k. (k, x) ∷ []) e
numbered_push n (y ∷ ys) x at is = ap (λ rest. (n, y) ∷ rest) (numbered_push (n + 1) ys x at (omega (arith, is)))

pub candidates_next : (env : Environment) (optional : Bool) (args : List (MaybeStatic ℕ)) (i : ℕ) (l : MaybeStatic ℕ) (before after : List EdgeCandidate) (c : EdgeCandidate) → i < length args → l ≡ slice_index_or args i l
    → map candidate_shown before ≡ map (struct_candidate env optional) (enumerate_from 0 (take i args)) → after ≡ before ++ c ∷ [] → candidate_shown c ≡ struct_candidate env optional (i, l)
    → map candidate_shown after ≡ map (struct_candidate env optional) (enumerate_from 0 (take (i + 1) args))
candidates_next env optional args i l before after c within is so_far grown shown =
    let many : i ≡ 0 + length (take i args) = grind (arith, length-take) in
    let taken : take (i + 1) args ≡ take i args ++ l ∷ [] = take_more args i l within ∙ ap (λ y. take i args ++ y ∷ []) (sym is) in
    let right : map (struct_candidate env optional) (enumerate_from 0 (take (i + 1) args)) ≡ map (struct_candidate env optional) (enumerate_from 0 (take i args)) ++ struct_candidate env optional (i, l) ∷ [] =
    ap (λ xs. map (struct_candidate env optional) (enumerate_from 0 xs)) taken ∙ (ap (map (struct_candidate env optional)) (numbered_push 0 (take i args) l i many) ∙ map_push (struct_candidate env optional) (enumerate_from 0 (take i args)) (i, l)) in
    ap (map candidate_shown) grown ∙ (map_push candidate_shown before c ∙ (ap (λ xs. xs ++ candidate_shown c ∷ []) so_far ∙ (ap (λ x. map (struct_candidate env optional) (enumerate_from 0 (take i args)) ++ x ∷ []) shown ∙ sym right)))

-- ---- sets that tell of fields

pub no_row : (n : ℕ) (args : List (MaybeStatic ℕ)) (sets : BTreeMap ℕ (BTreeSet ℕ)) → MapsRows (is_own_at n) args sets → btree_map_len sets ≡ 0 → HasRow (is_own_at n) args → ⊥
no_row n args sets maps none row = none_has (sym (rows_none (is_own_at n) args sets maps (empty_none sets none) row.d row.t) ∙ row.has)

pub some_row : (n : ℕ) (args : List (MaybeStatic ℕ)) (sets : BTreeMap ℕ (BTreeSet ℕ)) (empty : Bool) → MapsRows (is_own_at n) args sets → empty ≡ false → (btree_map_len sets ≡ 0 → IsTrue empty) → HasRow (is_own_at n) args
some_row n args sets empty maps not_empty is =
    let row = rows_some (is_own_at n) args sets maps (full_some sets empty not_empty is) in
    record { d = row.0; t = row.1; has = row.2 }
