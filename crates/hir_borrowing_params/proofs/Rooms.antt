-- What a list of edges has, and for how many it has room.
use Rattle.std.proofs.Common.{◌≡◌, ℕ, ◌+◌, ◌≤◌, ◌<◌, List, [], ◌∷◌, ◌++◌, map, length, take, arith, append_assoc, ap, sym, ◌∙◌, Vec, Global, vec_capacity, Bool}
use Rattle.std.proofs.lemmas.List.{map-append, take_more}
use Rattle.std.proofs.lemmas.List.Elements.{filter_map-append}
use Rattle.std.specs.Prelude.{slice_index_or}
use Rattle.std.specs.BTreeSet.{BTreeSet}
use Rattle.hir_borrowing_params.specs.Edges.{HeldFor, NamedEdge, edge_shown, held_for, is_in, named_edge}
use Rattle.hir_borrowing_params.specs.inside.Candidates.{kind_under, kinds_under, with_edges}
use Rattle.hir_borrowing_params.specs.inside.Rooms.{HasRoom}
use Rattle.hir_borrowing_params.specs.declared.candidates.EdgeCandidate.{EdgeCandidate}
use Rattle.hir_borrowing_params.specs.declared.edges.BorrowedLifetimeInfo.{BorrowedLifetimeInfo}
use Rattle.hir_borrowing_params.specs.declared.edges.LifetimeEdge.{LifetimeEdge}

pub held_items : (info : BorrowedLifetimeInfo) (edges : Vec LifetimeEdge Global) → edges.items ≡ info.incoming_edges.items → held_for (record info { incoming_edges = edges }) ≡ held_for info
held_items info edges same = ap (λ (es : List LifetimeEdge). record { longer = info.all_longer_lifetimes; edges = map edge_shown es }) same

pub room_stays : (info : BorrowedLifetimeInfo) (edges : Vec LifetimeEdge Global) (more : ℕ) → edges.items ≡ info.incoming_edges.items → vec_capacity info.incoming_edges ≤ vec_capacity edges → HasRoom more info → HasRoom more (record info { incoming_edges = edges })
room_stays info edges more same larger room = let e : length edges.items ≡ length info.incoming_edges.items = ap length same in omega arith

-- the edges of these
abbrev edges_under : List ℕ → BTreeSet ℕ → List EdgeCandidate → List NamedEdge
edges_under name longer cs = map (named_edge name) (kinds_under cs (is_in longer))

edges_append : (name : List ℕ) (test : ℕ → Bool) (xs ys : List EdgeCandidate) → map (named_edge name) (kinds_under (xs ++ ys) test) ≡ map (named_edge name) (kinds_under xs test) ++ map (named_edge name) (kinds_under ys test)
edges_append name test xs ys = ap (map (named_edge name)) (filter_map-append (kind_under test) xs ys) ∙ map-append (named_edge name) (kinds_under xs test) (kinds_under ys test)

with_both : (name : List ℕ) (xs ys : List EdgeCandidate) (h : HeldFor) → with_edges name ys (with_edges name xs h) ≡ with_edges name (xs ++ ys) h
with_both name xs ys h =
    let joined : (h.edges ++ edges_under name h.longer xs) ++ edges_under name h.longer ys ≡ h.edges ++ edges_under name h.longer (xs ++ ys) =
    append_assoc h.edges (edges_under name h.longer xs) (edges_under name h.longer ys) ∙ ap (λ es. h.edges ++ es) (sym (edges_append name (is_in h.longer) xs ys)) in
    ap (λ (es : List NamedEdge). record { longer = h.longer; edges = es }) joined

-- one candidate more
pub with_next : (name : List ℕ) (cs : List EdgeCandidate) (i : ℕ) (c : EdgeCandidate) (old here new : HeldFor) → i < length cs → c ≡ slice_index_or cs i c
    → here ≡ with_edges name (take i cs) old → new ≡ with_edges name (c ∷ []) here → new ≡ with_edges name (take (i + 1) cs) old
with_next name cs i c old here new within is before after =
    after ∙ (ap (with_edges name (c ∷ [])) before ∙ (with_both name (take i cs) (c ∷ []) old
    ∙ ap (λ xs. with_edges name xs old) (sym (take_more cs i c within ∙ ap (λ x. take i cs ++ x ∷ []) (sym is)))))
