-- A search for the ends of aliases.
use Rattle.std.proofs.Common.{◌≡◌, ℕ, zero, suc, ◌<◌, ◌^◌, Bool, true, false, cond, List, [], ◌∷◌, ◌++◌, Option, Some, None}
use Rattle.std.proofs.Common.{refl, sym, ap, ◌∙◌, arith, subst, inl, inr, ◌⊎◌, IsTrue}
use Rattle.std.specs.Bool.{OnFalse}
use Rattle.std.specs.BTreeMap.{BTreeMap, get, is_at}
use Rattle.std.specs.BTreeSet.{BTreeSet, contains}
use Rattle.std.specs.List.{list_any}
use Rattle.std.specs.Map.{lookup}
use Rattle.std.specs.Ordering.{nat_cmp, is_eq}
use Rattle.std.proofs.lemmas.Map.Lookups.{exact_pairs, exact_unsigned}
use Rattle.std.proofs.lemmas.Map.Views.{tells_apart}
use Rattle.bridge_decl.specs.declared.modules.Module.{Module}
use Rattle.bridge_ast.specs.declared.alias_ends.Frame.{Frame}
use Rattle.bridge_ast.specs.declared.trail.Trail.{Trail}
use Rattle.bridge_ast.specs.inside.AliasEnds.{IsAlias, IsEnd, LeadsNowhere, KnowsEnds, alias_leads}
use Rattle.bridge_ast.specs.inside.Pairs.{pair_cmp}
use Rattle.bridge_ast.specs.inside.Searches.{IsFrame, WaitsFor, IsOn, IsStack, Has, IsSearch, IsWaiting}
use Rattle.bridge_ast.specs.inside.Trails.{IsInside}
use Rattle.bridge_ast.proofs.PairLemmas.{pair_itself}

-- ---- aliases that wait for one another

-- where each of some aliases waits for one of them, they lead nowhere
module _ (modules : List Module) (Among : ℕ × ℕ → Type 0) (waits : (alias : ℕ × ℕ) → Among alias → WaitsFor modules Among alias)
  where
    nowhere_below : (bound : ℕ) (alias : ℕ × ℕ) → Among alias → (steps : ℕ) (rest : List (List ℕ)) → steps < bound
        → steps < 2 ^ 128
        → alias_leads steps modules alias rest ≡ None
    nowhere_below zero alias among steps rest less few = absurd (omega arith)
    nowhere_below (suc bound) alias among steps rest less few =
        elim (waits alias among steps rest few) [
          | inl none ↦ none
          | inr later ↦ later.same ∙ nowhere_below bound later.next later.among later.fewer later.rest
              (omega (arith, later.less, less)) (omega (arith, later.less, few))
        ]

    all_nowhere : (alias : ℕ × ℕ) → Among alias → LeadsNowhere modules alias
    all_nowhere alias among = λ steps rest few. nowhere_below (suc steps) alias among steps rest (omega arith) few

waits_more : (modules : List Module) (A B : ℕ × ℕ → Type 0) (alias : ℕ × ℕ) → ((other : ℕ × ℕ) → A other → B other)
    → WaitsFor modules A alias → WaitsFor modules B alias
waits_more modules A B alias into waits = λ steps rest few.
    elim (waits steps rest few) [
      | inl none ↦ inl none
      | inr later ↦ inr (record {
        next = later.next;
        among = into later.next later.among;
        fewer = later.fewer;
        less =
            later.less;
        rest = later.rest;
        same = later.same;
      })
    ]

-- ---- the trails on their way

on_last : (frames : List Frame) (last : Frame) → IsOn (frames ++ last ∷ []) last.alias
on_last [] last = inl refl
on_last (frame ∷ frames) last = inr (on_last frames last)

on_front : (frames others : List Frame) (alias : ℕ × ℕ) → IsOn frames alias → IsOn (frames ++ others) alias
on_front [] others alias on = absurd on
on_front (frame ∷ frames) others alias on = elim on [ inl here ↦ inl here | inr later ↦ inr (on_front frames others alias later) ]

on_cases : (frames : List Frame) (last : Frame) (alias : ℕ × ℕ) → IsOn (frames ++ last ∷ []) alias
    → IsOn frames alias ⊎ (last.alias ≡ alias)
on_cases [] last alias on = elim on [ inl here ↦ inr here | inr none ↦ absurd none ]
on_cases (frame ∷ frames) last alias on =
    elim on [
      | inl here ↦ inl (inl here)
      | inr later ↦ elim (on_cases frames last alias later) [ inl w ↦ inl (inr w) | inr w ↦ inr w ]
    ]

stack_parts : (modules : List Module) (frames : List Frame) (last : Frame) → IsStack modules (frames ++ last ∷ [])
    → IsStack modules frames × IsFrame modules last
stack_parts modules [] last h = (tt, h)
stack_parts modules (frame ∷ []) last h = (h.0, h.2)
stack_parts modules (frame ∷ next ∷ frames) last h =
    let rest = stack_parts modules (next ∷ frames) last h.2 in ((h.0, h.1, rest.0), rest.1)

stack_more : (modules : List Module) (frames : List Frame) (last new : Frame) → IsStack modules (frames ++ last ∷ [])
    → WaitsFor modules (λ alias. new.alias ≡ alias) last.alias → IsFrame modules new
    → IsStack modules ((frames ++ last ∷ []) ++ new ∷ [])
stack_more modules [] last new h waits is_frame = (h, waits, is_frame)
stack_more modules (frame ∷ []) last new h waits is_frame = (h.0, h.1, (h.2, waits, is_frame))
stack_more modules (frame ∷ next ∷ frames) last new h waits is_frame =
    (h.0, h.1, stack_more modules (next ∷ frames) last new h.2 waits is_frame)

stack_changed : (modules : List Module) (frames : List Frame) (last new : Frame) → IsStack modules (frames ++ last ∷ [])
    → last.alias ≡ new.alias → IsFrame modules new → IsStack modules (frames ++ new ∷ [])
stack_changed modules [] last new h same is_frame = is_frame
stack_changed modules (frame ∷ []) last new h same is_frame =
    (h.0, subst (λ (a : ℕ × ℕ). WaitsFor modules (λ alias. a ≡ alias) frame.alias) same h.1, is_frame)
stack_changed modules (frame ∷ next ∷ frames) last new h same is_frame =
    (h.0, h.1, stack_changed modules (next ∷ frames) last new h.2 same is_frame)

stack_waits : (modules : List Module) (Among : ℕ × ℕ → Type 0) (frames : List Frame) (last : Frame)
    → ((alias : ℕ × ℕ) → IsOn (frames ++ last ∷ []) alias → Among alias) → IsStack modules (frames ++ last ∷ [])
    → WaitsFor modules Among last.alias
    → (alias : ℕ × ℕ) → IsOn (frames ++ last ∷ []) alias → WaitsFor modules Among alias
stack_waits modules Among [] last into h waits alias on =
    elim on [ inl here ↦ subst (WaitsFor modules Among) here waits | inr none ↦ absurd none ]
stack_waits modules Among (frame ∷ []) last into h waits alias on =
    elim on [
      | inl here ↦ subst (WaitsFor modules Among) here (waits_more modules (λ a. last.alias ≡ a) Among frame.alias
          (λ a same. into a (inr (inl same))) h.1)
      | inr later ↦ stack_waits modules Among [] last (λ a there. into a (inr there)) h.2 waits alias later
    ]
stack_waits modules Among (frame ∷ next ∷ frames) last into h waits alias on =
    elim on [
      | inl here ↦ subst (WaitsFor modules Among) here (waits_more modules (λ a. next.alias ≡ a) Among frame.alias
          (λ a same. into a (inr (inl same))) h.1)
      | inr later ↦ stack_waits modules Among (next ∷ frames) last (λ a there. into a (inr there)) h.2 waits alias later
    ]

-- ---- a search, one step further

same_pair : (one other : ℕ × ℕ) → is_eq (pair_cmp one other) ≡ true → one ≡ other
same_pair one other h = tells_apart (exact_pairs nat_cmp nat_cmp exact_unsigned exact_unsigned) one other h

apart : (one other : ℕ × ℕ) → is_eq (pair_cmp one other) ≡ false → one ≡ other → ⊥
apart one other h same =
    let e : is_eq (pair_cmp one other) ≡ true = ap (λ (p : ℕ × ℕ). is_eq (pair_cmp one p)) (sym same)
    ∙ ap is_eq (pair_itself one) in cc

found_new : (b : Bool) (before now : Option Trail) (end other : Trail) → now ≡ cond b (Some end) before → now ≡ Some other
    → ((b ≡ true) × (end ≡ other)) ⊎ (before ≡ Some other)
found_new true before now end other is found = inl (refl, cc)
found_new false before now end other is found = inr (sym is ∙ found)

none_new : (b : Bool) (before now : Option Trail) (end : Trail) → now ≡ cond b (Some end) before → now ≡ None → (b ≡ false)
    × (before ≡ None)
none_new true before now end is none = absurd cc
none_new false before now end is none = (refl, sym is ∙ none)

-- the trail has come to the end of the target
pub search_ended : (modules : List Module) (old new : BTreeMap (ℕ × ℕ) Trail) (unbegun : BTreeSet (ℕ × ℕ)) (frames : List Frame)
    (last : Frame) (end : Trail) → IsSearch modules old unbegun (frames ++ last ∷ []) → IsEnd modules last.alias end
    → IsInside modules end.stand
    → ((alias : ℕ × ℕ) → get pair_cmp new alias ≡ cond {A = Option Trail} (is_eq (pair_cmp last.alias alias)) (Some end)
    (get pair_cmp old alias)) → IsSearch modules new unbegun frames
search_ended modules old new unbegun frames last end search is_end inside updates = record {
  known = record {
    leads = λ alias other found.
        elim (found_new (is_eq (pair_cmp last.alias alias)) (get pair_cmp old alias) (get pair_cmp new alias) end other
        (updates alias) found) [
          | inl here ↦ subst (λ (a : ℕ × ℕ). IsEnd modules a other) (same_pair last.alias alias here.0)
              (subst (IsEnd modules last.alias) here.1 is_end)
          | inr before ↦ search.known.leads alias other before
        ];
    inside = λ alias other found.
        elim (found_new (is_eq (pair_cmp last.alias alias)) (get pair_cmp old alias) (get pair_cmp new alias) end other
        (updates alias) found) [
          | inl here ↦ subst (λ (w : Trail). IsInside modules w.stand) here.1 inside
          | inr before ↦ search.known.inside alias other before
        ];
  };
  aliases = search.aliases;
  stacked = (stack_parts modules frames last search.stacked).0;
  others = λ alias is_alias unknown.
      let was = none_new (is_eq (pair_cmp last.alias alias)) (get pair_cmp old alias) (get pair_cmp new alias) end
      (updates alias) unknown in
      elim (search.others alias is_alias was.1) [
        | inl waiting ↦ inl waiting
        | inr (inl on) ↦ elim (on_cases frames last alias on) [
          | inl still ↦ inr (inl still)
          | inr same ↦ absurd
              (apart last.alias alias was.0 same)
        ]
        | inr (inr nowhere) ↦ inr (inr nowhere)
      ];
}

-- all trails on their way lead nowhere
pub search_cleared : (modules : List Module) (ends : BTreeMap (ℕ × ℕ) Trail) (unbegun : BTreeSet (ℕ × ℕ)) (frames : List Frame)
    (last : Frame) → IsSearch modules ends unbegun (frames ++ last ∷ []) → WaitsFor modules
    (IsOn (frames ++ last ∷ [])) last.alias → IsSearch modules ends unbegun []
search_cleared modules ends unbegun frames last search waits = record {
  known = search.known;
  aliases = search.aliases;
  stacked = tt;
  others = λ alias is_alias unknown.
      elim (search.others alias is_alias unknown) [
        | inl waiting ↦ inl waiting
        | inr (inl on) ↦ inr (inr (all_nowhere modules (IsOn (frames ++ last ∷ []))
            (stack_waits modules (IsOn (frames ++ last ∷ [])) frames last (λ a there. there) search.stacked waits) alias on))
        | inr (inr nowhere) ↦ inr (inr nowhere)
      ];
}

pub search_stopped : (modules : List Module) (ends : BTreeMap (ℕ × ℕ) Trail) (unbegun : BTreeSet (ℕ × ℕ)) (frames : List Frame)
    (last : Frame) → IsSearch modules ends unbegun (frames ++ last ∷ []) → LeadsNowhere modules last.alias
    → IsSearch modules ends unbegun []
search_stopped modules ends unbegun frames last search nowhere =
    search_cleared modules ends unbegun frames last search (λ steps rest few. inl (nowhere steps rest few))

-- the trail waits for an alias that is begun
pub search_circled : (modules : List Module) (ends : BTreeMap (ℕ × ℕ) Trail) (unbegun : BTreeSet (ℕ × ℕ)) (frames : List Frame)
    (last : Frame) (next : ℕ × ℕ) → IsSearch modules ends unbegun (frames ++ last ∷ []) → IsWaiting modules ends last.alias next
    → (Has unbegun next → ⊥) → IsSearch modules ends unbegun []
search_circled modules ends unbegun frames last next search waiting is_begun =
    search_cleared modules ends unbegun frames last search (λ steps rest few.
    elim (waiting.waits steps rest few) [
      | inl none ↦ inl none
      | inr later ↦
          let same : alias_leads steps modules last.alias rest ≡ alias_leads later.fewer modules next later.rest =
          later.same ∙ ap (λ (a : ℕ × ℕ). alias_leads later.fewer modules a later.rest) (sym later.among) in
          elim (search.others next waiting.is_alias waiting.unknown) [
            | inl unbegun_yet ↦ absurd (is_begun unbegun_yet)
            | inr (inl on) ↦ inr (record {
              next = next;
              among = on;
              fewer = later.fewer;
              less = later.less;
              rest =
                  later.rest;
              same = same;
            })
            | inr (inr nowhere) ↦ inl (same ∙ nowhere later.fewer later.rest (omega (arith, later.less, few)))
          ]
    ])

taken_out : (b was now : Bool) → now ≡ cond b false was → now ≡ true → was ≡ true
taken_out true was now is h = absurd cc
taken_out false was now is h = sym is ∙ h

stays_in : (b was now : Bool) → now ≡ cond b false was → was ≡ true → (b ≡ true) ⊎ (now ≡ true)
stays_in true was now is h = inl refl
stays_in false was now is h = inr (is ∙ h)

-- a trail is begun
search_more : (modules : List Module) (ends : BTreeMap (ℕ × ℕ) Trail) (old now : BTreeSet (ℕ × ℕ)) (stack : List Frame)
    (new : Frame) → IsSearch modules ends old stack → IsStack modules (stack ++ new ∷ [])
    → ((alias : ℕ × ℕ) → contains pair_cmp now alias ≡ cond {A = Bool} (is_eq (pair_cmp new.alias alias)) false
    (contains pair_cmp old alias)) → IsSearch modules ends now (stack ++ new ∷ [])
search_more modules ends old now stack new search stacked updates = record {
  known = search.known;
  aliases =
      λ alias has. search.aliases alias (taken_out (is_eq (pair_cmp new.alias alias)) (contains pair_cmp old alias)
      (contains pair_cmp now alias) (updates alias) has);
  stacked = stacked;
  others = λ alias is_alias unknown.
      elim (search.others alias is_alias unknown) [
        | inl waiting ↦
            elim (stays_in (is_eq (pair_cmp new.alias alias)) (contains pair_cmp old alias) (contains pair_cmp now alias)
            (updates alias) waiting) [
              | inl here ↦ inr (inl (subst (IsOn (stack ++ new ∷ [])) (same_pair new.alias alias here) (on_last stack new)))
              | inr still ↦ inl still
            ]
        | inr (inl on) ↦ inr (inl (on_front stack (new ∷ []) alias on))
        | inr (inr nowhere) ↦ inr (inr nowhere)
      ];
}

pub search_waits : (modules : List Module) (ends : BTreeMap (ℕ × ℕ) Trail) (old now : BTreeSet (ℕ × ℕ)) (frames : List Frame)
    (last new : Frame) (next : ℕ × ℕ) → IsSearch modules ends old (frames ++ last ∷ []) → IsWaiting modules ends last.alias next
    → new.alias ≡ next → IsFrame modules new
    → ((alias : ℕ × ℕ) → contains pair_cmp now alias ≡ cond {A = Bool} (is_eq (pair_cmp next alias)) false
    (contains pair_cmp old alias)) → IsSearch modules ends now ((frames ++ last ∷ []) ++ new ∷ [])
search_waits modules ends old now frames last new next search waiting same is_frame updates =
    search_more modules ends old now (frames ++ last ∷ []) new search
    (stack_more modules frames last new search.stacked (subst (λ (a : ℕ × ℕ). WaitsFor modules (λ alias. a ≡ alias) last.alias)
    (sym same) waiting.waits) is_frame)
    (λ alias. updates alias ∙ ap (λ (a : ℕ × ℕ). cond {A = Bool} (is_eq (pair_cmp a alias)) false (contains pair_cmp old alias))
    (sym same))

pub search_begun : (modules : List Module) (ends : BTreeMap (ℕ × ℕ) Trail) (old now : BTreeSet (ℕ × ℕ)) (new : Frame)
    (next : ℕ × ℕ) → IsSearch modules ends old [] → new.alias ≡ next → IsFrame modules new
    → ((alias : ℕ × ℕ) → contains pair_cmp now alias ≡ cond {A = Bool} (is_eq (pair_cmp next alias)) false
    (contains pair_cmp old alias)) → IsSearch modules ends now (new ∷ [])
search_begun modules ends old now new next search same is_frame updates =
    search_more modules ends old now [] new search is_frame (λ alias. updates alias
    ∙ ap (λ (a : ℕ × ℕ). cond {A = Bool} (is_eq (pair_cmp a alias)) false (contains pair_cmp old alias)) (sym same))

-- the trail has come further, before it waits
pub search_changed : (modules : List Module) (ends : BTreeMap (ℕ × ℕ) Trail) (unbegun : BTreeSet (ℕ × ℕ)) (frames : List Frame)
    (last new : Frame) → IsSearch modules ends unbegun (frames ++ last ∷ []) → new.alias ≡ last.alias → IsFrame modules new
    → IsSearch modules ends unbegun (frames ++ new ∷ [])
search_changed modules ends unbegun frames last new search same is_frame = record {
  known = search.known;
  aliases = search.aliases;
  stacked = stack_changed modules frames last new search.stacked (sym same) is_frame;
  others = λ alias is_alias unknown.
      elim (search.others alias is_alias unknown) [
        | inl waiting ↦ inl waiting
        | inr (inl on) ↦
            elim (on_cases frames last alias on) [
              | inl still ↦ inr (inl (on_front frames (new ∷ []) alias still))
              | inr here ↦ inr (inl (subst (IsOn (frames ++ new ∷ [])) (same ∙ here) (on_last frames new)))
            ]
        | inr (inr nowhere) ↦ inr (inr nowhere)
      ];
}

-- ---- its start and its end

pub search_starts : (modules : List Module) (ends : BTreeMap (ℕ × ℕ) Trail) (unbegun : BTreeSet (ℕ × ℕ)) → ends.entries ≡ []
    → ((alias : ℕ × ℕ) → Has unbegun alias → IsAlias modules alias) → ((alias : ℕ × ℕ) → IsAlias modules alias
    → Has unbegun alias) → IsSearch modules ends unbegun []
search_starts modules ends unbegun empty are all = record {
  known = record {
    leads = λ alias end found. absurd (nothing alias end found);
    inside = λ alias end found. absurd (nothing alias end found);
  };
  aliases = are;
  stacked = tt;
  others = λ alias is_alias unknown. inl (all alias is_alias);
}
  where
    nothing : (alias : ℕ × ℕ) (end : Trail) → get pair_cmp ends alias ≡ Some end → ⊥
    nothing alias end found = let none : get pair_cmp ends alias ≡ None = ap (lookup (is_at (pair_cmp alias))) empty in cc

pub search_done : (modules : List Module) (ends : BTreeMap (ℕ × ℕ) Trail) (unbegun : BTreeSet (ℕ × ℕ))
    → IsSearch modules ends unbegun [] → unbegun.keys ≡ [] → KnowsEnds ends modules
search_done modules ends unbegun search empty = record {
  are = search.known;
  nowhere = λ alias is_alias unknown.
      elim (search.others alias is_alias unknown) [
        | inl waiting ↦ absurd (let none : contains pair_cmp unbegun alias ≡ false =
            ap (list_any (is_at (pair_cmp alias))) empty in cc)
        | inr (inl on) ↦ absurd on
        | inr (inr nowhere) ↦ nowhere
      ];
}

-- ---- what an answer of a set says

not_there : (b : Bool) → b ≡ false → IsTrue b → ⊥
not_there b none some = cc

on_false : (b : Bool) (P : Type 0) → OnFalse b P → b ≡ false → P
on_false true P h none = absurd cc
on_false false P h none = h

-- a set that has the same aliases
pub search_same : (modules : List Module) (ends : BTreeMap (ℕ × ℕ) Trail) (old now : BTreeSet (ℕ × ℕ)) (stack : List Frame)
    → now.keys ≡ old.keys → IsSearch modules ends old stack → IsSearch modules ends now stack
search_same modules ends old now stack same search = record {
  known = search.known;
  aliases = λ alias has. search.aliases alias (sym (same_has alias) ∙ has);
  stacked = search.stacked;
  others =
      λ alias is_alias unknown. elim (search.others alias is_alias unknown) [
        | inl waiting ↦ inl
            (same_has alias ∙ waiting)
        | inr known ↦ inr known
      ];
}
  where
    same_has : (alias : ℕ × ℕ) → contains pair_cmp now alias ≡ contains pair_cmp old alias
    same_has alias = ap (list_any (is_at (pair_cmp alias))) same

-- the trail waits for an alias that was taken out before
pub search_circled_at : (modules : List Module) (ends : BTreeMap (ℕ × ℕ) Trail) (old now : BTreeSet (ℕ × ℕ))
    (frames after : List Frame) (last : Frame) (next : ℕ × ℕ) (was : Bool) → IsSearch modules ends old (frames ++ last ∷ [])
    → IsWaiting modules ends last.alias next
    → was ≡ contains pair_cmp old next → was ≡ false → OnFalse was (now.keys ≡ old.keys) → after ≡ []
    → IsSearch modules ends now after
search_circled_at modules ends old now frames after last next was search waiting is none same empty =
    subst (IsSearch modules ends now) (sym empty)
    (search_same modules ends old now [] (on_false was (now.keys ≡ old.keys) same none)
    (search_circled modules ends old frames last next search waiting (not_there (contains pair_cmp old next)
    (sym is ∙ none))))

pub search_waits_at : (modules : List Module) (ends : BTreeMap (ℕ × ℕ) Trail) (old now : BTreeSet (ℕ × ℕ))
    (frames middle after : List Frame) (last new : Frame) (next : ℕ × ℕ) → IsSearch modules ends old (frames ++ last ∷ [])
    → IsWaiting modules ends last.alias next → new.alias ≡ next → (IsAlias modules next → IsFrame modules new)
    → ((alias : ℕ × ℕ) → contains pair_cmp now alias ≡ cond {A = Bool} (is_eq (pair_cmp next alias)) false
    (contains pair_cmp old alias)) → middle ≡ frames ++ last ∷ [] → after ≡ middle ++ new ∷ []
    → IsSearch modules ends now after
search_waits_at modules ends old now frames middle after last new next search waiting same is_frame updates first second =
    subst (IsSearch modules ends now) (sym (second ∙ ap (λ xs. xs ++ new ∷ []) first))
    (search_waits modules ends old now frames last new next search waiting same (is_frame waiting.is_alias) updates)

-- the last trail on its way
pub last_frame : (modules : List Module) (ends : BTreeMap (ℕ × ℕ) Trail) (unbegun : BTreeSet (ℕ × ℕ)) (frames : List Frame)
    (last : Frame) → IsSearch modules ends unbegun (frames ++ last ∷ []) → IsFrame modules last
last_frame modules ends unbegun frames last search = (stack_parts modules frames last search.stacked).1
