-- What a buffer holds while a source is read into it.
use Rattle.std.proofs.Common.{◌≡◌, ◌+◌, ◌≤◌, ◌<◌, ◌↔◌, ◌++◌, ◌∙◌, [], ℕ, List, Option, None, Some, Ok, IfSome, length, take, drop, sym, ap, subst, arith, length-drop}
use Rattle.std.proofs.lemmas.List.{drop-drop, length-take-le, take_at, take_all}
use Rattle.std.proofs.Math.Seq.{take-add}
use Rattle.bridge_outside.specs.Outside.{Reads, SourceState, left_after}

-- the first len bytes of the buffer are those that the source had left at the start, and it has the others left
pub record ReadSoFar (start now : Option (List ℕ)) (len : ℕ) (bytes : List ℕ) : Type 0 where
  pub gone : now ≡ left_after len start
  pub enough : IfSome start (λ all. len ≤ length all)
  pub front : IfSome start (λ all. take len bytes ≡ take len all)

-- more room leaves what was read
pub room_made : {start now : Option (List ℕ)} {len : ℕ} (bytes bytes' : List ℕ) → ReadSoFar start now len bytes → take len bytes' ≡ take len bytes → ReadSoFar start now len bytes'
room_made {start = None} bytes bytes' so_far kept = record { gone = so_far.gone; enough = tt; front = tt }
room_made {start = Some all} bytes bytes' so_far kept = record { gone = so_far.gone; enough = so_far.enough; front = kept ∙ so_far.front }

-- n more bytes of what was left
front_more : (all bytes bytes' : List ℕ) (len n : ℕ) → take len bytes ≡ take len all → n ≤ length (drop len all)
    → take len bytes' ≡ take len bytes → drop len bytes' ≡ take n (drop len all) ++ drop n (drop len bytes) → take (len + n) bytes' ≡ take (len + n) all
front_more all bytes bytes' len n front enough kept given =
    let same : take n (drop len bytes') ≡ take n (drop len all) = ap (take n) given ∙ take_at (take n (drop len all)) (drop n (drop len bytes)) n (length-take-le n (drop len all) enough) in
    take-add len n bytes' ∙ ap (λ xs. xs ++ take n (drop len bytes')) (kept ∙ front) ∙ ap (λ xs. take len all ++ xs) same ∙ sym (take-add len n all)

pub read_more : {E : Type 0} (start : Option (List ℕ)) {now now' : SourceState} {len n : ℕ} (bytes bytes' : List ℕ)
    → ReadSoFar start now.left len bytes → Reads {E = E} now now' (drop len bytes) (drop len bytes') (Ok n)
    → take len bytes' ≡ take len bytes → ReadSoFar start now'.left (len + n) bytes'
read_more None bytes bytes' so_far read kept = record {
  gone = read.gone ∙ ap (left_after _) so_far.gone;
  enough = tt;
  front = tt;
}
read_more (Some all) {now} {now'} {len = len} {n = n} bytes bytes' so_far read kept =
    let enough : n ≤ length (drop len all) = subst (λ (o : Option (List ℕ)). IfSome o (λ bytes. n ≤ length bytes)) so_far.gone read.enough in
    let given : drop len bytes' ≡ take n (drop len all) ++ drop n (drop len bytes) = subst (λ (o : Option (List ℕ)). IfSome o (λ xs. drop len bytes' ≡ take n xs ++ drop n (drop len bytes))) so_far.gone read.given in
    let before : len ≤ length all = so_far.enough in
    record {
      gone = read.gone ∙ ap (left_after n) so_far.gone ∙ ap Some (drop-drop n len all);
      enough = omega (arith, length-drop len all);
      front = front_more all bytes bytes' len n so_far.front enough kept given;
    }

-- a read that gives nothing, where there was room, shows that all was read
pub all_read : {E : Type 0} (start : Option (List ℕ)) {now now' : SourceState} {len n : ℕ} (bytes bytes' : List ℕ)
    → ReadSoFar start now.left len bytes → Reads {E = E} now now' (drop len bytes) (drop len bytes') (Ok n) → n ≡ 0
    → take len bytes' ≡ take len bytes → len < length bytes → IfSome start (λ all. (take len bytes' ≡ all) × (now'.left ≡ Some []))
all_read None bytes bytes' so_far read zero kept room = tt
all_read (Some all) {now} {len = len} {n = n} bytes bytes' so_far read zero kept room =
    let some : 0 < length (drop len bytes) = omega (arith, length-drop len bytes) in
    let nothing : drop len all ≡ [] = (subst (λ (o : Option (List ℕ)). IfSome o (λ xs. (n ≡ 0) ↔ (xs ≡ []))) so_far.gone (read.at_end some)).0 zero in
    let whole : length all ≤ len = omega (arith, length-drop len all, ap length nothing) in
    (kept ∙ so_far.front ∙ take_all len all whole, read.gone ∙ ap (left_after n) so_far.gone ∙ ap (λ k. Some (drop k (drop len all))) zero ∙ ap Some nothing)

-- so the buffer, cut, is what the source had
pub whole_read : {E : Type 0} (start : Option (List ℕ)) {now now' : SourceState} {len n : ℕ} (bytes bytes' cut : List ℕ)
    → ReadSoFar start now.left len bytes → Reads {E = E} now now' (drop len bytes) (drop len bytes') (Ok n) → n ≡ 0
    → take len bytes' ≡ take len bytes → len < length bytes → cut ≡ take len bytes' → IfSome start (λ all. cut ≡ all)
whole_read None bytes bytes' cut so_far read zero kept room e = tt
whole_read (Some all) bytes bytes' cut so_far read zero kept room e = e ∙ (all_read (Some all) bytes bytes' so_far read zero kept room).0

-- what a read gives fits behind what was read
pub fits_behind : {len n : ℕ} (bytes : List ℕ) → n ≤ length (drop len bytes) → len ≤ length bytes → len + n ≤ length bytes
fits_behind {len = len} bytes bound within = omega (arith, length-drop len bytes)
