-- How printings follow one another.
use Rattle.std.proofs.Common.{◌≡◌, ◌+◌, ◌≤◌, ◌++◌, ◌∙◌, ◌⊎◌, inl, inr, [], ℕ, List, true, false, Option, None, Some, Result, Ok, Err, IsSome, IsNone, is_some, length, take, drop, refl, sym, ap, subst, append_assoc, arith, length-drop}
use Rattle.std.proofs.lemmas.List.{append-nil, append_cancel_left}
use Rattle.std.proofs.Math.Seq.{take-add}
use Rattle.bridge_outside.specs.Outside.{Rose, SinkState, Writes, taken_with}
use Rattle.bridge_outside.specs.Printing.{Printing, Prints, Delivers, IsEndOf, begins}
use Rattle.bridge_outside.specs.declared.sink.SinkFault.{SinkFault}
use Rattle.bridge_outside.specs.declared.sink.SinkFault.TheVariants.{Failed, NoMemory}

pub taken_with-nothing : (taken : Option (List ℕ)) → taken_with taken [] ≡ taken
taken_with-nothing None = refl
taken_with-nothing (Some bytes) = ap Some (append-nil bytes)

pub taken_with-append : (taken : Option (List ℕ)) (xs ys : List ℕ) → taken_with (taken_with taken xs) ys ≡ taken_with taken (xs ++ ys)
taken_with-append None xs ys = refl
taken_with-append (Some bytes) xs ys = ap Some (append_assoc bytes xs ys)

cases_fault : (fault : Option SinkFault) → IsNone fault ⊎ IsSome fault
cases_fault None = inl refl
cases_fault (Some fault) = inr refl

not_both : {A : Type 0} (fault : Option SinkFault) → IsNone fault → IsSome fault → A
not_both fault none some = let e : false ≡ true = sym none ∙ some in cc

-- without a fault in between
chain_running : {a b c : SinkState} {out_a out_b out_c : Printing} {x y : List ℕ}
    → IsNone out_b.fault → Prints a out_a b out_b x → Prints b out_b c out_c y → Prints a out_a c out_c (x ++ y)
chain_running {a = a} {b = b} {c = c} {out_a = out_a} {out_b = out_b} {out_c = out_c} {x = x} {y = y} running p q = record {
  sent = p.sent ++ q.sent;
  rest = q.rest;
  parts = append_assoc p.sent q.sent q.rest ∙ ap (λ zs. p.sent ++ zs) (q.parts ∙ ap (λ zs. zs ++ y) (sym (p.holds running)))
      ∙ sym (append_assoc p.sent p.rest y) ∙ ap (λ zs. zs ++ y) p.parts ∙ append_assoc out_a.held x y;
  took = q.took ∙ ap (λ zs. taken_with zs q.sent) p.took ∙ taken_with-append a.taken p.sent q.sent;
  holds = q.holds;
  stuck = λ stopped. not_both out_b.fault running (ap (λ (out : Printing). is_some out.fault) (p.stuck stopped).0 ∙ stopped);
  steady = λ none. q.steady none ∙ p.steady running;
  failed = λ failed begun. subst (λ n. Rose n c.faults) (p.steady running) (q.failed failed running);
  no_memory = λ memory. q.no_memory memory ∙ p.steady running;
  never_falls = let first = p.never_falls in let second = q.never_falls in omega arith;
}

-- after a fault
chain_stopped : {a b c : SinkState} {out_a out_b out_c : Printing} {x y : List ℕ}
    → IsSome out_b.fault → Prints a out_a b out_b x → Prints b out_b c out_c y → Prints a out_a c out_c (x ++ y)
chain_stopped {a = a} {b = b} {c = c} {out_a = out_a} {out_b = out_b} {out_c = out_c} {x = x} {y = y} stopped p q =
    let same : out_c ≡ out_b = (q.stuck stopped).0 in
    let same_fault : out_b.fault ≡ out_c.fault = sym (ap (λ (out : Printing). out.fault) same) in
    let same_count : c.faults ≡ b.faults = (q.stuck stopped).2 in
    let still : IsSome out_c.fault = ap is_some (sym same_fault) ∙ stopped in
    record {
      sent = p.sent;
      rest = p.rest ++ y;
      parts = sym (append_assoc p.sent p.rest y) ∙ ap (λ zs. zs ++ y) p.parts ∙ append_assoc out_a.held x y;
      took = (q.stuck stopped).1 ∙ p.took;
      holds = λ none. not_both out_c.fault none still;
      stuck = λ begun. (same ∙ (p.stuck begun).0, (q.stuck stopped).1 ∙ (p.stuck begun).1, same_count ∙ (p.stuck begun).2);
      steady = λ none. not_both out_c.fault none still;
      failed = λ failed begun. subst (λ n. Rose a.faults n) (sym same_count) (p.failed (same_fault ∙ failed) begun);
      no_memory = λ memory. same_count ∙ p.no_memory (same_fault ∙ memory);
      never_falls = let first = p.never_falls in omega arith;
    }

-- one text after another
pub ◌⨟◌ : {a b c : SinkState} {out_a out_b out_c : Printing} {x y : List ℕ}
    → Prints a out_a b out_b x → Prints b out_b c out_c y → Prints a out_a c out_c (x ++ y)
p ⨟ q = elim (cases_fault _) [ inl running ↦ chain_running running p q | inr stopped ↦ chain_stopped stopped p q ]

infixl 30 ◌⨟◌
-- nothing
pub prints_nothing : {sink : SinkState} {out : Printing} → Prints sink out sink out []
prints_nothing {sink = sink} {out = out} = record {
  sent = [];
  rest = out.held;
  parts = sym (append-nil out.held);
  took = sym (taken_with-nothing sink.taken);
  holds = λ none. refl;
  stuck = λ stopped. (refl, refl, refl);
  steady = λ none. refl;
  failed = λ failed begun. not_both out.fault begun (ap is_some failed);
  no_memory = λ memory. refl;
  never_falls = omega arith;
}

-- anything, after a fault
pub prints_stopped : {sink : SinkState} {out : Printing} {text : List ℕ}
    → IsSome out.fault → Prints sink out sink out text
prints_stopped {sink = sink} {out = out} {text = text} stopped = record {
  sent = [];
  rest = out.held ++ text;
  parts = refl;
  took = sym (taken_with-nothing sink.taken);
  holds = λ none. not_both out.fault none stopped;
  stuck = λ stopped. (refl, refl, refl);
  steady = λ none. refl;
  failed = λ failed begun. not_both out.fault begun stopped;
  no_memory = λ memory. refl;
  never_falls = omega arith;
}

-- a text that is held back
pub prints_held : {sink : SinkState} {out out' : Printing} {text : List ℕ}
    → IsNone out.fault → out'.held ≡ out.held ++ text → out'.fault ≡ out.fault → Prints sink out sink out' text
prints_held {sink = sink} {out = out} {out' = out'} {text = text} running held same = record {
  sent = [];
  rest = out.held ++ text;
  parts = refl;
  took = sym (taken_with-nothing sink.taken);
  holds = λ none. sym held;
  stuck = λ stopped. not_both out.fault running stopped;
  steady = λ none. refl;
  failed = λ failed begun. not_both out.fault begun (ap is_some (sym same ∙ failed));
  no_memory = λ memory. refl;
  never_falls = omega arith;
}

-- what was held and a text went to the sink, whole or up to a fault
pub prints_sent : {T : Type 0} {sink sink' : SinkState} {out out' : Printing} {text : List ℕ} (whole : List ℕ) (sent : Result T SinkFault)
    → whole ≡ out.held ++ text → IsNone out.fault → Delivers sink sink' whole sent → IsEndOf out' sent → Prints sink out sink' out' text
prints_sent {out = out} {out' = out'} whole (Ok u) is running d end =
    let nothing_left : d.rest ≡ [] = append_cancel_left d.sent d.rest [] (d.parts ∙ sym d.whole ∙ sym (append-nil d.sent)) in
    record {
      sent = d.sent;
      rest = d.rest;
      parts = d.parts ∙ is;
      took = d.took;
      holds = λ none. nothing_left ∙ sym (ap (λ (out : Printing). out.held) end);
      stuck = λ stopped. not_both out.fault running stopped;
      steady = λ none. d.steady;
      failed = λ failed begun. not_both out'.fault (ap (λ (out : Printing). is_some out.fault) end) (ap is_some failed);
      no_memory = λ memory. d.steady;
      never_falls = d.never_falls;
    }
prints_sent {out = out} {out' = out'} whole (Err fault) is running d end = record {
  sent = d.sent;
  rest = d.rest;
  parts = d.parts ∙ is;
  took = d.took;
  holds = λ none. not_both out'.fault none (ap is_some end);
  stuck = λ stopped. not_both out.fault running stopped;
  steady = λ none. not_both out'.fault none (ap is_some end);
  failed = λ failed begun. let same : fault ≡ Failed = cc in d.failed (ap Err same);
  no_memory = λ memory. let same : fault ≡ NoMemory = cc in d.no_memory (ap Err same);
  never_falls = d.never_falls;
}

-- a text under another name
pub prints_same : {sink sink' : SinkState} {out out' : Printing} {x y : List ℕ}
    → x ≡ y → Prints sink out sink' out' x → Prints sink out sink' out' y
prints_same {sink = sink} {sink' = sink'} {out = out} {out' = out'} e p = subst (λ text. Prints sink out sink' out' text) e p

-- what was printed from the beginning to the end is written, whole or up to a fault
delivers_printed : {T : Type 0} {sink sink' : SinkState} {out out' : Printing} {text : List ℕ} (answer : Result T SinkFault)
    → out ≡ begins → Prints sink out sink' out' text → IsEndOf out' answer → Delivers sink sink' text answer
delivers_printed {out = out} {out' = out'} {text = text} (Ok u) begun p end =
    let none : IsNone out'.fault = ap (λ (out : Printing). is_some out.fault) end in
    let rest_nothing : p.rest ≡ [] = p.holds none ∙ ap (λ (out : Printing). out.held) end in
    let parts : p.sent ++ p.rest ≡ text = p.parts ∙ ap (λ (out : Printing). out.held ++ text) begun in
    record {
      sent = p.sent;
      rest = p.rest;
      parts = parts;
      took = p.took;
      whole = sym (append-nil p.sent) ∙ ap (λ zs. p.sent ++ zs) (sym rest_nothing) ∙ parts;
      steady = p.steady none;
      failed = λ e. cc;
      no_memory = λ e. p.steady none;
      never_falls = p.never_falls;
    }
delivers_printed {T = T} {out = out} {out' = out'} {text = text} (Err fault) begun p end = record {
  sent = p.sent;
  rest = p.rest;
  parts = p.parts ∙ ap (λ (out : Printing). out.held ++ text) begun;
  took = p.took;
  whole = tt;
  steady = tt;
  failed = λ e. let same : fault ≡ Failed = cc in p.failed (end ∙ ap Some same) (ap (λ (out : Printing). is_some out.fault) begun);
  no_memory = λ e. let same : fault ≡ NoMemory = cc in p.no_memory (end ∙ ap Some same);
  never_falls = p.never_falls;
}

-- what was printed from the beginning, and then finished, is written, whole or up to a fault
pub delivers : {T : Type 0} {a b c : SinkState} {out_a out_b out_c : Printing} {text : List ℕ} (answer : Result T SinkFault)
    → out_a ≡ begins → Prints a out_a b out_b text → Prints b out_b c out_c [] → IsEndOf out_c answer → Delivers a c text answer
delivers {text = text} answer begun printed finished end = delivers_printed answer begun (prints_same (append-nil text) (printed ⨟ finished)) end

-- so much of a piece went to the sink
pub record SentSoFar (start now : SinkState) (piece : List ℕ) (done : ℕ) : Type 0 where
  pub within : done ≤ length piece
  pub took : now.taken ≡ taken_with start.taken (take done piece)
  pub steady : now.faults ≡ start.faults

pub sent_more : {start now now' : SinkState} {piece rest : List ℕ} {done n : ℕ}
    → SentSoFar start now piece done → rest ≡ drop done piece → Writes now now' rest (Ok n)
    → SentSoFar start now' piece (done + n)
sent_more {start = start} {piece = piece} {rest = rest} {done = done} {n = n} s is_rest w = record {
  within = let within : done ≤ length piece = s.within in let bound : n ≤ length rest = w.bound in omega (arith, length-drop done piece, ap length is_rest);
  took = w.took ∙ ap (λ zs. taken_with zs (take n rest)) s.took ∙ taken_with-append start.taken (take done piece) (take n rest)
      ∙ ap (λ zs. taken_with start.taken (take done piece ++ take n zs)) is_rest ∙ ap (taken_with start.taken) (sym (take-add done n piece));
  steady = w.steady ∙ s.steady;
}
