-- What a run did, and what that says of its status.
use Rattle.std.proofs.Common.{◌≡◌, ℕ, ◌<◌, true, false, List, [], ◌∷◌, length, Some, Result, Ok, Err, refl, sym, subst, ap, ◌∙◌, arith, inl, inr}
use Rattle.std.specs.Prelude.{◌⊎◌, String}
use Rattle.std.specs.declared.alloc.Global.{Global}
use Rattle.bridge_read.specs.Inputs.{IsToldOf, Refuses, SpellsInput}
use Rattle.bridge_form.specs.declared.fault.InputKind.{InputKind}
use Rattle.bridge_read.specs.declared.input.InputFault.{InputFault}
use Rattle.bridge_read.specs.declared.input.InputFault.TheVariants.{NotDeclarations}
use Rattle.bridge_tool.specs.Declining.{AreFaulty, fault_line}
use Rattle.bridge_read.specs.declared.input.Input.{Input}
use Rattle.bridge_outside.specs.declared.sink.SinkFault.{SinkFault}
use Rattle.bridge_outside.specs.declared.sink.SinkFault.TheVariants.{Failed, NoMemory}
use Rattle.bridge_outside.specs.Outside.{SinkState, SourceState, taken_with}
use Rattle.bridge_outside.specs.Printing.{Delivers}
use Rattle.bridge_tool.specs.declared.status.Status.{Status}
use Rattle.bridge_tool.specs.declared.status.Status.TheVariants as status
use Rattle.bridge_tool.specs.Following.{Follows}
use Rattle.bridge_tool.specs.Commands.{AreReading, AskFor, reads}
use Rattle.bridge_tool.specs.Running.{World, Answers, AnswersCheck, Asked, FirstPart, IsAnswered, Ran, Says, WereRead, WereReadFor}
use Rattle.bridge_tool.specs.declared.command.Command.{Command}
use Rattle.bridge_tool.specs.declared.command.Command.TheVariants.{Check, Explain, Generate, Links}
use Rattle.bridge_outside.proofs.PrintingLaws.{taken_with-nothing}
use Rattle.bridge_tool.specs.Statuses.{code_of}
use Rattle.bridge_tool.specs.inside.Answering.{IsWhole, Printed, TellsOf, ended_with}

-- what was delivered up to a fault is a first part of the text
first_part : (P : Status → List ℕ → Type 0) {old new : SinkState} (verdict : Status) (text : List ℕ) (printed : Result (Unit {0}) SinkFault)
    → Delivers old new text printed → P verdict text → FirstPart P old new
first_part P verdict text printed d of = record { status = verdict; text = text; of = of; sent = d.sent; rest = d.rest; parts = d.parts; took = d.took }

-- a text that answers with a verdict was printed
pub printed_text : (P : Status → List ℕ → Type 0) {old new : SinkState} (verdict : Status) (text : List ℕ) (printed : Result (Unit {0}) SinkFault)
    → (IsWhole P old new verdict → Printed P old new verdict) → Delivers old new text printed → P verdict text → Printed P old new (ended_with verdict printed)
printed_text P {old = old} verdict text (Ok done) whole d of = whole (text, of, record { taken = d.took ∙ ap (taken_with old.taken) d.whole; no_fault = d.steady })
printed_text P verdict text (Err Failed) whole d of = (d.failed refl, first_part P verdict text (Err Failed) d of)
printed_text P verdict text (Err NoMemory) whole d of = inr (first_part P verdict text (Err NoMemory) d of)

-- the line that declines bytes is right
pub declined : (bytes : List ℕ) (fault : InputFault) (what : InputKind) (pointer shown : List ℕ) → fault ≡ NotDeclarations what pointer → shown ≡ pointer
    → IsToldOf bytes fault → Refuses bytes fault → AreFaulty bytes (fault_line what shown)
declined bytes fault what pointer shown is same told refuses = record {
  what = what;
  pointer = pointer;
  fault = record { nothing = subst (Refuses bytes) is refuses; told = subst (IsToldOf bytes) is told };
  is = ap (fault_line what) same;
}

-- what tells of the declarations of the input that bytes spell answers the bytes
tells_answers : (bytes : List ℕ) (input : Input) → SpellsInput bytes input → (end : Status) (text : List ℕ) → TellsOf input end text → AnswersCheck bytes end text
tells_answers bytes input spells status.Accepted text t = (input, spells, t.0, t.1)
tells_answers bytes input spells status.Refused text t = (input, t.0, spells, t.1, t.2)
tells_answers bytes input spells status.NotDeclarations text t = absurd t
tells_answers bytes input spells status.ReadFailed text t = absurd t
tells_answers bytes input spells status.WriteFailed text t = absurd t
tells_answers bytes input spells status.NoMemory text t = absurd t
tells_answers bytes input spells status.BadWords text t = absurd t
tells_answers bytes input spells status.TooLong text t = absurd t

part_answers : (bytes : List ℕ) (input : Input) (old new : SinkState) → SpellsInput bytes input → FirstPart (TellsOf input) old new → FirstPart (AnswersCheck bytes) old new
part_answers bytes input old new spells part = record {
  status = part.status;
  text = part.text;
  of = tells_answers bytes input spells part.status part.text part.of;
  sent = part.sent;
  rest = part.rest;
  parts = part.parts;
  took = part.took;
}

pub printed_answers : (bytes : List ℕ) (input : Input) (old new : SinkState) (end : Status) → SpellsInput bytes input
    → Printed (TellsOf input) old new end → Printed (AnswersCheck bytes) old new end
printed_answers bytes input old new status.Accepted spells p = (p.0, tells_answers bytes input spells status.Accepted p.0 p.1, p.2)
printed_answers bytes input old new status.Refused spells p = (p.0, tells_answers bytes input spells status.Refused p.0 p.1, p.2)
printed_answers bytes input old new status.NotDeclarations spells p = absurd p.1
printed_answers bytes input old new status.ReadFailed spells p = absurd p
printed_answers bytes input old new status.WriteFailed spells p = (p.0, part_answers bytes input old new spells p.1)
printed_answers bytes input old new status.NoMemory spells (inl same) = inl same
printed_answers bytes input old new status.NoMemory spells (inr part) = inr (part_answers bytes input old new spells part)
printed_answers bytes input old new status.BadWords spells p = absurd p.1
printed_answers bytes input old new status.TooLong spells p = absurd p

-- what was read was answered
pub says_answered : (words : List (String Global)) (command : Command) (old new : World) (bytes : List ℕ) → AskFor words command
    → WereReadFor command old.source new.source bytes → (end : Status) → Printed (Answers command bytes) old.sink new.sink end → Says words old new end
says_answered words command old new bytes asks read status.Accepted p = (command, asks, (bytes, read, p))
says_answered words command old new bytes asks read status.Refused p = (command, asks, (bytes, read, p))
says_answered words command old new bytes asks read status.NotDeclarations p = (command, asks, (bytes, read, p))
says_answered words command old new bytes asks read status.ReadFailed p = absurd p
says_answered words command old new bytes asks read status.WriteFailed p = (command, asks, (p.0, (bytes, read, p.1)))
says_answered words command old new bytes asks read status.NoMemory (inl same) = (command, asks, inl same)
says_answered words command old new bytes asks read status.NoMemory (inr part) = (command, asks, inr (bytes, read, part))
says_answered words command old new bytes asks read status.BadWords p = inr (command, asks, (bytes, read, p))
says_answered words command old new bytes asks read status.TooLong p = absurd p

neither_of : {P Q : Type 0} → P ⊎ Q → ¬ P → ¬ Q → ⊥
neither_of (inl p) no_p no_q = no_p p
neither_of (inr q) no_p no_q = no_q q

none_of : {P Q R : Type 0} → P ⊎ Q ⊎ R → ¬ P → ¬ Q → ¬ R → ⊥
none_of (inl p) no_p no_q no_r = no_p p
none_of (inr (inl q)) no_p no_q no_r = no_q q
none_of (inr (inr r)) no_p no_q no_r = no_r r

-- with 6 there is no text
no_text : (command : Command) (bytes text : List ℕ) → Answers command bytes status.BadWords text → text ≡ []
no_text Check bytes text answer = absurd answer
no_text (Explain question) bytes text answer = answer.4
no_text (Generate count) bytes text answer = absurd answer
no_text Links bytes text answer = absurd answer

-- what was read for a command left the source's count of faults
read_steady : (command : Command) (old new : SourceState) (bytes : List ℕ) → WereReadFor command old new bytes → new.faults ≡ old.faults
read_steady Check old new bytes read = read.no_fault
read_steady (Explain question) old new bytes read = read.no_fault
read_steady (Generate count) old new bytes same = ap (λ (s : SourceState). s.faults) same
read_steady Links old new bytes read = read.no_fault

-- all bytes were read, for a command that reads
pub was_read : (command : Command) (old new : SourceState) (bytes : List ℕ) → reads command ≡ true → WereRead old new bytes → WereReadFor command old new bytes
was_read Check old new bytes is read = read
was_read (Explain question) old new bytes is read = read
was_read (Generate count) old new bytes is read = absurd cc
was_read Links old new bytes is read = read

-- words ask for one command
pub same_command : (words : List (String Global)) (one other : Command) → AskFor words one → AskFor words other → one ≡ other
same_command words one other asks_one asks_other = let e : Some one ≡ Some other = sym asks_one ∙ asks_other in cc

-- so what is answered is that
pub answered_as : (words : List (String Global)) (old new : World) (asked : Command) (end : Status)
    → Asked words (λ command. IsAnswered command old new end) → AskFor words asked → IsAnswered asked old new end
answered_as words old new asked end r asks =
    subst (λ (command : Command). IsAnswered command old new end) (same_command words r.0 asked r.1 asks) r.2

-- words that ask for `gen` ask for nothing that reads
reads_none : (words : List (String Global)) (count : ℕ) → AskFor words (Generate count) → AreReading words → ⊥
reads_none words count asks reading =
    let e : false ≡ true = subst (λ (command : Command). reads command ≡ true) (same_command words reading.0 (Generate count) reading.1 asks) reading.2 in absurd cc

-- what follows from the row of each status
follows_end : (words : List (String Global)) (old new : World) (end : Status) → Says words old new end → Follows words old new (code_of end)
follows_end words old new status.Accepted r = record {
  accepted = λ e. r;
  refused = λ e. absurd (omega arith);
  declined = λ e. absurd (omega arith);
  read_failed = λ e. absurd (omega arith);
  write_failed = λ e. absurd (omega arith);
  cut_short = λ e. absurd (neither_of e (omega arith) (omega arith));
  no_command = λ none. absurd (none (r.0, r.1));
  bad_words = λ e. absurd (omega arith);
  too_long = λ e. absurd (omega arith);
  reads_steady = λ a b. read_steady r.0 old.source new.source r.2.0 r.2.1;
  writes_steady = λ a b. r.2.2.2.no_fault;
  unwritten = λ e. absurd (none_of e (omega arith) (omega arith) (omega arith));
  generated = λ count asks. inl refl;
  at_most_seven = omega arith;
}
follows_end words old new status.Refused r = record {
  accepted = λ e. absurd (omega arith);
  refused = λ e. r;
  declined = λ e. absurd (omega arith);
  read_failed = λ e. absurd (omega arith);
  write_failed = λ e. absurd (omega arith);
  cut_short = λ e. absurd (neither_of e (omega arith) (omega arith));
  no_command = λ none. absurd (none (r.0, r.1));
  bad_words = λ e. absurd (omega arith);
  too_long = λ e. absurd (omega arith);
  reads_steady = λ a b. read_steady r.0 old.source new.source r.2.0 r.2.1;
  writes_steady = λ a b. r.2.2.2.no_fault;
  unwritten = λ e. absurd (none_of e (omega arith) (omega arith) (omega arith));
  generated = λ count asks. absurd (answered_as words old new (Generate count) status.Refused r asks).2.1;
  at_most_seven = omega arith;
}
follows_end words old new status.NotDeclarations r = record {
  accepted = λ e. absurd (omega arith);
  refused = λ e. absurd (omega arith);
  declined = λ e. r;
  read_failed = λ e. absurd (omega arith);
  write_failed = λ e. absurd (omega arith);
  cut_short = λ e. absurd (neither_of e (omega arith) (omega arith));
  no_command = λ none. absurd (none (r.0, r.1));
  bad_words = λ e. absurd (omega arith);
  too_long = λ e. absurd (omega arith);
  reads_steady = λ a b. read_steady r.0 old.source new.source r.2.0 r.2.1;
  writes_steady = λ a b. r.2.2.2.no_fault;
  unwritten = λ e. absurd (none_of e (omega arith) (omega arith) (omega arith));
  generated = λ count asks. absurd (answered_as words old new (Generate count) status.NotDeclarations r asks).2.1;
  at_most_seven = omega arith;
}
follows_end words old new status.ReadFailed r = record {
  accepted = λ e. absurd (omega arith);
  refused = λ e. absurd (omega arith);
  declined = λ e. absurd (omega arith);
  read_failed = λ e. r.1;
  write_failed = λ e. absurd (omega arith);
  cut_short = λ e. absurd (neither_of e (omega arith) (omega arith));
  no_command = λ none. absurd (none (r.0.0, r.0.1));
  bad_words = λ e. absurd (omega arith);
  too_long = λ e. absurd (omega arith);
  reads_steady = λ a b. absurd (a refl);
  writes_steady = λ a b. r.2.no_fault;
  unwritten = λ e. r.2.taken;
  generated = λ count asks. absurd (reads_none words count asks r.0);
  at_most_seven = omega arith;
}
follows_end words old new status.WriteFailed r = record {
  accepted = λ e. absurd (omega arith);
  refused = λ e. absurd (omega arith);
  declined = λ e. absurd (omega arith);
  read_failed = λ e. absurd (omega arith);
  write_failed = λ e. r.2.0;
  cut_short = λ e. (r.0, r.1, inr r.2.1);
  no_command = λ none. absurd (none (r.0, r.1));
  bad_words = λ e. absurd (omega arith);
  too_long = λ e. absurd (omega arith);
  reads_steady = λ a b. read_steady r.0 old.source new.source r.2.1.0 r.2.1.1;
  writes_steady = λ a b. absurd (a refl);
  unwritten = λ e. absurd (none_of e (omega arith) (omega arith) (omega arith));
  generated = λ count asks. inr (inl refl);
  at_most_seven = omega arith;
}
follows_end words old new status.NoMemory r = record {
  accepted = λ e. absurd (omega arith);
  refused = λ e. absurd (omega arith);
  declined = λ e. absurd (omega arith);
  read_failed = λ e. absurd (omega arith);
  write_failed = λ e. absurd (omega arith);
  cut_short = λ e. r;
  no_command = λ none. absurd (none (r.0, r.1));
  bad_words = λ e. absurd (omega arith);
  too_long = λ e. absurd (omega arith);
  reads_steady = λ a b. absurd (b refl);
  writes_steady = λ a b. absurd (b refl);
  unwritten = λ e. absurd (none_of e (omega arith) (omega arith) (omega arith));
  generated = λ count asks. inr (inr refl);
  at_most_seven = omega arith;
}
follows_end words old new status.BadWords (inl r) = record {
  accepted = λ e. absurd (omega arith);
  refused = λ e. absurd (omega arith);
  declined = λ e. absurd (omega arith);
  read_failed = λ e. absurd (omega arith);
  write_failed = λ e. absurd (omega arith);
  cut_short = λ e. absurd (neither_of e (omega arith) (omega arith));
  no_command = λ no. refl;
  bad_words = λ e. inl r.0;
  too_long = λ e. absurd (omega arith);
  reads_steady = λ a b. ap (λ (w : World). w.source.faults) r.1;
  writes_steady = λ a b. ap (λ (w : World). w.sink.faults) r.1;
  unwritten = λ e. ap (λ (w : World). w.sink.taken) r.1;
  generated = λ count asks. absurd (r.0 (Generate count, asks));
  at_most_seven = omega arith;
}
follows_end words old new status.BadWords (inr r) = record {
  accepted = λ e. absurd (omega arith);
  refused = λ e. absurd (omega arith);
  declined = λ e. absurd (omega arith);
  read_failed = λ e. absurd (omega arith);
  write_failed = λ e. absurd (omega arith);
  cut_short = λ e. absurd (neither_of e (omega arith) (omega arith));
  no_command = λ no. refl;
  bad_words = λ e. inr r;
  too_long = λ e. absurd (omega arith);
  reads_steady = λ a b. read_steady r.0 old.source new.source r.2.0 r.2.1;
  writes_steady = λ a b. r.2.2.2.no_fault;
  unwritten = λ e. r.2.2.2.taken ∙ ap (taken_with old.sink.taken) (no_text r.0 r.2.0 r.2.2.0 r.2.2.1) ∙ taken_with-nothing old.sink.taken;
  generated = λ count asks. absurd (answered_as words old new (Generate count) status.BadWords r asks).2.1;
  at_most_seven = omega arith;
}
follows_end words old new status.TooLong r = record {
  accepted = λ e. absurd (omega arith);
  refused = λ e. absurd (omega arith);
  declined = λ e. absurd (omega arith);
  read_failed = λ e. absurd (omega arith);
  write_failed = λ e. absurd (omega arith);
  cut_short = λ e. absurd (neither_of e (omega arith) (omega arith));
  no_command = λ none. absurd (none (r.0.0, r.0.1));
  bad_words = λ e. absurd (omega arith);
  too_long = λ e. r.1.long;
  reads_steady = λ a b. r.1.no_fault;
  writes_steady = λ a b. r.2.no_fault;
  unwritten = λ e. r.2.taken;
  generated = λ count asks. absurd (reads_none words count asks r.0);
  at_most_seven = omega arith;
}

pub follows : (words : List (String Global)) (old new : World) (code : ℕ) → Ran words old new code → Follows words old new code
follows words old new code ran = rw ran.1 (follows_end words old new ran.0 ran.2)

-- a list of fewer than one is empty
pub nothing_in : {A : Type 0} (xs : List A) → length xs < 1 → xs ≡ []
nothing_in [] few = refl
nothing_in (x ∷ xs) few = absurd (omega arith)
