-- The headline and completeness, from what each status says.
use Rattle.std.proofs.Common.{◌≡◌, ◌≢◌, ℕ, ◌≤◌, ◌<◌, ◌^◌, List, [], length, Option, Some, refl, sym, ap, subst, arith, inl, inr}
use Rattle.std.specs.Prelude.{◌⊎◌, IfSome, String}
use Rattle.std.specs.declared.alloc.Global.{Global}
use Rattle.bridge_catalogs.proofs.CatalogLemmas.{one_catalog}
use Rattle.bridge_decl.specs.declared.modules.Module.{Module}
use Rattle.bridge_explain.specs.Inquiry.{Inquiry as Question}
use Rattle.bridge_lowering.specs.Broken.{HoldsOf}
use Rattle.bridge_measure.proofs.MeasuredLemmas.{refused_break}
use Rattle.bridge_order.specs.declared.catalog.Catalog.{Catalog}
use Rattle.hir_backends.specs.Backend.{Backend}
use Rattle.hir_backends.specs.Validator.{basic_meaning}
use Rattle.hir_config.specs.declared.config.LoweringConfig.{LoweringConfig}
use Rattle.hir_lowering.specs.Interface.{Interface}
use Rattle.hir_lowering.specs.Walks.{interface_of}
use Rattle.hir_naming.specs.Meaning.{naming_of}
use Rattle.bridge_read.specs.declared.input.Input.{Input}
use Rattle.bridge_read.proofs.InputLaws.{spelled_once}
use Rattle.bridge_outside.specs.Outside.{Rose, SourceState}
use Rattle.bridge_tool.specs.declared.status.Status.{Status}
use Rattle.bridge_tool.specs.declared.status.Status.TheVariants as status
use Rattle.bridge_tool.specs.Checking.{BreaksNothing, ExplainsNothing, HasExplanation, HasPage, IsRefusedWith}
use Rattle.bridge_tool.specs.Declining.{AreFaulty}
use Rattle.bridge_tool.specs.Headline.{AnswersInput, Headline, IsComplete, IsUndisturbed, Settles, SettlesCheck, SettlesExplain, SettlesLinks}
use Rattle.hir_reports.specs.declared.report.LoweringReport.{LoweringReport}
use Rattle.bridge_read.specs.Inputs.{SpellsInput}
use Rattle.bridge_tool.specs.Commands.{AskFor}
use Rattle.bridge_tool.specs.Running.{World, IsAnswered, Says, WereRead}
use Rattle.bridge_tool.specs.declared.command.Command.{Command}
use Rattle.bridge_tool.specs.declared.command.Command.TheVariants.{Check, Explain, Generate, Links}
use Rattle.bridge_tool.specs.Statuses.{code_of}
use Rattle.bridge_tool.proofs.RunLemmas.{answered_as, follows}

-- what holds of what is told
if_told : {A : Type 0} (P : A → Type 0) {left : Option A} {had : A} → IfSome left P → left ≡ Some had → P had
if_told {A} P {left} {had} h told = subst (λ (o : Option A). IfSome o P) told h

-- the bytes read are those that the source had
read_told : {old new : SourceState} {bytes had : List ℕ} → WereRead old new bytes → old.left ≡ Some had → bytes ≡ had
read_told {bytes = bytes} read told = if_told (λ all. bytes ≡ all) read.all told

-- so they are at most 2^26
read_short : {old new : SourceState} {bytes had : List ℕ} → WereRead old new bytes → old.left ≡ Some had → length had ≤ 2 ^ 26
read_short {bytes = bytes} {had} read told = let e : length bytes ≡ length had = ap length (read_told read told) in let few = read.short in omega arith

-- and what the bytes read spell, those of the source spell
spells_told : {old new : SourceState} {bytes had : List ℕ} (input : Input) → WereRead old new bytes → old.left ≡ Some had → SpellsInput bytes input
    → SpellsInput had input
spells_told input read told spells = subst (λ (b : List ℕ). SpellsInput b input) (read_told read told) spells

-- what is refused breaks a rule
refused_breaks : (input : Input) (reports : List LoweringReport) → IsRefusedWith input reports → ¬ (BreaksNothing input)
refused_breaks input reports refused = refused_break input.env (basic_meaning input.validator) input.config reports refused

-- with 6 too
answered_six : (words : List (String Global)) (old new : World) (asked : Command) → Says words old new status.BadWords → AskFor words asked
    → IsAnswered asked old new status.BadWords
answered_six words old new asked (inl r) asks = absurd (r.0 (asked, asks))
answered_six words old new asked (inr r) asks = answered_as words old new asked status.BadWords r asks

-- the headline, for each status but that of want of memory
answers_end : (words : List (String Global)) (old new : World) (had : List ℕ) (input : Input) (end : Status) → Says words old new end
    → IsUndisturbed words Check old new had → length had ≤ 2 ^ 26 → SpellsInput had input → code_of end ≢ 5 → AnswersInput input old new (code_of end)
answers_end words old new had input status.Accepted r told short spells memory =
    let answered = answered_as words old new Check status.Accepted r told.command in
    let read = answered.1 in let text = answered.2.0 in let answer = answered.2.1 in
    let same : answer.0 ≡ input = spelled_once had answer.0 input (spells_told answer.0 read told.told answer.1) spells in
    let keeps : BreaksNothing input = subst BreaksNothing same answer.2 in
    record {
      accepts = (λ e. keeps, λ k. refl);
      page = λ e. (text, subst (λ i. HasPage i text) same answer.3, answered.2.2.taken);
      refuses = λ n. absurd (n refl);
      reports = λ e. absurd (omega arith);
      none_left = if_told (λ all. new.source.left ≡ Some []) read.none_left told.told;
    }
answers_end words old new had input status.Refused r told short spells memory =
    let answered = answered_as words old new Check status.Refused r told.command in
    let read = answered.1 in let text = answered.2.0 in let answer = answered.2.1 in
    let same : answer.0 ≡ input = spelled_once had answer.0 input (spells_told answer.0 read told.told answer.2) spells in
    let refused : IsRefusedWith input answer.1 = subst (λ i. IsRefusedWith i answer.1) same answer.3 in
    record {
      accepts = (λ e. absurd (omega arith), λ keep. absurd (refused_breaks input answer.1 refused keep));
      page = λ e. absurd (omega arith);
      refuses = λ n. refl;
      reports = λ e. (answer.1, refused, rw (sym answer.4) answered.2.2.taken);
      none_left = if_told (λ all. new.source.left ≡ Some []) read.none_left told.told;
    }
answers_end words old new had input status.NotDeclarations r told short spells memory =
    let answered = answered_as words old new Check status.NotDeclarations r told.command in
    absurd ((subst (λ b. AreFaulty b answered.2.0) (read_told answered.1 told.told) answered.2.1).fault.nothing input spells)
answers_end words old new had input status.ReadFailed r told short spells memory = absurd (told.no_read_failed r.1)
answers_end words old new had input status.WriteFailed r told short spells memory = absurd (told.no_write_failed r.2.0)
answers_end words old new had input status.NoMemory r told short spells memory = absurd (memory refl)
answers_end words old new had input status.BadWords r told short spells memory = absurd (answered_six words old new Check r told.command).2.1
answers_end words old new had input status.TooLong r told short spells memory = absurd (let long = if_told (λ all. 2 ^ 26 < length all) r.1.long told.told in omega arith)

pub headline_of : (words : List (String Global)) (old new : World) (end : Status) → Says words old new end → Headline words old new (code_of end)
headline_of words old new end says = λ had input told short spells memory. answers_end words old new had input end says told short spells memory

-- bytes that spell an input settle the status by whether these break a rule
keeping_settles : (had : List ℕ) (input : Input) → length had ≤ 2 ^ 26 → SpellsInput had input → BreaksNothing input → SettlesCheck had 0
keeping_settles had input short spells keeps = record {
  accepted = (λ e. (short, (input, spells, keeps)), λ row. refl);
  refused = (λ e. absurd (omega arith), λ row. absurd (row.1.2 (subst BreaksNothing (spelled_once had input row.1.0 spells row.1.1) keeps)));
  declined = (λ e. absurd (omega arith), λ row. absurd (row.1 input spells));
  too_long = (λ e. absurd (omega arith), λ long. absurd (omega arith));
}

breaking_settles : (had : List ℕ) (input : Input) → length had ≤ 2 ^ 26 → SpellsInput had input → ¬ (BreaksNothing input) → SettlesCheck had 1
breaking_settles had input short spells breaks = record {
  accepted = (λ e. absurd (omega arith), λ row. absurd (breaks (subst BreaksNothing (spelled_once had row.1.0 input row.1.1 spells) row.1.2)));
  refused = (λ e. (short, (input, spells, breaks)), λ row. refl);
  declined = (λ e. absurd (omega arith), λ row. absurd (row.1 input spells));
  too_long = (λ e. absurd (omega arith), λ long. absurd (omega arith));
}

-- bytes that spell none, or are too long, settle it too
spelling_none_settles : (had : List ℕ) → length had ≤ 2 ^ 26 → ((input : Input) → ¬ (SpellsInput had input)) → SettlesCheck had 2
spelling_none_settles had short none = record {
  accepted = (λ e. absurd (omega arith), λ row. absurd (none row.1.0 row.1.1));
  refused = (λ e. absurd (omega arith), λ row. absurd (none row.1.0 row.1.1));
  declined = (λ e. (short, none), λ row. refl);
  too_long = (λ e. absurd (omega arith), λ long. absurd (omega arith));
}

long_settles : (had : List ℕ) → 2 ^ 26 < length had → SettlesCheck had 7
long_settles had long = record {
  accepted = (λ e. absurd (omega arith), λ row. absurd (let short = row.0 in omega arith));
  refused = (λ e. absurd (omega arith), λ row. absurd (let short = row.0 in omega arith));
  declined = (λ e. absurd (omega arith), λ row. absurd (let short = row.0 in omega arith));
  too_long = (λ e. long, λ row. refl);
}

settles_check : (words : List (String Global)) (old new : World) (had : List ℕ) (end : Status) → Says words old new end
    → IsUndisturbed words Check old new had → (code_of end ≡ 5) ⊎ SettlesCheck had (code_of end)
settles_check words old new had status.Accepted r told =
    let answered = answered_as words old new Check status.Accepted r told.command in let answer = answered.2.1 in
    inr (keeping_settles had answer.0 (read_short answered.1 told.told) (spells_told answer.0 answered.1 told.told answer.1) answer.2)
settles_check words old new had status.Refused r told =
    let answered = answered_as words old new Check status.Refused r told.command in let answer = answered.2.1 in
    inr (breaking_settles had answer.0 (read_short answered.1 told.told) (spells_told answer.0 answered.1 told.told answer.2) (refused_breaks answer.0 answer.1 answer.3))
settles_check words old new had status.NotDeclarations r told =
    let answered = answered_as words old new Check status.NotDeclarations r told.command in
    inr (spelling_none_settles had (read_short answered.1 told.told)
    (subst (λ b. AreFaulty b answered.2.0) (read_told answered.1 told.told) answered.2.1).fault.nothing)
settles_check words old new had status.ReadFailed r told = absurd (told.no_read_failed r.1)
settles_check words old new had status.WriteFailed r told = absurd (told.no_write_failed r.2.0)
settles_check words old new had status.NoMemory r told = inl refl
settles_check words old new had status.BadWords r told = absurd (answered_six words old new Check r told.command).2.1
settles_check words old new had status.TooLong r told = inr (long_settles had (if_told (λ all. 2 ^ 26 < length all) r.1.long told.told))

-- bytes that spell an input are answered by `links`, others are declined
spelling_settles : (had : List ℕ) (input : Input) → length had ≤ 2 ^ 26 → SpellsInput had input → SettlesLinks had 0
spelling_settles had input short spells = record {
  accepted = (λ e. (short, (input, spells)), λ row. refl);
  never_refused = omega arith;
  declined = (λ e. absurd (omega arith), λ row. absurd (row.1 input spells));
  too_long = (λ e. absurd (omega arith), λ long. absurd (omega arith));
}

no_input_settles : (had : List ℕ) → length had ≤ 2 ^ 26 → ((input : Input) → ¬ (SpellsInput had input)) → SettlesLinks had 2
no_input_settles had short none = record {
  accepted = (λ e. absurd (omega arith), λ row. absurd (none row.1.0 row.1.1));
  never_refused = omega arith;
  declined = (λ e. (short, none), λ row. refl);
  too_long = (λ e. absurd (omega arith), λ long. absurd (omega arith));
}

long_settles_links : (had : List ℕ) → 2 ^ 26 < length had → SettlesLinks had 7
long_settles_links had long = record {
  accepted = (λ e. absurd (omega arith), λ row. absurd (let short = row.0 in omega arith));
  never_refused = omega arith;
  declined = (λ e. absurd (omega arith), λ row. absurd (let short = row.0 in omega arith));
  too_long = (λ e. long, λ row. refl);
}

settles_links : (words : List (String Global)) (old new : World) (had : List ℕ) (end : Status) → Says words old new end
    → IsUndisturbed words Links old new had → (code_of end ≡ 5) ⊎ SettlesLinks had (code_of end)
settles_links words old new had status.Accepted r told =
    let answered = answered_as words old new Links status.Accepted r told.command in let answer = answered.2.1 in
    inr (spelling_settles had answer.0 (read_short answered.1 told.told)
    (subst (λ (b : List ℕ). SpellsInput b answer.0) (read_told answered.1 told.told) answer.1))
settles_links words old new had status.Refused r told = absurd (answered_as words old new Links status.Refused r told.command).2.1
settles_links words old new had status.NotDeclarations r told =
    let answered = answered_as words old new Links status.NotDeclarations r told.command in
    inr (no_input_settles had (read_short answered.1 told.told)
    (subst (λ (b : List ℕ). AreFaulty b answered.2.0) (read_told answered.1 told.told) answered.2.1).fault.nothing)
settles_links words old new had status.ReadFailed r told = absurd (told.no_read_failed r.1)
settles_links words old new had status.WriteFailed r told = absurd (told.no_write_failed r.2.0)
settles_links words old new had status.NoMemory r told = inl refl
settles_links words old new had status.BadWords r told = absurd (answered_six words old new Links r told.command).2.1
settles_links words old new had status.TooLong r told = inr (long_settles_links had (if_told (λ all. 2 ^ 26 < length all) r.1.long told.told))

-- ---- `explain`

-- there is one catalog, so what holds by one holds by all
by_one : {modules : List Module} {backend : Backend} {config : LoweringConfig} {P Q : Interface → Type 0} → HoldsOf modules backend config P
    → HoldsOf modules backend config Q → (it : Interface) × P it × Q it
by_one {modules} {backend} {config} {P} {Q} one other =
    let at = λ (catalog : Catalog). interface_of modules backend config (naming_of modules) catalog in
    (at one.catalog, one.holds, subst (λ catalog. Q (at catalog)) (sym (one_catalog modules one.catalog other.catalog one.is other.is)) other.holds)

-- where something is explained, something is asked about
asks_something : (input : Input) (question : Question) (text : List ℕ) → HasExplanation input question text → ¬ (ExplainsNothing input question)
asks_something input question text has = λ nothing.
    let both = by_one has nothing in
    both.2 both.1.1.callable both.1.1.leaf both.1.1.about

explained_settles : (question : Question) (had : List ℕ) (input : Input) → length had ≤ 2 ^ 26 → SpellsInput had input → BreaksNothing input
    → ¬ (ExplainsNothing input question) → SettlesExplain question had 0
explained_settles question had input short spells keeps asks = record {
  accepted = (λ e. (short, (input, spells, keeps, asks)), λ row. refl);
  refused = (λ e. absurd (omega arith), λ row. absurd (row.1.2 (subst BreaksNothing (spelled_once had input row.1.0 spells row.1.1) keeps)));
  declined = (λ e. absurd (omega arith), λ row. absurd (row.1 input spells));
  nothing = (
    λ e. absurd (omega arith),
    λ row. absurd (asks (subst (λ (i : Input). ExplainsNothing i question) (spelled_once had row.1.0 input row.1.1 spells) row.1.3)),
  );
  too_long = (λ e. absurd (omega arith), λ long. absurd (omega arith));
}

nothing_settles : (question : Question) (had : List ℕ) (input : Input) → length had ≤ 2 ^ 26 → SpellsInput had input → BreaksNothing input
    → ExplainsNothing input question → SettlesExplain question had 6
nothing_settles question had input short spells keeps nothing = record {
  accepted = (
    λ e. absurd (omega arith),
    λ row. absurd (row.1.3 (subst (λ (i : Input). ExplainsNothing i question) (spelled_once had input row.1.0 spells row.1.1) nothing)),
  );
  refused = (λ e. absurd (omega arith), λ row. absurd (row.1.2 (subst BreaksNothing (spelled_once had input row.1.0 spells row.1.1) keeps)));
  declined = (λ e. absurd (omega arith), λ row. absurd (row.1 input spells));
  nothing = (λ e. (short, (input, spells, keeps, nothing)), λ row. refl);
  too_long = (λ e. absurd (omega arith), λ long. absurd (omega arith));
}

broken_settles : (question : Question) (had : List ℕ) (input : Input) → length had ≤ 2 ^ 26 → SpellsInput had input → ¬ (BreaksNothing input)
    → SettlesExplain question had 1
broken_settles question had input short spells breaks = record {
  accepted = (λ e. absurd (omega arith), λ row. absurd (breaks (subst BreaksNothing (spelled_once had row.1.0 input row.1.1 spells) row.1.2)));
  refused = (λ e. (short, (input, spells, breaks)), λ row. refl);
  declined = (λ e. absurd (omega arith), λ row. absurd (row.1 input spells));
  nothing = (λ e. absurd (omega arith), λ row. absurd (breaks (subst BreaksNothing (spelled_once had row.1.0 input row.1.1 spells) row.1.2)));
  too_long = (λ e. absurd (omega arith), λ long. absurd (omega arith));
}

none_settles : (question : Question) (had : List ℕ) → length had ≤ 2 ^ 26 → ((input : Input) → ¬ (SpellsInput had input)) → SettlesExplain question had 2
none_settles question had short none = record {
  accepted = (λ e. absurd (omega arith), λ row. absurd (none row.1.0 row.1.1));
  refused = (λ e. absurd (omega arith), λ row. absurd (none row.1.0 row.1.1));
  declined = (λ e. (short, none), λ row. refl);
  nothing = (λ e. absurd (omega arith), λ row. absurd (none row.1.0 row.1.1));
  too_long = (λ e. absurd (omega arith), λ long. absurd (omega arith));
}

too_long_settles : (question : Question) (had : List ℕ) → 2 ^ 26 < length had → SettlesExplain question had 7
too_long_settles question had long = record {
  accepted = (λ e. absurd (omega arith), λ row. absurd (let short = row.0 in omega arith));
  refused = (λ e. absurd (omega arith), λ row. absurd (let short = row.0 in omega arith));
  declined = (λ e. absurd (omega arith), λ row. absurd (let short = row.0 in omega arith));
  nothing = (λ e. absurd (omega arith), λ row. absurd (let short = row.0 in omega arith));
  too_long = (λ e. long, λ row. refl);
}

settles_explain : (words : List (String Global)) (old new : World) (had : List ℕ) (question : Question) (end : Status) → Says words old new end
    → IsUndisturbed words (Explain question) old new had → (code_of end ≡ 5) ⊎ SettlesExplain question had (code_of end)
settles_explain words old new had question status.Accepted r told =
    let answered = answered_as words old new (Explain question) status.Accepted r told.command in let answer = answered.2.1 in
    inr (explained_settles question had answer.0 (read_short answered.1 told.told) (spells_told answer.0 answered.1 told.told answer.1) answer.2
    (asks_something answer.0 question answered.2.0 answer.3))
settles_explain words old new had question status.Refused r told =
    let answered = answered_as words old new (Explain question) status.Refused r told.command in let answer = answered.2.1 in
    inr (broken_settles question had answer.0 (read_short answered.1 told.told) (spells_told answer.0 answered.1 told.told answer.2)
    (refused_breaks answer.0 answer.1 answer.3))
settles_explain words old new had question status.NotDeclarations r told =
    let answered = answered_as words old new (Explain question) status.NotDeclarations r told.command in
    inr (none_settles question had (read_short answered.1 told.told)
    (subst (λ (b : List ℕ). AreFaulty b answered.2.0) (read_told answered.1 told.told) answered.2.1).fault.nothing)
settles_explain words old new had question status.ReadFailed r told = absurd (told.no_read_failed r.1)
settles_explain words old new had question status.WriteFailed r told = absurd (told.no_write_failed r.2.0)
settles_explain words old new had question status.NoMemory r told = inl refl
settles_explain words old new had question status.BadWords r told =
    let answered = answered_six words old new (Explain question) r told.command in let answer = answered.2.1 in
    inr (nothing_settles question had answer.0 (read_short answered.1 told.told) (spells_told answer.0 answered.1 told.told answer.1) answer.2 answer.3)
settles_explain words old new had question status.TooLong r told =
    inr (too_long_settles question had (if_told (λ all. 2 ^ 26 < length all) r.1.long told.told))

-- `gen` ends with 0, where no write fails
generates : (words : List (String Global)) (old new : World) (end : Status) → Says words old new end → (count : ℕ) → AskFor words (Generate count)
    → ¬ (Rose old.sink.faults new.sink.faults) → (code_of end ≡ 5) ⊎ (code_of end ≡ 0)
generates words old new end says count asks steady =
    let so = follows words old new (code_of end) (end, refl, says) in
    elim (so.generated count asks) [
      | inl accepted ↦ inr accepted
      | inr (inl failed) ↦ absurd (steady (so.write_failed failed))
      | inr (inr want) ↦ inl want
    ]

settles_end : (words : List (String Global)) (old new : World) (had : List ℕ) (end : Status) → Says words old new end
    → (command : Command) → IsUndisturbed words command old new had → (code_of end ≡ 5) ⊎ Settles command had (code_of end)
settles_end words old new had end says Check told = settles_check words old new had end says told
settles_end words old new had end says (Explain question) told = settles_explain words old new had question end says told
settles_end words old new had end says (Generate count) told = generates words old new end says count told.command told.no_write_failed
settles_end words old new had end says Links told = settles_links words old new had end says told

pub complete_of : (words : List (String Global)) (old new : World) (end : Status) → Says words old new end → IsComplete words old new (code_of end)
complete_of words old new end says = record {
  settled = λ had command told. settles_end words old new had end says command told;
  generated = λ count asks steady. generates words old new end says count asks steady;
}
