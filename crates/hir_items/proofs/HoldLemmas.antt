-- What a store still holds.
use Rattle.std.proofs.Common.{◌≡◌, [], ◌++◌, refl, sym, ap, ◌∙◌, append_assoc, append-nil}
use Rattle.hir_modules.specs.Holding.{HoldsStill}
use Rattle.hir_reports.specs.Store.{Held, Keeps}

keeps_itself : (held : Held) → Keeps held held
keeps_itself held = record { more = []; reports = sym (append-nil held.reports); place = refl }

-- at another place, and then by what keeps what it held
pub held_on : (old mid new : Held) → mid.reports ≡ old.reports → ((earlier : Held) → Keeps earlier mid → Keeps earlier new) → HoldsStill old new
held_on old mid new same keeps =
    let kept = keeps mid (keeps_itself mid) in
    record { more = kept.more; reports = kept.reports ∙ ap (λ l. l ++ kept.more) same }

pub held_same : (old new : Held) → new.reports ≡ old.reports → HoldsStill old new
held_same old new same = record { more = []; reports = same ∙ sym (append-nil old.reports) }

pub held_then : (old mid new : Held) → HoldsStill old mid → HoldsStill mid new → HoldsStill old new
held_then old mid new first second = record {
  more = first.more ++ second.more;
  reports = second.reports ∙ ap (λ l. l ++ second.more) first.reports ∙ append_assoc old.reports first.more second.more;
}
