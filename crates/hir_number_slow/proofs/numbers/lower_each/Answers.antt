use Rattle.std.proofs.Common.{◌+◌, map, sym, take, ◌∙◌}
use Rattle.hir_number_slow.specs.Seen.{written_seen}
use Rattle.hir_number_slow.specs.inside.Parts.{before_seen, mode_seen}
use Rattle.hir_number_slow.proofs.NumberLemmas.{lowered_none, numbers_on, used_none, used_on}
use Rattle.hir_number_slow.proofs.StepLemmas.{map_more}
use Rattle.hir_number_slow.proofs.numbers.lower_each.Goals as goal

pub loop-lifetime-init : goal.loop-lifetime-init
loop-lifetime-init c =
    let phase = mode_seen c.args.mode in
    let s = before_seen c.args.before.now in
    record { numbers = c.new-numbers.ensures.items ∙ sym (lowered_none phase s); used = sym (used_none phase s) }

pub loop-lifetime-preserved : goal.loop-lifetime-preserved
loop-lifetime-preserved c =
    let phase = mode_seen c.args.mode in
    let s = before_seen c.args.before.now in
    let at = before_seen c.loop-lifetime.before in
    let i = c.loop-lifetime.lifetime-index in
    let lifetimes = c.args.lifetimes.now in
    let l = c.lifetime-item.result in
    let ls = map written_seen (take i lifetimes) in
    let all = map written_seen (take (i + 1) lifetimes) in
    let is = map_more written_seen lifetimes i l c.loop-lifetime-test.true c.lifetime-item.is in
    record {
      numbers =
          numbers_on phase s ls all (written_seen l) at is c.loop-lifetime.invariant.used c.loop-lifetime.numbers.items c.push.new.self.items c.in_ok-lower.field-0
          c.loop-lifetime.invariant.numbers c.in_ok-lower.ensures c.in_ok-push.ensures.items;
      used = used_on phase s ls all (written_seen l) at is c.loop-lifetime.invariant.used (before_seen c.add.new.before) c.in_ok-add.ensures;
    }
