use Rattle.std.proofs.Common.{rules, tests, sym, ◌∙◌}
use Rattle.std.specs.Str.{IsUtf8}
use Rattle.std.proofs.lemmas.Str.{IsUtf8-past_char}
use Rattle.std.proofs.lemmas.Iterator.{YieldsList-from_chars}
use Rattle.std.proofs.lemmas.Iterator.Search.{all_from_yields_List}
use Rattle.unicode_ident.specs.Ident.{is_xid_continue}
use Rattle.bridge_text.proofs.IdentLemmas.{shaped}
use Rattle.bridge_text.proofs.idents.has_shape.Goals as goal

pub returns-then-may_start : goal.returns-then-may_start
returns-then-may_start c =
    let split = (c.in-Some.ensures.steps).0 in
    let e = sym c.chars-chars.ensures.rest ∙ split in
    let rest = c.next.new.self.rest.now in
    let utf8 : IsUtf8 rest = IsUtf8-past_char c.args.s.now rest c.in-Some.first c.utf8.s e in
    let all = all_from_yields_List is_xid_continue _ _ c.all.result c.all.ensures.ran (YieldsList-from_chars rest utf8 cc)
    (λ x b q k. search (rules, tests)) in
    shaped c.args.s.now rest c.in-Some.first c.all.result c.utf8.s e (c.may_start.ensures.0 c.if-may_start.true) all
