-- What a page calls a receiver is an identifier.
use Rattle.std.proofs.Common.{◌≡◌, ℕ, zero, suc, [], true, false, inl, sym, subst, arith}
use Rattle.std.specs.Prelude.{IsTrue, codes}
use Rattle.std.specs.List.{Contains, list_any}
use Rattle.std.specs.Str.{IsAscii, bytes_eq}
use Rattle.std.specs.Cmp.Lexicographic.{nat_list_eq_equiv}
use Rattle.std.proofs.lemmas.List.Elements.{All-cons, All-nil}
use Rattle.std.proofs.lemmas.Map.Views.{list_any-from_Contains}
use Rattle.std.proofs.lemmas.Str.{chars-IsAscii}
use Rattle.unicode_ident.specs.Ident.{is_xid_continue}
use Rattle.unicode_ident.proofs.IdentLemmas.{is_xid_continue-ascii, is_xid_start-ascii}
use Rattle.bridge_text.specs.Ident.{HasShape, IsIdent, reserved_words}

abbrev Continues : ℕ → Type 0
Continues c = IsTrue (is_xid_continue c)

shape : HasShape (codes "this")
shape = (
  inl (is_xid_start-ascii 116 (omega arith)),
  All-cons Continues 104 (codes "is") (is_xid_continue-ascii 104 (omega arith))
      (All-cons Continues 105 (codes "s") (is_xid_continue-ascii 105 (omega arith))
      (All-cons Continues 115 [] (is_xid_continue-ascii 115 (omega arith)) (All-nil Continues))),
)

all_ascii : IsAscii (codes "this")
all_ascii zero = omega arith
all_ascii (suc zero) = omega arith
all_ascii (suc (suc zero)) = omega arith
all_ascii (suc (suc (suc zero))) = omega arith
all_ascii (suc (suc (suc (suc i)))) = omega arith

not_reserved : ¬ (Contains reserved_words (codes "this"))
not_reserved h =
    let found : list_any (bytes_eq (codes "this")) reserved_words ≡ true = list_any-from_Contains nat_list_eq_equiv (codes "this") reserved_words h in
    let never : false ≡ true = found in
    absurd cc

pub this_is_ident : IsIdent (codes "this")
unfolding IsIdent
this_is_ident = inl (record {
  shape = subst HasShape (sym (chars-IsAscii (codes "this") all_ascii)) shape;
  not_underscore = λ e. absurd cc;
  not_reserved = not_reserved;
})
