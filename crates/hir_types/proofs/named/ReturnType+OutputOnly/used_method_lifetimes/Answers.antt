use Rattle.std.proofs.Common.{◌≡◌, []}
use Rattle.hir_types.specs.Named.{lifetimes_in}
use Rattle.hir_types.specs.Returns.{success_of, error_of, type_in}
use Rattle.hir_types.specs.inside.Numbers.{with_numbers}
use Rattle.hir_types.proofs.Listing.{lists_both}
use Rattle.hir_types.proofs.named.ReturnType+OutputOnly.used_method_lifetimes.Goals as goal

pub returns : goal.returns
returns c =
    let grown : c.add_numbers-2.new.numbers.keys ≡ with_numbers (with_numbers [] (lifetimes_in (type_in (success_of c.args.self.now)))) (lifetimes_in (error_of c.args.self.now)) =
    cc (c.in_ok-add_numbers-2.ensures, c.in_ok-add_numbers.ensures, c.as_type.ensures, c.success_type.ensures, c.error_type.ensures, c.new-numbers.ensures.empty) in
    lists_both _ (lifetimes_in (type_in (success_of c.args.self.now))) (lifetimes_in (error_of c.args.self.now)) c.len-count.ensures.ordered grown
