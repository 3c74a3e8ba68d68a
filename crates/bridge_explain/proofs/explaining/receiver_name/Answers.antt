use Rattle.std.proofs.Common.{Err, ap}
use Rattle.bridge_explain.proofs.Receiver.{this_is_ident}
use Rattle.bridge_explain.proofs.explaining.receiver_name.Goals as goal

pub unreachable-requires : goal.unreachable-requires
unreachable-requires c = c.in-Err-Bad.ensures.bad.0 (ap Err c.in-Err-Bad.field-0-is) this_is_ident
