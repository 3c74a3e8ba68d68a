use Rattle.bridge_read.proofs.InputLaws.{first_told}
use Rattle.bridge_read.proofs.input.env_of.Goals as goal

pub returns-in-Err-Bad : goal.returns-in-Err-Bad
returns-in-Err-Bad c d json =
    first_told d c.fault_between.result c.in-Err-Bad.field-0 c.in-Err-Bad.kind c.in-Err-Bad.at c.in-Err-Bad.field-0-2 c.args.modules
    c.in-Err-Bad.field-0-is (rw (← c.into_vec.ensures) c.in-Err-Bad.ensures.told) (rw (← c.into_vec.ensures) c.in-Err-Bad.ensures.broken) (c.fault_between.ensures d json)
