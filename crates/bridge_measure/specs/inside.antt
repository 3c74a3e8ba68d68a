-- What the proofs keep of the made declarations.
pub mod Made
