pub mod EmptyLemmas
pub mod InLemmas
pub mod OutLemmas
pub mod ReturnLemmas
pub mod FunctionLemmas
pub mod ParamLemmas
pub mod ReceiverLemmas
pub mod SignatureLemmas
