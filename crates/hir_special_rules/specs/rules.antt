pub mod SpecialReceiver
pub mod SpecialParams
pub mod SpecialReturn
pub mod SpecialOperand
pub mod SpecialSupport
pub mod AssignReceiver
