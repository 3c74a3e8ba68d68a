pub mod MethodFitting
