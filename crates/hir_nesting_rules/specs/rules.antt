pub mod StructContainsItself
pub mod NestingTooDeep
