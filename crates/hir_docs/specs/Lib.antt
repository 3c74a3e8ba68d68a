pub mod Docs
pub mod Links
pub mod Urls
pub mod inside
