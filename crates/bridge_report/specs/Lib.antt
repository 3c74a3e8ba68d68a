pub mod Callables
pub mod InContext
pub mod Places
pub mod Borrowings
pub mod Page
pub mod inside
