pub mod Made
pub mod AllUses
pub mod Notes
pub mod inside
