pub mod Order
pub mod Catalog
