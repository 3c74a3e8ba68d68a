pub mod Form
pub mod Given
pub mod Keys
pub mod KindTexts
pub mod Left
pub mod PointerTexts
pub mod Reading
pub mod inside
