-- What the code keeps on its way.
pub mod Parts
pub mod Numbering
