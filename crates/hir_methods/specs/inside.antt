-- What the code keeps on its way.
pub mod Parts
pub mod Headings
pub mod Frames
pub mod Gathering
