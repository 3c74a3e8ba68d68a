-- What the code keeps.
pub mod Direct
pub mod Seen
