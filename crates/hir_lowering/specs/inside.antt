-- What the code keeps on its way.
pub mod Walking
