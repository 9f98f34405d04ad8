pub mod Layers
pub mod Passing
