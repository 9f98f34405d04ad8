pub mod Faulting
pub mod Finds
