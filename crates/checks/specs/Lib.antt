pub mod Faults
pub mod Wrong
pub mod Closing
