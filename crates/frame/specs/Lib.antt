pub mod Faults
pub mod Held
pub mod Codes
pub mod Wrong
pub mod Steps
