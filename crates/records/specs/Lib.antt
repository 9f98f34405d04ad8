pub mod Bits
pub mod Records
pub mod Layout
