pub mod Putting
pub mod Looking
pub mod Laying
pub mod Adding
