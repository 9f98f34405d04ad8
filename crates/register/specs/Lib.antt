pub mod Told
pub mod States
