pub mod Faulting
pub mod Sealing
