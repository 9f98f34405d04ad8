pub mod Measuring
pub mod Faulting
pub mod Filling
pub mod Stepping
pub mod Asking
pub mod Bounding
pub mod Framed
