pub mod Held
pub mod Sessions
pub mod Troubles
