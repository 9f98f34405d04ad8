pub mod Gathering
pub mod Texts
pub mod Wording
pub mod Saying
