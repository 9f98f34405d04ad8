pub mod Windows
pub mod Walking
pub mod Listing
