pub mod Shelves
pub mod Closed
pub mod Surveys
pub mod Filing
pub mod Standing
