pub mod Examples
pub mod Loads
