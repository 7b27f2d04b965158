pub mod Filling
pub mod Examples
