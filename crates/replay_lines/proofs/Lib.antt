pub mod Examples
pub mod Fitting
pub mod Reasons
pub mod Rows
