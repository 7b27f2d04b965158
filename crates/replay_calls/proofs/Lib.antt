pub mod Tell
pub mod Rows
