pub mod Planned
pub mod Rows
