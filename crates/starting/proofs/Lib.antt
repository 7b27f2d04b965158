pub mod Starting
pub mod Decides
