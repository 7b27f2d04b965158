pub mod Deleting
pub mod Decides
