pub mod Enters
pub mod Setting
pub mod Decides
