pub mod Clears
pub mod Turning
pub mod Decides
