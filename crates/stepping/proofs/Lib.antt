pub mod Moving
pub mod Entering
pub mod Decides
