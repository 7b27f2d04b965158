pub mod Blind
pub mod Refuted
pub mod Steps
