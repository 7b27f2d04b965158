pub mod Poking
pub mod Listed
pub mod Beside
