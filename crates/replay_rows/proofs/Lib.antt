pub mod Examples
pub mod Beside
pub mod Past
