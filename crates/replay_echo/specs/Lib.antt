pub mod Echo
pub mod Placed
