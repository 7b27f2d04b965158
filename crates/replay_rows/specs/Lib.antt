pub mod World
pub mod Poke
pub mod Meaning
pub mod Rows
pub mod Loaded
pub mod Replayed
