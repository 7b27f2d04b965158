pub mod Words
pub mod Sound
