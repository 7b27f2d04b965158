pub mod Words
pub mod Cursor
