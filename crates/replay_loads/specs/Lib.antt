pub mod Load
pub mod Cursor
