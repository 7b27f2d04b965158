pub mod Taking
pub mod Reasons
pub mod Line
pub mod Cursor
