pub mod Examples
pub mod Printing
pub mod Signed
pub mod Lines
pub mod Records
