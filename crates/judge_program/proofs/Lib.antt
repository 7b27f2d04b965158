pub mod Dumps
pub mod Verdicts
pub mod Examples
