pub mod Buckets
pub mod Path
