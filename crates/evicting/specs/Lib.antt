pub mod Evict
