pub mod Dressed
