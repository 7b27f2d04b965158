pub mod Scan
pub mod OneWord
pub mod SignedWord
pub mod RunWords
