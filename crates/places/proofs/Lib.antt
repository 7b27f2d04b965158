pub mod Finds
pub mod Laws
pub mod Found
