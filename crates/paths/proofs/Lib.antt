pub mod Words
pub mod Visits
pub mod Back
