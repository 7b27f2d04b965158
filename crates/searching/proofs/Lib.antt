pub mod Stops
pub mod Queue
pub mod Slots
pub mod Visiting
pub mod FirstVisit
pub mod Endings
pub mod Inside
