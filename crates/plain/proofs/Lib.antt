-- Where the definition says another thing than the wish, it shows here first
pub mod AsWritten
-- The code
pub mod Reading
pub mod Decides
-- What is owed
pub mod Says
pub mod SameAsRead
pub mod WhyApart
pub mod Theorems
