-- The eight conditions as tests of one slot, counter or place each, and the verdict
pub mod Conditions
pub mod Verdict
-- What is asked of any judge; what a yes is worth; the verdict at its edges, row by row; every statement that is owed
pub mod Judges
pub mod FromThenOn
pub mod Examples
pub mod Owed
-- What the code says
pub mod Said
