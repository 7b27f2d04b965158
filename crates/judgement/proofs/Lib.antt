-- Where a definition says another thing than the wish, it shows here first
pub mod AsWritten
-- Counts, and the first of a list; the eight tests and a well-formed table; 5 and 6 at the home slots
pub mod Counting
pub mod Conditions
pub mod AtHome
-- The verdict: in turn, yes and no, any judge, wrong ones, what a yes is worth
pub mod InTurn
pub mod Sound
pub mod Judges
pub mod Refuted
pub mod FromThenOn
-- The code's outcomes
pub mod Decides
-- The roof
pub mod Theorems
