-- What the plain engine says of any items
pub mod Plain
-- The wish's rule at its edges, row by row
pub mod Examples
-- What is owed: the rule without the walk, that it agrees with read, and why else the two differ
pub mod Owed
