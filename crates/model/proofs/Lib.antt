-- Where a definition says another thing than document 01, it shows here first
pub mod AsWritten
-- Footing: lists, the hash, what a shape's numbers are like, home slots, calm memory, how long is left, what is said of a permission, the
-- row's words, lengths and stores, the turns of the refusals, late lists, records of moves
pub mod ListLaws
pub mod Hash
pub mod ShapeLaws
pub mod HomeSlots
pub mod Calm
pub mod Left
pub mod Verdict
pub mod RowWords
pub mod Trace
pub mod Lent
pub mod Turns
pub mod Late
pub mod Records
pub mod Paper
pub mod Said
-- Pillar ROOM: legal moves and the visit list; why the search's moves are the fewest
pub mod Reach
pub mod Paths
pub mod Levels
pub mod PathMoves
pub mod Room
pub mod Positions
pub mod Search
pub mod Sources
-- Pillar WORDS: a block keeps a table well-formed; a read finds what a walk over the places finds
pub mod MovedWords
pub mod KeepBlocks
pub mod ReadWalk
-- Pillar READERS: what a reader relies on, and what it sees at a cut
pub mod View
pub mod Spare
pub mod Cut
-- Pillar HAND: the two ways of CLOCK are one, and there is always a victim
pub mod Clock
pub mod NoTen
-- One call on a well-formed table, then any run of calls
pub mod Step
pub mod StepSet
pub mod StepEvict
pub mod MaySteps
pub mod StepInSteps
pub mod MoveKeeps
pub mod Steps
pub mod Runs
pub mod RoomOnWellFormed
pub mod OnWellFormed
-- The roof: the demands, and every statement that is owed
pub mod Demand1
pub mod Demands
pub mod Never
pub mod FreshAnywhere
pub mod FreshIffLeft
pub mod FromIssue
pub mod Retired
pub mod NoneRetired
pub mod Linked
pub mod InSteps
pub mod PlanSaid
pub mod CarriedOut
pub mod PlanRoom
pub mod Theorems
