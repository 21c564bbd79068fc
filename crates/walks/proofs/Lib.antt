-- A loop counts i up to e. What is left of a walk is then the e - i numbers from i on; each walk has a law for the start, for a turn
-- and for the end of such a loop.
pub mod Walks
pub mod Ranges
