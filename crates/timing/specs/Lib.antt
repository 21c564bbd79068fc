-- What the program's functions promise of the state and of the largest counts.
pub mod Kept
