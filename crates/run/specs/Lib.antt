-- What the program's functions promise of the state.
pub mod Kept
