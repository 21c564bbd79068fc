-- What the program's functions promise of the state, the events taken and the number.
pub mod Kept
