-- What the program's functions keep.
pub mod Kept
pub mod Held
