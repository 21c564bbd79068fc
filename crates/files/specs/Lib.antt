-- What the functions that open files promise.
pub mod Counts
pub mod Holds
