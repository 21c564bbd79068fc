-- A table's listing, what the functions that lay and read one promise, and what follows of calls.
pub mod Lines
pub mod Promises
pub mod Back
pub mod Marked
pub mod Inside
pub mod Forms
