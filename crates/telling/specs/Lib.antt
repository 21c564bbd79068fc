-- What is told of an event of a supplier's log, and what the functions that tell it promise.
pub mod Told
pub mod Promises
pub mod Exactly
pub mod Log
