-- A supplier's log, what the functions that read it promise, and two laws of it.
pub mod Log
pub mod Promises
pub mod Own
pub mod Window
