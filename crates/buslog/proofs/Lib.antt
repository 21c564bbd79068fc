-- Laws of bus logs: runs of bytes, numbers, names, lines and whole logs.
pub mod Runs
pub mod Worth
pub mod Equal
pub mod Ticks
pub mod Spelling
pub mod Called
pub mod Giving
pub mod Taking
pub mod Logs
pub mod Resuming
pub mod Ended
pub mod Parting
pub mod Exact
