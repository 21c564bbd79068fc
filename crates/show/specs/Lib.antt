-- What `panel OPERATOR TABLE EVENTS` prints, and what the program's functions promise.
pub mod Printed
pub mod Promises
pub mod Kept
pub mod Calls
