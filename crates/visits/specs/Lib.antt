-- What `cost TABLE EVENTS` prints, what its largest counts are, and what the functions that lay it promise.
pub mod Printed
pub mod Largest
pub mod Promises
pub mod Blocks
