-- What a panel prints, and what the functions that lay it promise.
pub mod Printed
pub mod Promises
pub mod Same
pub mod Inside
pub mod Marked
