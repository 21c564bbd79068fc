-- What the contracts of bus logs cite.
pub mod Pieces
pub mod Promises
pub mod Inside
