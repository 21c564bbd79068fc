-- Laws of items and of runs along a lent trace.
pub mod Along
pub mod Items
pub mod Cycle
