-- Laws of the calls for C.
pub mod Unique
