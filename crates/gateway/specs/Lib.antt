-- What the calls for C cite of their own.
pub mod Version
