-- Laws that belong to no one function.
pub mod Words
pub mod Digits
pub mod Decimal
pub mod Lay
pub mod Puts
pub mod Bytes
pub mod Runs
pub mod Unique
pub mod Examples
