-- What the verdict of a table promises.
pub mod Verdict
