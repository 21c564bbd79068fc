-- What the public entries promise.
pub mod Answers
pub mod Promises
