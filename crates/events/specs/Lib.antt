-- What an event call promises.
pub mod Answers
