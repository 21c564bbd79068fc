-- Laws of a log that is read part by part.
pub mod Reading
