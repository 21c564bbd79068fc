-- Laws of what is read.
pub mod Words
