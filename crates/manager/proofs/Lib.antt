-- Laws of the public promises.
pub mod States
pub mod Steps
pub mod Playing
