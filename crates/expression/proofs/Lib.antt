-- Laws of one level of an expression, as the code goes through it.
pub mod Level
pub mod Section
