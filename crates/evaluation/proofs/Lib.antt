-- Laws of an evaluation, as the code goes through it.
pub mod Skipping
pub mod Word
pub mod Section
pub mod Level
pub mod Ready
