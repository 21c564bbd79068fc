-- Laws of a verdict's lines.
pub mod Lines
pub mod Unique
pub mod Cut
