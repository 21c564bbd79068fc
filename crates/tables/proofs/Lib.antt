-- Laws that belong to no one function.
pub mod Chain
pub mod Unique
pub mod Shapes
pub mod Stages
pub mod Accepted
