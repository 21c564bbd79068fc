-- Laws of the passes over the rules, and of the order in which chosen lists run.
pub mod Passes
pub mod Picking
pub mod Running
pub mod Marks
