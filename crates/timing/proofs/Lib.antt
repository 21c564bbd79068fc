-- Laws of the state and the largest counts on their way from block to block.
pub mod Kept
