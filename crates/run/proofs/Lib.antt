-- Laws of the state on its way from block to block.
pub mod Kept
