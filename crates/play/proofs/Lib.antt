-- Laws of a play on its way from part to part and from block to block.
pub mod Parts
pub mod Blocks
