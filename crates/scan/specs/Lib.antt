-- What the contract of the scan cites beside the rulebook.
pub mod Judging
