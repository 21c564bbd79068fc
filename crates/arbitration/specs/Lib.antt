-- What the contracts of the arbitration cite beside the rulebook.
pub mod Asked
pub mod Results
pub mod Picking
