-- What holding a supplier's recording against ours promises.
pub mod Promises
pub mod Cases
