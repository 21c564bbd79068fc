-- The user's three demands and the requests, over what the public entries promise.
pub mod Calls
pub mod Sent
pub mod Plays
pub mod Demand1
pub mod Demand2
pub mod Demand3
pub mod Nothing
pub mod Conclusions
pub mod TwoLists
pub mod Idle
