-- Document 01 as definitions, one file a section. Every definition is total: any lists of words may be handed in.
pub mod Words
pub mod Table
pub mod Expressions
pub mod Reasons
pub mod State
pub mod Lists
pub mod Arbitration
pub mod Events
pub mod Step
pub mod Play
pub mod Hold
pub mod Listing
pub mod BusLog
pub mod Marked
