-- Laws of what is in order from event to event, and of one event.
pub mod Kept
pub mod Held
