-- Demand 3's words: logs, the view of an operator, what is taken, shown, settled, and the statements; Q-8 of one event; Q-14's runs with refused events.
pub mod Logs
pub mod View
pub mod Outcomes
pub mod Demand
pub mod Statements
pub mod Failing
pub mod Heard
pub mod Nothing
pub mod Differ
