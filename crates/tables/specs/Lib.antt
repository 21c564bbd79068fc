-- What the table check promises.
pub mod Finding
