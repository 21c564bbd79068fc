-- What the contracts of the text cite.
pub mod Words
pub mod Lines
pub mod Puts
pub mod Raw
pub mod Window
