-- Laws that belong to no one function.
pub mod Places
pub mod Fill
pub mod Items
pub mod Things
