pub mod Held
pub mod Keeping
pub mod Rings
pub mod Wiring
