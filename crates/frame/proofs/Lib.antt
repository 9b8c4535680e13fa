pub mod Misfits
pub mod Parts
pub mod Marks
pub mod Octets
pub mod Departures
pub mod Reading
