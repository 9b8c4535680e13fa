pub mod Fronts
pub mod Pieces
pub mod Gathering
pub mod Taking
